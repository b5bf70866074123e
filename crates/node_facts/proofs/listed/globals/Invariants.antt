use Rattle.std.proofs.Common.{◌≡◌, ◌++◌}
use Rattle.std.specs.Prelude.{map}
use Rattle.php_rows.specs.Reading.{forest_in, weight}
use Rattle.node_names.specs.Slots.{with_global, kid_variables}
use Rattle.node_facts.specs.Seen.{slots_in}
use Rattle.node_facts.specs.Standing.{standing_of}
use Rattle.node_facts.proofs.listed.globals.Given as goal

abbrev pub invariant-parts : goal.invariant-parts
invariant-parts l =
    map (slots_in l.scene.spot.path.now) l.slots.items ++ map (with_global (standing_of l.scene)) (kid_variables (forest_in l.left))
    ≡ map (slots_in l.scene.spot.path.now) l.fn.slots.items ++ map (with_global (standing_of l.scene)) (kid_variables (forest_in l.fn.parts))

abbrev pub decreases-parts : goal.decreases-parts
decreases-parts l = weight (forest_in l.left)
