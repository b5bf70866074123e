use Rattle.std.proofs.Common.{◌≡◌, ◌++◌, drop}
use Rattle.std.specs.Prelude.{map}
use Rattle.node_names.specs.Seen.{texts_of}
use Rattle.node_names.specs.Slots.{twice, variable}
use Rattle.node_facts.specs.Seen.{slots_in}
use Rattle.node_facts.specs.Standing.{standing_of}
use Rattle.node_facts.proofs.listed.caught.Given as goal

abbrev pub invariant-loop-name : goal.invariant-loop-name
invariant-loop-name l =
    map (slots_in l.scene.spot.path.now) l.slots.items ++ map (λ name. twice (variable (standing_of l.scene) name)) (texts_of (drop l.name-index l.words))
    ≡ map (slots_in l.scene.spot.path.now) l.fn.slots.items ++ map (λ name. twice (variable (standing_of l.scene) name)) (texts_of l.words)
