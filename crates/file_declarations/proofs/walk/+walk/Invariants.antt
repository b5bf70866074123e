use Rattle.std.proofs.Common.{◌≡◌, ℕ, ◌+◌, ◌*◌, ◌++◌}
use Rattle.php_rows.specs.Reading.{forest_in, weight}
use Rattle.file_declarations.specs.Standing.{site_at}
use Rattle.file_declarations.specs.Told.{told}
use Rattle.file_declarations.proofs.Walking.{Holds}
use Rattle.file_declarations.proofs.walk.+walk.Given as goal

-- the parts of a node lead to those below, a node to its own parts
abbrev pub decreases-walk_parts : goal.decreases-walk_parts
decreases-walk_parts l = 2 * weight (forest_in l.parts)

abbrev pub decreases-walk_node : goal.decreases-walk_node
decreases-walk_node l = 2 * weight (forest_in l.parts) + 1

abbrev pub invariant-walk_parts-parts : goal.invariant-walk_parts-parts
invariant-walk_parts-parts l =
    Holds l.fn.spot.path.now l.fn.spot.space.now l.fn.spot.file l.fn.spot.is_top l.fn.imports.items (weight (forest_in l.fn.parts))
    (l.fn.told.items ++ told l.fn.spot.file l.fn.parts.number
    (site_at l.fn.spot.path.now l.fn.spot.space.now l.fn.spot.from l.fn.imports.items) l.fn.spot.is_top
    (forest_in l.fn.parts))
    l.told.items l.left.number l.standing.own l.standing.from l.imports.items (forest_in l.left)

abbrev pub decreases-walk_parts-parts : goal.decreases-walk_parts-parts
decreases-walk_parts-parts l = weight (forest_in l.left)
