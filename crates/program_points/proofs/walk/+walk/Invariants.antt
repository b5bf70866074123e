use Rattle.std.proofs.Common.{ℕ, ◌+◌, ◌*◌, ◌++◌}
use Rattle.php_rows.specs.Reading.{forest_in, weight}
use Rattle.program_points.specs.Edges.{edges}
use Rattle.program_points.specs.Walked.{around_in, around_of}
use Rattle.program_points.proofs.WalkLemmas.{Walked}
use Rattle.program_points.proofs.walk.+walk.Given as goal

-- the parts of a node lead to those below, a node to its own parts
abbrev pub decreases-walk_parts : goal.decreases-walk_parts
decreases-walk_parts l = 4 * weight (forest_in l.parts)

abbrev pub decreases-walk_loop : goal.decreases-walk_loop
decreases-walk_loop l = 4 * weight (forest_in l.parts) + 1

abbrev pub decreases-walk_try : goal.decreases-walk_try
decreases-walk_try l = 4 * weight (forest_in l.parts) + 2

abbrev pub decreases-walk_node : goal.decreases-walk_node
decreases-walk_node l = 4 * weight (forest_in l.parts) + 3

abbrev pub invariant-walk_parts-parts : goal.invariant-walk_parts-parts
invariant-walk_parts-parts l =
    Walked (λ (m : ℕ). around_of l.fn.stacks) (weight (forest_in l.fn.parts))
    (l.fn.edges.items ++ edges (λ (m : ℕ). around_of l.fn.stacks) l.fn.parts.number (forest_in l.fn.parts))
    l.edges.items l.left.number (forest_in l.left) l.fn.stacks l.stacks

abbrev pub decreases-walk_parts-parts : goal.decreases-walk_parts-parts
decreases-walk_parts-parts l = weight (forest_in l.left)

abbrev pub invariant-walk_try-parts : goal.invariant-walk_try-parts
invariant-walk_try-parts l =
    Walked (around_in l.tried (around_of l.fn.stacks)) (weight (forest_in l.fn.parts))
    (l.fn.edges.items ++ edges (around_in l.tried (around_of l.fn.stacks)) l.fn.parts.number (forest_in l.fn.parts))
    l.edges.items l.left.number (forest_in l.left) l.fn.stacks l.stacks

abbrev pub decreases-walk_try-parts : goal.decreases-walk_try-parts
decreases-walk_try-parts l = weight (forest_in l.left)
