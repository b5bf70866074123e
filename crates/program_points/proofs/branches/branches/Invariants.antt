use Rattle.std.proofs.Common.{◌≡◌, ◌++◌}
use Rattle.program_points.specs.declared.point.Point.TheVariants.{Before}
use Rattle.program_points.specs.Chosen.{pieces_of}
use Rattle.program_points.specs.Rows as rows
use Rattle.program_points.proofs.branches.branches.Given as goal

abbrev pub invariant-branches : goal.invariant-branches
invariant-branches l =
    l.edges.items ++ rows.branches (rows.size (pieces_of l.left)) l.node l.from (pieces_of l.left)
    ≡ l.fn.edges.items ++ rows.branches (rows.size (pieces_of l.pieces)) l.node (Before l.node) (pieces_of l.pieces)

abbrev pub decreases-branches : goal.decreases-branches
decreases-branches l = rows.size (pieces_of l.left)
