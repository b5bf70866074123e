use Rattle.std.proofs.Common.{◌≡◌, ◌++◌, length}
use Rattle.program_points.specs.declared.point.Point.TheVariants.{Before}
use Rattle.program_points.specs.Chosen.{chosen, pieces_of}
use Rattle.program_points.specs.Rows as rows
use Rattle.program_points.proofs.expressions.until_missing.Given as goal

abbrev pub invariant-loop-left : goal.invariant-loop-left
invariant-loop-left l =
    l.edges.items ++ rows.until_missing l.node l.at (chosen l.which (pieces_of l.left))
    ≡ l.fn.edges.items ++ rows.until_missing l.node (Before l.node) (chosen l.which (pieces_of l.pieces))

abbrev pub decreases-loop-left : goal.decreases-loop-left
decreases-loop-left l = length l.left
