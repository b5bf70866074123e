use Rattle.std.proofs.Common.{◌≡◌, ◌++◌, length}
use Rattle.program_points.specs.Chosen.{chosen, pieces_of}
use Rattle.program_points.specs.Rows as rows
use Rattle.program_points.proofs.chains.run.Given as goal

abbrev pub invariant-loop-left : goal.invariant-loop-left
invariant-loop-left l = record {
  edges : l.edges.items ++ rows.run l.node l.at (chosen l.which (pieces_of l.left)) ≡ l.fn.edges.items ++ rows.run l.node l.fn.from (chosen l.which (pieces_of l.pieces));
  last : rows.last_or (chosen l.which (pieces_of l.left)) l.at ≡ rows.last_or (chosen l.which (pieces_of l.pieces)) l.fn.from;
}

abbrev pub decreases-loop-left : goal.decreases-loop-left
decreases-loop-left l = length l.left
