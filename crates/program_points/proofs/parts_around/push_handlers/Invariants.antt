use Rattle.std.proofs.Common.{◌≡◌, ◌≤◌, ◌++◌, drop, length, reverse}
use Rattle.program_points.specs.Chosen.{pieces_of}
use Rattle.program_points.specs.Edges.{handlers_of}
use Rattle.program_points.specs.Pieces.{stmts}
use Rattle.program_points.proofs.parts_around.push_handlers.Given as goal

abbrev pub invariant-loop-count : goal.invariant-loop-count
invariant-loop-count l = record {
  within : l.count ≤ length l.pieces;
  whole : l.handlers.items ≡ l.fn.handlers.items ++ reverse (handlers_of l.of (stmts (pieces_of (drop l.count l.pieces))));
}

abbrev pub decreases-loop-count : goal.decreases-loop-count
decreases-loop-count l = l.count
