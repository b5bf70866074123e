use Rattle.std.proofs.Common.{◌≡◌, ◌++◌, reverse, vec_len, None}
use Rattle.program_points.specs.Chosen.{default_behind}
use Rattle.program_points.specs.Rows.{tests, untested}
use Rattle.program_points.proofs.switch.test_all.Given as goal

abbrev pub invariant-loop-entry : goal.invariant-loop-entry
invariant-loop-entry l = record {
  edges : l.edges.items ++ tests l.node l.at (reverse l.left.items) ≡ l.fn.edges.items ++ tests l.node l.fn.from (reverse l.fn.entries.items);
  at : untested l.at (reverse l.left.items) ≡ untested l.fn.from (reverse l.fn.entries.items);
  default : default_behind l.default (reverse l.left.items) ≡ default_behind None (reverse l.fn.entries.items);
}

abbrev pub decreases-loop-entry : goal.decreases-loop-entry
decreases-loop-entry l = vec_len l.left
