use Rattle.std.proofs.Common.{◌≡◌, ◌≤◌, ◌++◌, length, reverse, take}
use Rattle.program_points.specs.Edges.{handled}
use Rattle.program_points.proofs.walk.handled.Given as goal

abbrev pub invariant-loop-count : goal.invariant-loop-count
invariant-loop-count l = record {
  within : l.count ≤ length l.handlers;
  whole : l.edges.items ++ handled l.node (reverse (take l.count l.handlers)) ≡ l.fn.edges.items ++ handled l.node (reverse l.handlers);
}

abbrev pub decreases-loop-count : goal.decreases-loop-count
decreases-loop-count l = l.count
