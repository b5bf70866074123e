use Rattle.std.proofs.Common.{◌≡◌, ◌++◌, length, map}
use Rattle.program_points.specs.Numbers.{numbered}
use Rattle.program_points.proofs.numbers.add_edges.Given as goal

abbrev pub invariant-loop-left : goal.invariant-loop-left
invariant-loop-left l = l.edges.items ++ map (numbered l.file l.numbers) l.left ≡ l.fn.edges.items ++ map (numbered l.file l.numbers) l.own

abbrev pub decreases-loop-left : goal.decreases-loop-left
decreases-loop-left l = length l.left
