use Rattle.std.proofs.Common.{◌≡◌, ◌++◌, reverse, vec_len}
use Rattle.program_points.specs.declared.point.Point.TheVariants.{After}
use Rattle.program_points.specs.Rows.{entries}
use Rattle.program_points.proofs.switch.entries_of.Given as goal

abbrev pub invariant-loop-case : goal.invariant-loop-case
invariant-loop-case l = entries l.left.items l.at ++ reverse l.entries.items ≡ entries l.fn.cases.items (After l.node)

abbrev pub decreases-loop-case : goal.decreases-loop-case
decreases-loop-case l = vec_len l.left
