use Rattle.std.proofs.Common.{◌≡◌}
use Rattle.table_rows.proofs.edits.added.Given as goal

abbrev pub invariant-loop-word : goal.invariant-loop-word
invariant-loop-word l = l.edits.len ≡ 6
