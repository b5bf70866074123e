use Rattle.std.proofs.Common.{◌≡◌, drop}
use Rattle.builtin_tables.specs.Named.{found_exactly, rows_of}
use Rattle.builtin_tables.proofs.named.find_exact_row.Given as goal

abbrev pub invariant-loop-word : goal.invariant-loop-word
invariant-loop-word g l = found_exactly (rows_of l.rows) l.name ≡ found_exactly (rows_of (drop l.word-index l.rows)) l.name
