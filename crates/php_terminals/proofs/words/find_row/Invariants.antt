use Rattle.std.proofs.Common.{◌≡◌, drop}
use Rattle.php_terminals.specs.Words.{find_row, rows_of}
use Rattle.php_terminals.proofs.words.find_row.Given as goal

abbrev pub invariant-loop-word : goal.invariant-loop-word
invariant-loop-word l = find_row l.other (rows_of l.rows) l.text ≡ find_row l.other (rows_of (drop l.word-index l.rows)) l.text
