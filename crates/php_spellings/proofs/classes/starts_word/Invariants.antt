use Rattle.std.proofs.Common.{◌≡◌, drop}
use Rattle.php_spellings.specs.Bytes.{starts_word}
use Rattle.php_spellings.proofs.classes.starts_word.Given as goal

abbrev pub invariant-loop-at : goal.invariant-loop-at
invariant-loop-at l = starts_word l.word l.bytes ≡ starts_word (drop l.at l.word) (drop l.at l.bytes)
