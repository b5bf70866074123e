use Rattle.std.proofs.Common.{◌≡◌, drop}
use Rattle.php_spellings.specs.Bytes.{starts}
use Rattle.php_spellings.proofs.classes.starts_with.Given as goal

abbrev pub invariant-loop-at : goal.invariant-loop-at
invariant-loop-at l = starts l.word l.bytes ≡ starts (drop l.at l.word) (drop l.at l.bytes)
