use Rattle.std.proofs.Common.{◌≡◌, drop}
use Rattle.php_terminals.specs.Words.{is_word}
use Rattle.php_terminals.proofs.words.is_word.Given as goal

abbrev pub invariant-loop-i : goal.invariant-loop-i
invariant-loop-i l = is_word l.word l.text ≡ is_word (drop l.i l.word) (drop l.i l.text)
