use Rattle.std.proofs.Common.{◌≡◌, ◌+◌, drop}
use Rattle.php_terminals.specs.Tokens.{tokens_in}
use Rattle.php_forms.specs.Heads.{modifiers_len}
use Rattle.php_forms.proofs.heads.modifiers_len.Given as goal

abbrev pub invariant-loop-i : goal.invariant-loop-i
invariant-loop-i l = modifiers_len (tokens_in l.tokens) ≡ l.i + modifiers_len (drop l.i (tokens_in l.tokens))
