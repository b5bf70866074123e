use Rattle.std.proofs.Common.{◌≡◌, ◌+◌, drop}
use Rattle.php_terminals.specs.Ahead.{name_len}
use Rattle.php_terminals.specs.Tokens.{tokens_in}
use Rattle.php_terminals.proofs.tokens.Tokens.name_len.Given as goal

abbrev pub invariant-loop-i : goal.invariant-loop-i
invariant-loop-i l = name_len (tokens_in l.self) ≡ l.i + name_len (drop l.i (tokens_in l.self))
