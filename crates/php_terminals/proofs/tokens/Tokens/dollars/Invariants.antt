use Rattle.std.proofs.Common.{◌≡◌, ◌+◌, drop}
use Rattle.php_terminals.specs.Ahead.{dollars}
use Rattle.php_terminals.specs.Tokens.{tokens_in}
use Rattle.php_terminals.proofs.tokens.Tokens.dollars.Given as goal

abbrev pub invariant-loop-i : goal.invariant-loop-i
invariant-loop-i l = dollars (tokens_in l.self) ≡ l.i + dollars (drop l.i (tokens_in l.self))
