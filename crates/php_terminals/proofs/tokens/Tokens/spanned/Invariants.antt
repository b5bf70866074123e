use Rattle.std.proofs.Common.{◌≡◌, ◌≤◌, ◌+◌, drop}
use Rattle.php_terminals.specs.Ahead.{spanned}
use Rattle.php_terminals.specs.Tokens.{tokens_in}
use Rattle.php_terminals.proofs.tokens.Tokens.spanned.Given as goal

abbrev pub invariant-loop-i : goal.invariant-loop-i
invariant-loop-i l = (spanned 0 (tokens_in l.self) ≡ l.i + spanned l.«open» (drop l.i (tokens_in l.self))) × (l.«open» ≤ l.i)
