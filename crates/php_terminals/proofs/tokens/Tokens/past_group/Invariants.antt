use Rattle.std.proofs.Common.{◌≡◌, ◌≤◌, drop}
use Rattle.php_terminals.specs.Ahead.{past_group}
use Rattle.php_terminals.specs.Tokens.{tokens_in}
use Rattle.php_terminals.proofs.tokens.Tokens.past_group.Given as goal

abbrev pub invariant-loop-i : goal.invariant-loop-i
invariant-loop-i l = (past_group 0 (tokens_in l.self) ≡ past_group l.«open» (drop l.i (tokens_in l.self))) × (l.«open» ≤ l.i)
