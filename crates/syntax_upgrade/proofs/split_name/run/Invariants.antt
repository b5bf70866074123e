use Rattle.std.proofs.Common.{◌≤◌, ◌-◌, length}
use Rattle.php_terminals.specs.Tokens.{tokens_in}
use Rattle.syntax_upgrade.proofs.split_name.run.Given as goal

abbrev pub invariant-loop-count : goal.invariant-loop-count
invariant-loop-count l = l.count ≤ length (tokens_in l.fn.tokens)

abbrev pub decreases-loop-count : goal.decreases-loop-count
decreases-loop-count l = length (tokens_in l.fn.tokens) - l.count
