use Rattle.std.proofs.Common.{◌≡◌, ◌+◌, drop}
use Rattle.php_lexer.specs.Scan.{run_len}
use Rattle.php_lexer.proofs.walks.any_run.Given as goal

abbrev pub invariant-loop-at : goal.invariant-loop-at
invariant-loop-at l = run_len l.run l.label l.fn.first l.bytes ≡ l.at + run_len l.run l.label l.state (drop l.at l.bytes)
