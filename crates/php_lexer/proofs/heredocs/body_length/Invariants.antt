use Rattle.std.proofs.Common.{◌≡◌, drop, false}
use Rattle.php_lexer.specs.Scan.{body_len, add_to}
use Rattle.php_lexer.proofs.heredocs.body_length.Given as goal

abbrev pub invariant-loop-at : goal.invariant-loop-at
invariant-loop-at l = body_len l.label false l.bytes ≡ add_to l.at (body_len l.label l.fresh (drop l.at l.bytes))
