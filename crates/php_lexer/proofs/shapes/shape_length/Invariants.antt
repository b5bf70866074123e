use Rattle.std.proofs.Common.{◌≡◌, drop}
use Rattle.php_lexer.specs.Scan.{shape_len, add_to, or_else}
use Rattle.php_lexer.proofs.shapes.shape_length.Given as goal

abbrev pub invariant-loop-at : goal.invariant-loop-at
invariant-loop-at l = shape_len l.shape l.fn.first l.bytes ≡ or_else (add_to l.at (shape_len l.shape l.spot (drop l.at l.bytes))) l.best
