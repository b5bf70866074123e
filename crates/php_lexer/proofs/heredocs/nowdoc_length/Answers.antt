use Rattle.std.proofs.Common.{◌≡◌, ℕ, ◌+◌, ◌≤◌, ◌<◌, length, Option, Some, None, true, sym, ap, arith}
use Rattle.std.specs.Prelude.{IfSome}
use Rattle.php_lexer.specs.Heredocs.{begins_nowdoc}
use Rattle.php_lexer.proofs.Within.{head_within, body_within}
use Rattle.php_lexer.proofs.heredocs.nowdoc_length.Goals as goal

pub split_at-requires : goal.split_at-requires
split_at-requires c =
    let e : begins_nowdoc c.args.bytes.now ≡ true = sym c.if-not-opens_nowdoc.ensures in
    let le = head_within c.args.bytes.now e in
    let size = ap length c.quoted_label-label.ensures in
    let blank = c.blanks.ensures.count in
    omega arith

bounded : (o : Option ℕ) (k n w : ℕ) → IfSome o (λ m. m ≤ n) → k + n < w → IfSome o (λ m. k + m < w)
bounded None k n w h lt = tt
bounded (Some m) k n w h lt = omega arith

pub longer_by-requires : goal.longer_by-requires
longer_by-requires c = bounded c.body_length.result (c.blanks.result + length c.quoted_label-label.result.now + 2)
    (length c.split_at.result.1.now) 18446744073709551616
    (body_within c.quoted_label-label.result.now c.split_at.result.1.now c.body_length.result c.body_length.ensures)
    (omega arith)
