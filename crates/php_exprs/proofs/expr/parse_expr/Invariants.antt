use Rattle.std.proofs.Common.{◌≤◌, ◌<◌, ℕ, length}
use Rattle.php_exprs.specs.Expr.{IsNone, between}
use Rattle.php_exprs.proofs.expr.parse_expr.Given as goal

abbrev pub invariant-ends : goal.invariant-ends
invariant-ends l = record {
  after : l.at ≤ l.end;
  within : l.end ≤ length l.tokens;
  none : (n : ℕ) → l.end < n → n ≤ length l.tokens → IsNone l.version l.depth (between l.at n l.tokens);
}

abbrev pub decreases-ends : goal.decreases-ends
decreases-ends l = l.end
