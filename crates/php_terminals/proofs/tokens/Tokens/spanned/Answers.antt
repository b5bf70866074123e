use Rattle.std.proofs.Common.{◌≡◌, drop, arith, sym, ◌∙◌}
use Rattle.php_terminals.specs.Ahead.{spanned}
use Rattle.php_terminals.specs.Tokens.{tokens_in}
use Rattle.php_terminals.proofs.NextTokens.{span_open, span_plain, span_end, span_close}
use Rattle.php_terminals.proofs.tokens.Tokens.spanned.Goals as goal

pub loop-i-preserved-then-opens : goal.loop-i-preserved-then-opens
loop-i-preserved-then-opens c = (
  omega (
    arith,
    c.loop-i.invariant.0,
    span_open c.args.self c.loop-i.i c.loop-i.«open» c.loop-i-test.true (sym c.opens.ensures ∙ c.if-opens.true),
  ),
  omega (arith, c.loop-i.invariant.1),
)

pub loop-i-preserved-then-not-closes : goal.loop-i-preserved-then-not-closes
loop-i-preserved-then-not-closes c = (
  omega (
    arith,
    c.loop-i.invariant.0,
    span_plain c.args.self c.loop-i.i c.loop-i.«open» c.loop-i-test.true (sym c.opens.ensures ∙ c.if-opens.false)
        (sym c.closes.ensures ∙ c.if-not-closes.true),
  ),
  omega (arith, c.loop-i.invariant.1),
)

pub returns-then-open-eq0 : goal.returns-then-open-eq0
returns-then-open-eq0 c =
    let none : spanned c.loop-i.«open» (drop c.loop-i.i (tokens_in c.args.self)) ≡ 0 =
    rw c.if-open-eq0.true (span_end c.args.self c.loop-i.i c.loop-i-test.true
    (sym c.opens.ensures ∙ c.if-opens.false) (sym c.closes.ensures ∙ c.if-not-closes.false)) in
    omega (arith, c.loop-i.invariant.0, none)

pub loop-i-preserved : goal.loop-i-preserved
loop-i-preserved c = (
  omega (
    arith,
    c.loop-i.invariant.0,
    span_close c.args.self c.loop-i.i c.loop-i.«open»
        c.loop-i-test.true (omega (arith, c.if-open-eq0.false)) (sym c.opens.ensures ∙ c.if-opens.false)
        (sym c.closes.ensures ∙ c.if-not-closes.false),
  ),
  omega (arith, c.loop-i.invariant.1),
)
