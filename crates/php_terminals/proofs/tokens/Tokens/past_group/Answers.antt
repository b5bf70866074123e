use Rattle.std.proofs.Common.{arith, sym, ap, ◌∙◌}
use Rattle.php_terminals.specs.Ahead.{first_of}
use Rattle.php_terminals.proofs.NextTokens.{past_open, past_plain, past_last, past_close}
use Rattle.php_terminals.proofs.tokens.Tokens.past_group.Goals as goal

pub loop-i-preserved-then-opens : goal.loop-i-preserved-then-opens
loop-i-preserved-then-opens c = (
  c.loop-i.invariant.0 ∙ past_open c.args.self c.loop-i.i c.loop-i.«open»
      c.loop-i-test.true (sym c.opens.ensures ∙ c.if-opens.true),
  omega (arith, c.loop-i.invariant.1),
)

pub loop-i-preserved-then-not-closes : goal.loop-i-preserved-then-not-closes
loop-i-preserved-then-not-closes c = (
  c.loop-i.invariant.0 ∙ past_plain c.args.self c.loop-i.i c.loop-i.«open»
      c.loop-i-test.true (sym c.opens.ensures ∙ c.if-opens.false) (sym c.closes.ensures ∙ c.if-not-closes.true),
  omega (arith, c.loop-i.invariant.1),
)

pub returns-then-open-le1 : goal.returns-then-open-le1
returns-then-open-le1 c = c.class.ensures
    ∙ sym (ap first_of (c.loop-i.invariant.0 ∙ past_last c.args.self c.loop-i.i c.loop-i.«open» c.loop-i-test.true
    c.if-open-le1.true (sym c.opens.ensures ∙ c.if-opens.false) (sym c.closes.ensures ∙ c.if-not-closes.false)))

pub loop-i-preserved : goal.loop-i-preserved
loop-i-preserved c = (
  c.loop-i.invariant.0 ∙ past_close c.args.self c.loop-i.i c.loop-i.«open» c.loop-i-test.true
      c.if-open-le1.false (sym c.opens.ensures ∙ c.if-opens.false) (sym c.closes.ensures ∙ c.if-not-closes.false),
  omega (arith, c.loop-i.invariant.1),
)
