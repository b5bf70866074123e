use Rattle.std.proofs.Common.{arith, sym, ◌∙◌}
use Rattle.php_terminals.proofs.NextTokens.{dollars_more, dollars_end}
use Rattle.php_terminals.proofs.tokens.Tokens.dollars.Goals as goal

pub returns-then-not-is_dollar : goal.returns-then-not-is_dollar
returns-then-not-is_dollar c = omega (arith, c.loop-i.invariant, dollars_end c.args.self c.loop-i.i c.loop-i-test.true (sym c.is_dollar.ensures ∙ c.if-not-is_dollar.true))

pub loop-i-preserved : goal.loop-i-preserved
loop-i-preserved c = omega (arith, c.loop-i.invariant, dollars_more c.args.self c.loop-i.i c.loop-i-test.true (sym c.is_dollar.ensures ∙ c.if-not-is_dollar.false))
