use Rattle.std.proofs.Common.{arith, sym, ◌∙◌}
use Rattle.php_terminals.proofs.NextTokens.{name_more, name_end}
use Rattle.php_terminals.proofs.tokens.Tokens.name_len.Goals as goal

pub returns-then-not-is_name_part : goal.returns-then-not-is_name_part
returns-then-not-is_name_part c = omega (arith, c.loop-i.invariant, name_end c.args.self c.loop-i.i c.loop-i-test.true (sym c.is_name_part.ensures ∙ c.if-not-is_name_part.true))

pub loop-i-preserved : goal.loop-i-preserved
loop-i-preserved c = omega (arith, c.loop-i.invariant, name_more c.args.self c.loop-i.i c.loop-i-test.true (sym c.is_name_part.ensures ∙ c.if-not-is_name_part.false))
