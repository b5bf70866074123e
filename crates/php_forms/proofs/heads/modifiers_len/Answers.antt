use Rattle.std.proofs.Common.{◌≡◌, ◌<◌, ◌≤◌, length, arith, sym, ap, ◌∙◌}
use Rattle.php_terminals.specs.Classify.{is_modifier}
use Rattle.php_terminals.specs.Tokens.{tokens_in}
use Rattle.php_forms.proofs.Modifiers.{modifiers_more, modifiers_end, modifiers_all}
use Rattle.php_forms.proofs.heads.modifiers_len.Goals as goal

pub returns-then-not-is_modifier : goal.returns-then-not-is_modifier
returns-then-not-is_modifier c =
    let n = c.len-i-end.ensures in
    omega (
      arith,
      c.loop-i.invariant,
      modifiers_end (tokens_in c.args.tokens) c.loop-i.i (omega arith)
          (ap is_modifier (sym c.class.ensures) ∙ sym c.is_modifier.ensures ∙ c.if-not-is_modifier.true),
    )

pub loop-i-preserved : goal.loop-i-preserved
loop-i-preserved c =
    let n = c.len-i-end.ensures in
    omega (
      arith,
      c.loop-i.invariant,
      modifiers_more (tokens_in c.args.tokens) c.loop-i.i (omega arith)
          (ap is_modifier (sym c.class.ensures) ∙ sym c.is_modifier.ensures ∙ c.if-not-is_modifier.false),
    )

pub returns : goal.returns
returns c =
    let n = c.len-i-end.ensures in
    omega (arith, c.loop-i.invariant, modifiers_all (tokens_in c.args.tokens) c.loop-i.i (omega arith))
