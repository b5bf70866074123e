use Rattle.std.proofs.Common.{◌≡◌, Bool, false, drop, sym, ap, ◌∙◌, arith}
use Rattle.std.proofs.lemmas.Grind.{common_steps}
use Rattle.php_terminals.specs.Indents.{is_indented, line_fits}
use Rattle.php_terminals.proofs.IndentLemmas.{misfit}
use Rattle.php_terminals.proofs.indents.is_indented.Goals as goal

pub returns-then-not-line_fits : goal.returns-then-not-line_fits
returns-then-not-line_fits c =
    let h : line_fits c.args.indent.now (drop c.loop-i.i c.args.text.now) ≡ false = grind (arith, common_steps) in
    sym (c.loop-i.invariant ∙ ap (λ (fresh : Bool). is_indented c.args.indent.now fresh
    (drop c.loop-i.i c.args.text.now)) c.if-begins.true ∙ misfit c.args.indent.now c.args.text.now c.loop-i.i
    c.loop-i-test.true h)
