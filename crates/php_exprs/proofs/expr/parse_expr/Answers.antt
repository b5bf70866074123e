use Rattle.std.proofs.Common.{◌≡◌, List, drop, sym, ap, ◌∙◌}
use Rattle.php_tree.specs.declared.token.Token.{Token}
use Rattle.php_terminals.specs.Marked.{all_placeless}
use Rattle.php_terminals.specs.Tokens.{tokens_in}
use Rattle.php_terminals.proofs.MarksMade.{same_tokens}
use Rattle.php_exprs.proofs.Exprs.{front_same, tokens_are}
use Rattle.php_exprs.proofs.expr.parse_expr.Goals as goal

pub whole_expr-requires-clause-same : goal.whole_expr-requires-clause-same
whole_expr-requires-clause-same c =
    let ts = c.args.tokens.now in
    let us = tokens_in c.new-placed.result in
    let is = tokens_are c.new-placed.result c.in_ok-bytes.bytes.items c.in_ok-bytes.marks.items
    (c.new-placed.ensures.bytes ∙ c.as_slice.ensures.value)
    (c.new-placed.ensures.marks ∙ c.as_slice-2.ensures.value) ∙ c.in_ok-bytes.ensures.tokens in
    let same = ap all_placeless is ∙ same_tokens 0 ts in
    front_same ts us c.args.at c.ends.end c.ends.invariant.after same
    ∙ ap all_placeless (ap (λ (xs : List Token). drop c.args.at xs) (sym c.front.ensures.tokens)
    ∙ sym c.behind-front.ensures.tokens)
