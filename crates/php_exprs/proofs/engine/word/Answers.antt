use Rattle.std.proofs.Common.{◌≡◌, ◌<◌, false, true, List, length, drop, refl, sym, ap, ◌∙◌, arith}
use Rattle.std.proofs.lemmas.Grind.{common_steps}
use Rattle.php_terminals.specs.Marked.{token_at}
use Rattle.php_terminals.specs.Tokens.{tokens_in}
use Rattle.php_grammar.specs.Tables.{php}
use Rattle.php_exprs.specs.Built.{behind}
use Rattle.php_exprs.proofs.Grown.{head_is}
use Rattle.php_exprs.proofs.Steps.{word_extends, word_other}
use Rattle.php_exprs.proofs.engine.word.Goals as goal

pub returns-then-not-accepts : goal.returns-then-not-accepts
returns-then-not-accepts c = λ limit.
    let left = tokens_in c.rest-left.result in
    let some : 0 < length left = grind (arith, common_steps) in
    let t = token_at c.rest-left.result.bytes.now c.mark.result in
    let e = sym c.rest-left.ensures.rest ∙ head_is left t some c.mark.ensures.token in
    word_other (php c.args.version) c.args.terminal (behind (tokens_in c.args.tokens) c.args.row.now) (drop 1 left) t e (sym c.accepts.ensures ∙ c.if-not-accepts.true)

pub returns : goal.returns
returns c = λ limit.
    let left = tokens_in c.rest-left.result in
    let some : 0 < length left = grind (arith, common_steps) in
    let t = token_at c.rest-left.result.bytes.now c.mark.result in
    let e = sym c.rest-left.ensures.rest ∙ head_is left t some c.mark.ensures.token in
    word_extends c.args.version (tokens_in c.args.tokens) c.args.terminal (c.args.row.now, c.args.reach.now)
    (c.leaf.new.self, c.leaf-2.new.self) limit t (drop 1 left) e (sym c.accepts.ensures ∙ c.if-not-accepts.false)
    (c.in_ok-leaf.ensures.grew t) c.in_ok-leaf.ensures.at c.leaf-2.ensures.deep c.leaf-2.ensures.edge
