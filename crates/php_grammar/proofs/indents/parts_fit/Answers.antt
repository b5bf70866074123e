use Rattle.std.proofs.Common.{◌≡◌, ℕ, Bool, List, sym, ap, ◌∙◌}
use Rattle.php_terminals.specs.Indents.{parts_fit}
use Rattle.php_terminals.specs.Marked.{token_at}
use Rattle.php_rows.specs.declared.parts.Parts.{Parts}
use Rattle.php_rows.specs.Reading.{forest_in}
use Rattle.php_grammar.proofs.PartLemmas.{bytes_same, fits_token, unfit_token}
use Rattle.php_grammar.proofs.indents.parts_fit.Goals as goal

fresh_same : (indent : List ℕ) (p : Parts) (a b : Bool) → a ≡ b → parts_fit indent a (forest_in p) ≡ parts_fit indent b (forest_in p)
fresh_same indent p a b e = ap (λ (x : Bool). parts_fit indent x (forest_in p)) e

pub returns-then-not-leaf_fits_by : goal.returns-then-not-leaf_fits_by
returns-then-not-leaf_fits_by c =
    let l = rw c.in-Some-Leaf.field-0-is at c.in-Some-Leaf.ensures in
    let m = c.in-Some-Leaf.mark in
    let text = c.text_of-text.ensures ∙ ap (λ (b : List ℕ). (token_at b m).text) (c.bytes.ensures ∙ bytes_same m c.parts.left c.next.new.self l) in
    sym (c.parts.invariant ∙ unfit_token c.args.indent.now c.parts.fresh m c.parts.left c.next.new.self
    c.text_of-text.result.now l text (sym c.leaf_fits_by.ensures ∙ c.if-not-leaf_fits_by.true))

pub parts-preserved-in-Some-Leaf : goal.parts-preserved-in-Some-Leaf
parts-preserved-in-Some-Leaf c =
    let l = rw c.in-Some-Leaf.field-0-is at c.in-Some-Leaf.ensures in
    let m = c.in-Some-Leaf.mark in
    let text = c.text_of-text.ensures ∙ ap (λ (b : List ℕ). (token_at b m).text) (c.bytes.ensures ∙ bytes_same m c.parts.left c.next.new.self l) in
    c.parts.invariant ∙ fits_token c.args.indent.now c.parts.fresh m c.parts.left c.next.new.self
    c.text_of-text.result.now l text (sym c.leaf_fits_by.ensures ∙ c.if-not-leaf_fits_by.false)
    ∙ fresh_same c.args.indent.now c.next.new.self _ _ (sym c.fresh_by-fresh.ensures)
