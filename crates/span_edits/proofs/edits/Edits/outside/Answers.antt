-- The byte is replaced exactly where the first edit that ends behind it begins there or before.
use Rattle.std.proofs.Common.{List, not, sym, ap, ◌∙◌}
use Rattle.span_edits.specs.declared.edit.Edit.{Edit}
use Rattle.span_edits.specs.EditList.{EditList, AreApart}
use Rattle.span_edits.specs.Splice.{is_replaced}
use Rattle.span_edits.proofs.SpliceLemmas.{is_replaced-by_first, is_replaced-end}
use Rattle.span_edits.proofs.edits.Edits.outside.Goals as goal

pub returns-in-Some : goal.returns-in-Some
returns-in-Some c =
    let edits = c.as_slice-edits.result.now in
    let value = c.as_slice-edits.ensures.value in
    let apart : AreApart 0 edits c.self.inside.len = rw value c.self.invariant in
    is_replaced-by_first c.args.place c.self.inside.len edits c.first_after-at.result c.in-Some.edit.now apart
    c.first_after-at.ensures c.in-Some.ensures.lookup.3.0 c.in-Some.ensures.lookup.1
    ∙ ap (λ (es : List Edit). not (is_replaced c.args.place es)) (value ∙ ap (λ (v : EditList). v.edits) c.self.view_is)

pub returns-in-None : goal.returns-in-None
returns-in-None c =
    let edits = c.as_slice-edits.result.now in
    let value = c.as_slice-edits.ensures.value in
    sym (ap not (is_replaced-end c.args.place edits c.first_after-at.result c.first_after-at.ensures c.in-None.ensures.lookup.3))
    ∙ ap (λ (es : List Edit). not (is_replaced c.args.place es)) (value ∙ ap (λ (v : EditList). v.edits) c.self.view_is)
