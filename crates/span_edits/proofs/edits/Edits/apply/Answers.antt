-- The next edit lies apart from what was made so far, and one edit more leaves the same splice.
use Rattle.std.proofs.Common.{◌≡◌, ◌+◌, ◌++◌, [], drop, sym, ap, ◌∙◌, arith}
use Rattle.std.proofs.lemmas.List.{drop_all}
use Rattle.span_edits.specs.Splice.{spliced_from}
use Rattle.span_edits.proofs.PlaceLemmas.{AreApart-next, AreApart-within}
use Rattle.span_edits.proofs.SpliceLemmas.{spliced_from-more, spliced_from-none}
use Rattle.span_edits.proofs.edits.Edits.apply.Goals as goal

pub split_at-requires : goal.split_at-requires
split_at-requires c =
    let e = c.edit-item.result in
    let edits = c.as_slice-edit-items.result.now in
    let apart = AreApart-next c.loop-edit.at c.args.self.now.len edits c.loop-edit.edit-index e c.loop-edit.invariant.apart c.loop-edit-test.true c.edit-item.is in
    let within = AreApart-within e.span.end c.args.self.now.len (drop (c.loop-edit.edit-index + 1) edits) apart.1 in
    omega (arith, apart.0, within, e.span.ordered, c.loop-edit.invariant.left)

pub split_at-requires-in-loop-edit : goal.split_at-requires-in-loop-edit
split_at-requires-in-loop-edit c =
    let e = c.edit-item.result in
    let edits = c.as_slice-edit-items.result.now in
    let apart = AreApart-next c.loop-edit.at c.args.self.now.len edits c.loop-edit.edit-index e c.loop-edit.invariant.apart c.loop-edit-test.true c.edit-item.is in
    let within = AreApart-within e.span.end c.args.self.now.len (drop (c.loop-edit.edit-index + 1) edits) apart.1 in
    omega (arith, apart.0, within, e.span.ordered, c.loop-edit.invariant.left, c.split_at.ensures.back_len)

pub loop-edit-preserved : goal.loop-edit-preserved
loop-edit-preserved c =
    let e = c.edit-item.result in
    let edits = c.as_slice-edit-items.result.now in
    let apart = AreApart-next c.loop-edit.at c.args.self.now.len edits c.loop-edit.edit-index e c.loop-edit.invariant.apart c.loop-edit-test.true c.edit-item.is in
    let within = AreApart-within e.span.end c.args.self.now.len (drop (c.loop-edit.edit-index + 1) edits) apart.1 in
    record {
      apart = apart.1;
      left = omega (arith, apart.0, within, e.span.ordered, c.loop-edit.invariant.left, c.split_at.ensures.back_len, c.split_at-in-loop-edit.ensures.back_len);
      made = rw (
        c.in_ok-extend_from_slice-2.ensures.items,
        c.in_ok-extend_from_slice.ensures.items,
        c.split_at.ensures.front,
        c.as_slice.ensures,
        c.split_at-in-loop-edit.ensures.back,
        c.split_at.ensures.back,
      )
          (spliced_from-more c.loop-edit.at c.args.self.now.len c.loop-edit.out.items c.loop-edit.rest.now edits
          c.loop-edit.edit-index e c.loop-edit.invariant.apart c.loop-edit.invariant.left c.loop-edit-test.true
          c.edit-item.is
          ∙ c.loop-edit.invariant.made);
    }

pub returns : goal.returns
returns c =
    let none : drop c.loop-edit.edit-index c.as_slice-edit-items.result.now ≡ [] = drop_all c.loop-edit.edit-index c.as_slice-edit-items.result.now c.loop-edit-test.false in
    c.in_ok-extend_from_slice-3.ensures.items
    ∙ ap (λ ys. c.loop-edit.out.items ++ ys) (sym (ap (spliced_from c.loop-edit.at c.loop-edit.rest.now) none ∙ spliced_from-none c.loop-edit.at c.loop-edit.rest.now))
    ∙ c.loop-edit.invariant.made
