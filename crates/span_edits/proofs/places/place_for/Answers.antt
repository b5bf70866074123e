-- The first edit that ends behind the span's start crosses the span, or no edit does.
use Rattle.span_edits.proofs.PlaceLemmas.{FirstCrossed-from_first, IsPlaceFor-from_behind, IsPlaceFor-from_end}
use Rattle.span_edits.proofs.places.place_for.Goals as goal

pub returns-then-edit-span : goal.returns-then-edit-span
returns-then-edit-span c =
    FirstCrossed-from_first c.args.span c.args.edits.now c.first_after-at.result c.in-Some.edit.now
    c.first_after-at.ensures c.in-Some.ensures.lookup.3.0 c.in-Some.ensures.lookup.1 c.if-edit-span.true

pub returns-else-edit-span : goal.returns-else-edit-span
returns-else-edit-span c =
    IsPlaceFor-from_behind c.args.span c.requires.0 c.args.edits.now c.first_after-at.result c.in-Some.edit.now
    c.requires.1 c.first_after-at.ensures c.in-Some.ensures.lookup.3.0 c.in-Some.ensures.lookup.1
    c.if-edit-span.false

pub returns-in-None : goal.returns-in-None
returns-in-None c = IsPlaceFor-from_end c.args.span c.args.edits.now c.first_after-at.result c.first_after-at.ensures c.in-None.ensures.lookup.3
