-- An edit is stored exactly where it crosses no stored one, and the edits lie apart then.
use Rattle.std.proofs.Common.{◌≡◌, ◌≤◌, Err, ap, ◌∙◌, subst}
use Rattle.span_edits.specs.declared.span.Span.{Span}
use Rattle.span_edits.specs.declared.edit_fault.EditFault.TheVariants.{Overlap}
use Rattle.span_edits.specs.Crosses.{FirstCrossed}
use Rattle.span_edits.specs.EditList.{EditList}
use Rattle.span_edits.specs.Places.{IsPlaceFor}
use Rattle.span_edits.proofs.PlaceLemmas.{FirstCrossed-unique, FirstCrossed-none, AreApart-at_place}
use Rattle.span_edits.proofs.edits.Edits.add.Goals as goal
use Rattle.span_edits.proofs.edits.Edits.add.Goals.{in-Ok-insert, in-Err-insert}

pub returns-in-Err-clause-overlap : goal.returns-in-Err-clause-overlap
returns-in-Err-clause-overlap c =
    let same : c.as_slice.result.now ≡ c.args.self.now.edits = c.as_slice.ensures.value ∙ ap (λ (v : EditList). v.edits) c.self.view_is in
    let fits : c.args.edit.span.end ≤ c.args.self.now.len = subst (λ (v : EditList). c.args.edit.span.end ≤ v.len) c.self.view_is c.if-edit-self.false in
    let found : FirstCrossed c.args.edit.span c.args.self.now.edits c.in-Err.stored = rw (← same) c.in-Err.ensures in
    λ stored. (
      (λ eq. let is : c.in-Err.stored ≡ stored = cc in (fits, subst (λ (s : Span). FirstCrossed c.args.edit.span c.args.self.now.edits s) is found)),
      (λ h. ap (λ (s : Span). Err (Overlap s)) (FirstCrossed-unique c.args.edit.span c.args.self.now.edits c.in-Err.stored stored found h.1)),
    )

pub invariant_of-self : goal.invariant_of-self
invariant_of-self c =
    let value = c.as_slice.ensures.value in
    let place : IsPlaceFor c.args.edit.span c.self.inside.edits.items c.in-Ok.at = rw (← value) c.in-Ok.ensures in
    elim c.match-insert.branch [
      | in-Ok-insert w ↦ rw w.in-Ok-insert.ensures.items
          (AreApart-at_place c.self.inside.len c.args.edit c.self.inside.edits.items c.in-Ok.at c.self.invariant
          c.if-edit-self.false place)
      | in-Err-insert w ↦ rw w.in-Err-insert.ensures.items c.self.invariant
    ]

pub returns-clause-apart : goal.returns-clause-apart
returns-clause-apart c =
    let same : c.as_slice.result.now ≡ c.args.self.now.edits = c.as_slice.ensures.value ∙ ap (λ (v : EditList). v.edits) c.self.view_is in
    let place : IsPlaceFor c.args.edit.span c.args.self.now.edits c.in-Ok.at = rw (← same) c.in-Ok.ensures in
    elim c.match-insert.branch [
      | in-Ok-insert w ↦ rw w.result-is place.apart
      | in-Err-insert w ↦ rw w.result-is tt
    ]

pub returns-clause-overlap : goal.returns-clause-overlap
returns-clause-overlap c =
    let same : c.as_slice.result.now ≡ c.args.self.now.edits = c.as_slice.ensures.value ∙ ap (λ (v : EditList). v.edits) c.self.view_is in
    let place : IsPlaceFor c.args.edit.span c.args.self.now.edits c.in-Ok.at = rw (← same) c.in-Ok.ensures in
    λ stored. (
      (λ eq. elim c.match-insert.branch [ in-Ok-insert w ↦ absurd (cc (w.result-is, eq)) | in-Err-insert w ↦ absurd (cc (w.result-is, eq)) ]),
      (λ h. absurd (FirstCrossed-none c.args.edit.span c.args.self.now.edits stored place.apart h.1)),
    )
