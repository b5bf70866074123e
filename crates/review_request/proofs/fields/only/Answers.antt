use Rattle.std.proofs.Common.{◌≡◌, ℕ, List, [], ◌∷◌, Option, ap, sym, ◌∙◌}
use Rattle.std.specs.Option.{option_map, option_to_list}
use Rattle.std.specs.Str.{str_eq_ignore_ascii_case}
use Rattle.review_request.proofs.FieldLemmas.{maps_some, value_first, value_other, value_second}
use Rattle.review_request.proofs.fields.only.Goals as goal
use Rattle.review_request.proofs.fields.only.Goals.{then-has_name+else-is_some, else-has_name}

pub returns-then-is_some : goal.returns-then-is_some
returns-then-is_some c =
    value_second c.args.name.now c.args.fields.now c.loop-field.field-index c.field-item.result
    (option_map (λ v. v.now) c.loop-field.found) c.loop-field-test.true c.loop-field.invariant
    (maps_some (λ v. v.now) c.loop-field.found ∙ sym c.is_some.ensures ∙ c.if-is_some.true)
    (ap (λ f. str_eq_ignore_ascii_case f.name.items c.args.name.now) (sym c.field-item.is) ∙ sym c.has_name.ensures ∙ c.if-has_name.true)

pub loop-field-preserved : goal.loop-field-preserved
loop-field-preserved c =
    let item = sym c.field-item.is in
    elim c.if-has_name.branch [
      | then-has_name+else-is_some w ↦
          value_first c.args.name.now c.args.fields.now c.loop-field.field-index c.field-item.result
          (option_map (λ v. v.now) c.loop-field.found) c.loop-field-test.true c.loop-field.invariant
          (maps_some (λ v. v.now) c.loop-field.found ∙ sym w.is_some.ensures ∙ w.if-is_some.false)
          (ap (λ f. str_eq_ignore_ascii_case f.name.items c.args.name.now) item ∙ sym c.has_name.ensures ∙ w.if-has_name.true)
          ∙ ap (λ f. f.value.items ∷ []) item ∙ ap (λ v. v ∷ []) (sym w.as_slice.ensures.value)
          ∙ ap (λ o. option_to_list (option_map (λ v. v.now) o)) (sym w.found-is)
      | else-has_name w ↦
          value_other c.args.name.now c.args.fields.now c.loop-field.field-index c.field-item.result
          (option_map (λ v. v.now) c.loop-field.found) c.loop-field-test.true c.loop-field.invariant
          (ap (λ f. str_eq_ignore_ascii_case f.name.items c.args.name.now) item ∙ sym c.has_name.ensures ∙ w.if-has_name.false)
          ∙ ap (λ o. option_to_list (option_map (λ v. v.now) o)) (sym w.found-is)
    ]
