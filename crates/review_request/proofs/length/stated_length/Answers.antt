use Rattle.std.proofs.Common.{◌≡◌, map, codes, sym, ap, ◌∙◌, Some}
use Rattle.std.specs.Option.{option_map}
use Rattle.std.specs.Prelude.{option_and_then}
use Rattle.review_request.proofs.FieldLemmas.{coded, limited, none_stated, past_limit, stated}
use Rattle.review_request.specs.Fields.{within_limit}
use Rattle.review_request.specs.Head.{field_parts}
use Rattle.review_request.specs.Numbers.{number_of}
use Rattle.review_request.proofs.length.stated_length.Goals as goal

pub returns-then-not-has : goal.returns-then-not-has
returns-then-not-has c =
    none_stated (codes "content-length") (codes "transfer-encoding") (map field_parts c.args.fields.now)
    (sym c.has.ensures ∙ c.if-not-has.true)

pub returns-then-has : goal.returns-then-has
returns-then-has c =
    coded (codes "content-length") (codes "transfer-encoding") (map field_parts c.args.fields.now)
    (sym c.has.ensures ∙ c.if-not-has.false) (sym c.has-2.ensures ∙ c.if-has.true)

pub returns-in_default : goal.returns-in_default
returns-in_default c =
    ap (λ o. within_limit (option_and_then number_of (option_map (λ v. v.now) o))) (sym c.in_default.is)
    ∙ stated (codes "content-length") (codes "transfer-encoding") (map field_parts c.args.fields.now)
    (sym c.has.ensures ∙ c.if-not-has.false) (sym c.has-2.ensures ∙ c.if-has.false)
    (option_map (λ v. v.now) c.only.result) c.only.ensures

pub returns-in_default-number : goal.returns-in_default-number
returns-in_default-number c =
    ap within_limit (sym c.in_default-number.is ∙ c.number.ensures)
    ∙ ap (λ o. within_limit (option_and_then number_of (option_map (λ v. v.now) o))) (sym c.in-Some.is)
    ∙ stated (codes "content-length") (codes "transfer-encoding") (map field_parts c.args.fields.now)
    (sym c.has.ensures ∙ c.if-not-has.false) (sym c.has-2.ensures ∙ c.if-has.false)
    (option_map (λ v. v.now) c.only.result) c.only.ensures

pub returns-then-length-gt-MAX_BODY : goal.returns-then-length-gt-MAX_BODY
returns-then-length-gt-MAX_BODY c =
    past_limit (number_of c.in-Some.digits.now) c.in-Some-number.length (sym c.in-Some-number.is ∙ c.number.ensures) c.if-length-gt-MAX_BODY.true
    ∙ ap (λ o. within_limit (option_and_then number_of (option_map (λ v. v.now) o))) (sym c.in-Some.is)
    ∙ stated (codes "content-length") (codes "transfer-encoding") (map field_parts c.args.fields.now)
    (sym c.has.ensures ∙ c.if-not-has.false) (sym c.has-2.ensures ∙ c.if-has.false)
    (option_map (λ v. v.now) c.only.result) c.only.ensures

pub returns : goal.returns
returns c =
    limited (number_of c.in-Some.digits.now) c.in-Some-number.length (sym c.in-Some-number.is ∙ c.number.ensures) c.if-length-gt-MAX_BODY.false
    ∙ ap (λ o. within_limit (option_and_then number_of (option_map (λ v. v.now) o))) (sym c.in-Some.is)
    ∙ stated (codes "content-length") (codes "transfer-encoding") (map field_parts c.args.fields.now)
    (sym c.has.ensures ∙ c.if-not-has.false) (sym c.has-2.ensures ∙ c.if-has.false)
    (option_map (λ v. v.now) c.only.result) c.only.ensures
