use Rattle.std.proofs.Common.{◌≡◌, ap, ◌∙◌}
use Rattle.std.specs.Str.{str_eq_ignore_ascii_case}
use Rattle.review_request.proofs.FieldLemmas.{same_name}
use Rattle.review_request.proofs.fields.has_name.Goals as goal

pub returns : goal.returns
returns c =
    same_name c.as_slice.result.now c.args.name.now c.eq_ignore_ascii_case.result c.eq_ignore_ascii_case.ensures.test.0
    c.eq_ignore_ascii_case.ensures.test.1
    ∙ ap (λ a. str_eq_ignore_ascii_case a c.args.name.now) c.as_slice.ensures.value
