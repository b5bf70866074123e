-- No report has a float.
use Rattle.std.proofs.Common.{◌≡◌, false, List, [], ◌∷◌, map, refl}
use Rattle.serde_json.specs.View.{items_of}
use Rattle.serde_json.specs.Written.{has_float, items_have_float}
use Rattle.job_core.specs.declared.job.Judged.{Judged}
use Rattle.review_answers.specs.Bodies.{report_of, reports}

none_among : (js : List Judged) → items_have_float (items_of (map report_of js)) ≡ false
none_among [] = refl
none_among (j ∷ js) = none_among js

pub reports_have_no_float : (js : List Judged) → has_float (reports js) ≡ false
reports_have_no_float js = none_among js
