use Rattle.std.proofs.Common.{◌≡◌, ap, sym, ◌∙◌, Some}
use Rattle.serde_json.specs.View.{view}
use Rattle.review_bodies.proofs.UploadLemmas.{files_more}
use Rattle.review_bodies.specs.Upload.{file_of}
use Rattle.review_bodies.proofs.upload.files_of.Goals as goal

pub loop-value-preserved : goal.loop-value-preserved
loop-value-preserved c =
    files_more c.args.values.now c.loop-value.value-index c.value-item.result c.loop-value.files.items c.in-Some.file
    c.loop-value-test.true c.loop-value.invariant
    (ap (λ v. file_of (view v)) (sym c.value-item.is) ∙ sym c.in_ok-file.ensures ∙ c.in-Some.is)
    ∙ ap Some (sym c.in_ok-push.ensures.items)
