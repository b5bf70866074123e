use Rattle.std.proofs.Common.{◌≡◌, take, Some}
use Rattle.serde_json.specs.View.{items_view}
use Rattle.review_bodies.specs.Upload.{files_of}
use Rattle.review_bodies.proofs.upload.files_of.Given as goal

abbrev pub invariant-loop-value : goal.invariant-loop-value
invariant-loop-value l = files_of (items_view (take l.value-index l.values)) ≡ Some l.files.items
