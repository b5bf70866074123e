use Rattle.std.proofs.Common.{◌≡◌, ◌++◌, map, drop}
use Rattle.serde_json.specs.View.{view}
use Rattle.review_answers.specs.Bodies.{report_of}
use Rattle.review_answers.proofs.report_list.values.Given as goal

abbrev pub invariant-loop-one : goal.invariant-loop-one
invariant-loop-one l = map view l.values.items ++ map report_of (drop l.one-index l.judged) ≡ map report_of l.judged
