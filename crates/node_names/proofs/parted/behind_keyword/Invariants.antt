use Rattle.std.proofs.Common.{◌≡◌, length}
use Rattle.node_names.specs.Seen.{form_of}
use Rattle.node_names.specs.Spelled.{behind_keyword}
use Rattle.node_names.proofs.parted.behind_keyword.Given as goal

abbrev pub invariant-loop-left : goal.invariant-loop-left
invariant-loop-left l = behind_keyword l.keyword (form_of l.left) ≡ behind_keyword l.keyword (form_of l.fn.form)

abbrev pub decreases-loop-left : goal.decreases-loop-left
decreases-loop-left l = length l.left
