use Rattle.std.proofs.Common.{◌≡◌, length}
use Rattle.node_names.specs.Seen.{texts_of}
use Rattle.node_names.specs.Slots.{has_keyword}
use Rattle.node_facts.proofs.listed.has_keyword.Given as goal

abbrev pub invariant-loop-left : goal.invariant-loop-left
invariant-loop-left l = has_keyword l.keyword (texts_of l.left) ≡ has_keyword l.keyword (texts_of l.fn.words)

abbrev pub decreases-loop-left : goal.decreases-loop-left
decreases-loop-left l = length l.left
