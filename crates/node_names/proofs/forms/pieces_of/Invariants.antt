use Rattle.std.proofs.Common.{◌≡◌, ◌++◌, vec_len}
use Rattle.scope_names.specs.Form.{bits}
use Rattle.node_names.specs.Drafts.{stacked}
use Rattle.node_names.specs.Seen.{form_of}
use Rattle.node_names.proofs.forms.pieces_of.Given as goal

abbrev pub invariant-loop-draft : goal.invariant-loop-draft
invariant-loop-draft l = form_of l.pieces.items ++ bits (stacked l.drafts.items) ≡ bits (stacked l.fn.drafts.items)

abbrev pub decreases-loop-draft : goal.decreases-loop-draft
decreases-loop-draft l = vec_len l.drafts
