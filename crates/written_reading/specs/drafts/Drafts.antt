-- Names with `\` among the tokens of a draft.
use Rattle.tracked_changes.specs.Pieces.{before}
use Rattle.tracked_changes.specs.Draft.{NewToken, Draft, no_more, new_leaf, new_node}
use Rattle.rewritten_shapes.specs.paired.Names.{Part, State, part_by, step, edge}

-- what a token is for names in the source
abbrev pub new_part : NewToken → Part
new_part t = part_by t.kind (before t.text)

-- what stands behind a draft
abbrev pub run_draft : State → Draft → State
run_draft s no_more = s
run_draft s (new_leaf t d) = run_draft (step s (new_part t)) d
run_draft s (new_node k c d) = run_draft (edge (run_draft (edge s) c)) d
