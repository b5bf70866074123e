-- The trivia before the first token of a draft.
use Rattle.std.specs.Prelude.{Bool, true, false, ◌&&◌, cond, List, []}
use Rattle.tracked_changes.specs.Pieces.{Piece}
use Rattle.tracked_changes.specs.Draft.{Draft, no_more, new_leaf, new_node}

-- whether there is no token
abbrev pub holds_none : Draft → Bool
holds_none no_more = true
holds_none (new_leaf t d) = false
holds_none (new_node k c d) = holds_none c && holds_none d

-- the trivia before the first token
abbrev pub first_lead : Draft → List Piece
first_lead no_more = []
first_lead (new_leaf t d) = t.lead
first_lead (new_node k c d) = cond (holds_none c) (first_lead d) (first_lead c)

-- the draft without the trivia before its first token
abbrev pub without_lead : Draft → Draft
without_lead no_more = no_more
without_lead (new_leaf t d) = new_leaf (record t { lead = [] }) d
without_lead (new_node k c d) = cond (holds_none c) (new_node k c (without_lead d)) (new_node k (without_lead c) d)
