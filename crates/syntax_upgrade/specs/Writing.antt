-- The new bytes of a source and how many edits make them, written from its front, piece by piece.
use Rattle.std.specs.Prelude.{ℕ, ◌+◌, Bool, true, false, List, [], ◌∷◌, ◌++◌}
use Rattle.tracked_changes.specs.Pieces.{Piece, kept, changed, also}

-- What is written, by how many edits, and whether the last of them may go on.
pub record Recorded : Type 0 where
  pub out : List ℕ
  pub edits : ℕ
  pub goes_on : Bool

-- the next bytes stay
abbrev pub kept_next : List ℕ → Recorded → Recorded
kept_next bytes r = record { out = r.out ++ bytes; edits = r.edits; goes_on = false }

-- a text comes in the place of the next bytes
abbrev pub changed_next : List ℕ → Recorded → Recorded
changed_next text r = record { out = r.out ++ text; edits = r.edits + 1; goes_on = true }

-- one edit more, unless the last one goes on
abbrev pub one_more : Bool → ℕ → ℕ
one_more true n = n
one_more false n = n + 1

-- a text goes on with the edit just before
abbrev pub also_next : List ℕ → Recorded → Recorded
also_next text r = record { out = r.out ++ text; edits = one_more r.goes_on r.edits; goes_on = true }

-- the next piece
abbrev pub piece_next : Piece → Recorded → Recorded
piece_next (kept bytes) r = kept_next bytes r
piece_next (changed out text) r = changed_next text r
piece_next (also text) r = also_next text r

-- the next pieces
abbrev pub pieces_next : List Piece → Recorded → Recorded
pieces_next [] r = r
pieces_next (p ∷ ps) r = pieces_next ps (piece_next p r)

-- the front of a source
abbrev pub front : Recorded
front = record { out = []; edits = 0; goes_on = false }
