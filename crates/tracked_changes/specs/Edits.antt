-- The edits of a source that make the changes of a draft, in the order of the file.
use Rattle.std.specs.Prelude.{ℕ, ◌+◌, List, [], ◌∷◌, ◌++◌, length}
use Rattle.std.proofs.Math.Nat.{le-add_right}
use Rattle.span_edits.specs.declared.edit.Edit.{Edit}
use Rattle.tracked_changes.specs.Pieces.{Piece, kept, changed, also, old_bytes}
use Rattle.tracked_changes.specs.Draft.{FileDraft, file_pieces}

-- a piece in front of others: what goes on with its edit is taken into its text
abbrev pub join : Piece → List Piece → List Piece
join (changed out text) (also more ∷ ps) = changed out (text ++ more) ∷ ps
join (also text) (also more ∷ ps) = also (text ++ more) ∷ ps
join p ps = p ∷ ps

-- the same pieces with one piece for each edit
abbrev pub joined : List Piece → List Piece
joined [] = []
joined (p ∷ ps) = join p (joined ps)

-- the bytes that begin at a place, replaced by a text
abbrev pub replacement : ℕ → List ℕ → List ℕ → Edit
replacement at out text = record {
  span = record { start = at; end = at + length out; ordered = le-add_right at (length out) };
  text = text;
}

-- the edit of a piece that begins at a place
abbrev pub edit_of : ℕ → Piece → List Edit
edit_of at (kept bytes) = []
edit_of at (changed out text) = replacement at out text ∷ []
edit_of at (also text) = replacement at [] text ∷ []

-- the edits of pieces that begin at a place, one for each piece that isn't kept
abbrev pub edits_from : ℕ → List Piece → List Edit
edits_from at [] = []
edits_from at (p ∷ ps) = edit_of at p ++ edits_from (at + length (old_bytes p)) ps

-- the edits of a file
abbrev pub edits : FileDraft → List Edit
edits d = edits_from 0 (joined (file_pieces d))
