-- Bytes with tracked changes: what stays, what is taken out, and what is put in its place.
use Rattle.std.specs.Prelude.{ℕ, List, [], ◌∷◌, ◌++◌}

pub data Piece : Type 0 where
  -- bytes that stay
  kept : List ℕ → Piece
  -- One edit: the bytes that are taken out, and those put in their place. Where none are taken out it is an insertion,
  -- where none are put in a deletion.
  changed : List ℕ → List ℕ → Piece
  -- Bytes put in by the edit just before, whose text goes on. Where no edit stands just before, they are an insertion.
  also : List ℕ → Piece

-- the bytes of a piece in the source
abbrev pub old_bytes : Piece → List ℕ
old_bytes (kept bytes) = bytes
old_bytes (changed out text) = out
old_bytes (also text) = []

-- the bytes of a piece once the changes are made
abbrev pub new_bytes : Piece → List ℕ
new_bytes (kept bytes) = bytes
new_bytes (changed out text) = text
new_bytes (also text) = text

-- the bytes of some pieces in the source
abbrev pub before : List Piece → List ℕ
before [] = []
before (p ∷ ps) = old_bytes p ++ before ps

-- the bytes of some pieces once the changes are made
abbrev pub after : List Piece → List ℕ
after [] = []
after (p ∷ ps) = new_bytes p ++ after ps
