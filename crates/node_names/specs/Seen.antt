-- Forms, as the code has them.
use Rattle.std.specs.Prelude.{ℕ, List, [], ◌∷◌, map, Option, Some, None}
use Rattle.std.specs.Borrow.{Bor}
use Rattle.scope_names.specs.Form as form
use Rattle.node_names.specs.declared.piece.Piece.{Piece}
use Rattle.node_names.specs.declared.piece.Piece.TheVariants.{Word, Child}

abbrev pub bit_of : Piece → form.Bit
bit_of (Word k t) = form.Word k t
bit_of Child = form.Child

-- the form that some pieces are
abbrev pub form_of : List Piece → form.Form
form_of ps = map bit_of ps

-- the texts that are lent
abbrev pub texts_of : List (Bor (List ℕ)) → List (List ℕ)
texts_of ws = map (λ w. w.now) ws

-- the text that is lent, if any
abbrev pub text_if : Option (Bor (List ℕ)) → List (List ℕ)
text_if None = []
text_if (Some w) = w.now ∷ []
