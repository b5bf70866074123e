-- Tokens that a change makes.
use Rattle.std.specs.Prelude.{ℕ, Bool, List, [], ◌∷◌}
use Rattle.std.specs.Str.{bytes_eq}
use Rattle.php_tree.specs.declared.token.TokenKind.{TokenKind}
use Rattle.php_tree.specs.declared.token.TokenKind.TheVariants.{Op}
use Rattle.tracked_changes.specs.Pieces.{Piece, changed, also, before}
use Rattle.tracked_changes.specs.Draft.{NewToken}

-- whether the token has this text in the source
abbrev pub is_text : List ℕ → NewToken → Bool
is_text text t = bytes_eq (before t.text) text

-- an operator that is put in behind these trivia
abbrev pub put_in : List Piece → List ℕ → NewToken
put_in lead text = record { kind = Op; lead = lead; text = changed [] text ∷ [] }

-- the token with another kind and text in its place: one edit
abbrev pub retexted : TokenKind → List ℕ → NewToken → NewToken
retexted kind text t = record { kind = kind; lead = t.lead; text = changed (before t.text) text ∷ [] }

-- a token that is put in by the edit just before
abbrev pub put_also : TokenKind → List ℕ → NewToken
put_also kind text = record { kind = kind; lead = []; text = also text ∷ [] }
