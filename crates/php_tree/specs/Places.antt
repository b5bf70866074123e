-- Where tokens and nodes stand, in bytes from the file's front.
use Rattle.std.specs.Prelude.{◌≡◌, Bool, true, nat_eq, ◌&&◌, ℕ, ◌+◌, List, [], ◌∷◌, length}
use Rattle.php_tree.specs.declared.token.Token.{Token}
use Rattle.php_tree.specs.Tree.{Forest, none, leaf, node, File}

-- where a token ends, that begins with its trivia at a place
abbrev pub behind : ℕ → Token → ℕ
behind at t = at + length t.lead + length t.text

-- a token whose trivia begin at a place
abbrev pub token_at : ℕ → Token → Token
token_at at t = record t { start = at + length t.lead }

-- the place behind a forest that begins at a place
abbrev pub end_of : ℕ → Forest → ℕ
end_of at none = at
end_of at (leaf t f) = end_of (behind at t) f
end_of at (node k c f) = end_of (end_of at c) f

-- The forest with each token's `start` the number of bytes before its text, where the forest begins at a place.
abbrev pub placed : ℕ → Forest → Forest
placed at none = none
placed at (leaf t f) = leaf (token_at at t) (placed (behind at t) f)
placed at (node k c f) = node k (placed at c) (placed (end_of at c) f)

-- the file with each token in its place
abbrev pub placed_file : File → File
placed_file f = record {
  statements = placed 0 f.statements;
  end = token_at (end_of 0 f.statements) f.end;
}

-- each token's `start` is the number of bytes before its text, the first one's trivia beginning at a place
abbrev pub ArePlaced : ℕ → List Token → Type 0
ArePlaced at [] = Unit {0}
ArePlaced at (t ∷ ts) = (t.start ≡ at + length t.lead) × ArePlaced (behind at t) ts

-- the same as a test
abbrev pub are_placed : ℕ → List Token → Bool
are_placed at [] = true
are_placed at (t ∷ ts) = nat_eq t.start (at + length t.lead) && are_placed (behind at t) ts
