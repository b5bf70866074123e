-- Tokens as places in their source.
use Rattle.std.specs.Prelude.{◌≡◌, ◌≤◌, ℕ, List, [], ◌∷◌, length, map, slice_range}
use Rattle.php_tree.specs.declared.token.Token.{Token}
use Rattle.php_tree.specs.Places.{behind}
use Rattle.php_tree.specs.Places as places
use Rattle.php_terminals.specs.declared.mark.Mark.{Mark}
use Rattle.php_terminals.specs.Classify.{terminal}

-- the token at some places of these bytes
abbrev pub token_at : List ℕ → Mark → Token
token_at bytes m = record {
  kind = m.kind;
  lead = slice_range bytes m.lead m.start;
  text = slice_range bytes m.start m.end;
  start = m.start;
}

-- The places are in order and within the bytes, and the class is the token's.
pub record IsMark (bytes : List ℕ) (m : Mark) : Type 0 where
  pub order : m.lead ≤ m.start
  pub behind : m.start ≤ m.end
  pub within : m.end ≤ length bytes
  pub class : m.class ≡ terminal (token_at bytes m)

-- some tokens, each with its place, where the trivia of the first one begin at a place
abbrev pub in_place : ℕ → List Token → List Token
in_place at [] = []
in_place at (t ∷ ts) = places.token_at at t ∷ in_place (behind at t) ts

-- a token without its place
abbrev pub placeless : Token → Token
placeless t = record t { start = 0 }

-- some tokens without their places
abbrev pub all_placeless : List Token → List Token
all_placeless ts = map placeless ts
