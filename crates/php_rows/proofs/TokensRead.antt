-- Tokens of a file by their numbers.
use Rattle.std.proofs.Common.{◌≡◌, ℕ, zero, suc, ◌+◌, ◌<◌, List, [], ◌∷◌, length, map, All, slice_index_or, refl, sym, ap, ◌∙◌, arith}
use Rattle.std.proofs.lemmas.List.{length-map}
use Rattle.php_tree.specs.declared.token.Token.{Token}
use Rattle.php_terminals.specs.declared.mark.Mark.{Mark}
use Rattle.php_terminals.specs.Marked.{IsMark, token_at}

pub index_token : (bytes : List ℕ) (ms : List Mark) (at : ℕ) (d : Mark) → at < length ms
    → slice_index_or (map (token_at bytes) ms) at (token_at bytes d) ≡ token_at bytes (slice_index_or ms at d)
index_token bytes [] at d lt = absurd (omega arith)
index_token bytes (m ∷ ms) zero d lt = refl
index_token bytes (m ∷ ms) (suc at) d lt = index_token bytes ms at d (omega arith)

pub index_mark : (bytes : List ℕ) (ms : List Mark) (at : ℕ) (d : Mark) → at < length ms → All (IsMark bytes) ms → IsMark bytes (slice_index_or ms at d)
index_mark bytes ms at d lt all = all at d lt

pub index_any : (ts : List Token) (at : ℕ) (d e : Token) → at < length ts → slice_index_or ts at d ≡ slice_index_or ts at e
index_any [] at d e lt = absurd (omega arith)
index_any (t ∷ ts) zero d e lt = refl
index_any (t ∷ ts) (suc at) d e lt = index_any ts at d e (omega arith)

-- the token with a number, whatever stands for one that isn't there
pub token_read : (bytes : List ℕ) (ms : List Mark) (at : ℕ) (m d : Mark) → at < length ms → m ≡ slice_index_or ms at d
    → token_at bytes m ≡ slice_index_or (map (token_at bytes) ms) at (token_at bytes m)
token_read bytes ms at m d lt e =
    let within : at < length (map (token_at bytes) ms) = let l = length-map ms (token_at bytes) in omega arith in
    ap (token_at bytes) e ∙ sym (index_token bytes ms at d lt) ∙ index_any (map (token_at bytes) ms) at (token_at bytes d) (token_at bytes m) within
