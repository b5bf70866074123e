-- Trivia without a `#` stay as they are.
use Rattle.std.proofs.Common.{◌≡◌, ℕ, Bool, true, false, ◌==◌, ◌||◌, List, [], ◌∷◌, refl, sym, ◌∙◌}
use Rattle.std.specs.List.{list_any}
use Rattle.std.proofs.lemmas.Bool.{false≢true}
use Rattle.syntax_rules.specs.HashComment.{Standing, begins_hash, block, closing, line, moved, opening, outside, spaced, untouched}
use Rattle.syntax_upgrade.specs.Writing.{Recorded, kept_next, pieces_next}
use Rattle.syntax_upgrade.proofs.Bare.{kept_twice}

no_begin : (s : Standing) (b : ℕ) (bs : List ℕ) → (b == 35) ≡ false → begins_hash s b bs ≡ false
no_begin outside b bs h = rw h refl
no_begin opening b bs h = refl
no_begin block b bs h = refl
no_begin closing b bs h = refl
no_begin line b bs h = refl

neither : (a b : Bool) → (a || b) ≡ false → (a ≡ false) × (b ≡ false)
neither true b h = absurd (false≢true (sym h))
neither false b h = (refl, h)

pub no_hash : (s : Standing) (b : ℕ) (bs : List ℕ) (r : Recorded) → list_any (λ x. x == 35) (b ∷ bs) ≡ false
    → pieces_next (spaced s (b ∷ bs)) r ≡ kept_next (b ∷ bs) r
no_hash s b [] r h = let n = neither (b == 35) (list_any (λ x. x == 35) []) h in rw (no_begin s b [] n.0) refl
no_hash s b (c ∷ bs) r h =
    let n = neither (b == 35) (list_any (λ x. x == 35) (c ∷ bs)) h in
    rw (no_begin s b (c ∷ bs) n.0) (no_hash (moved s b (c ∷ bs)) c bs (kept_next (b ∷ []) r) n.1 ∙ kept_twice b (c ∷ bs) r)

-- bytes that stay, one by one
pub kept_whole : (b : ℕ) (bs : List ℕ) (r : Recorded) → kept_next (b ∷ bs) r ≡ pieces_next (untouched (b ∷ bs)) r
kept_whole b [] r = refl
kept_whole b (c ∷ bs) r = sym (kept_twice b (c ∷ bs) r) ∙ kept_whole c bs (kept_next (b ∷ []) r)
