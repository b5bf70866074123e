-- Words compared with texts, byte by byte.
use Rattle.std.proofs.Common.{◌≡◌, ℕ, zero, suc, ◌+◌, ◌<◌, ◌≤◌, Bool, true, false, ◌&&◌, nat_eq, List, [], ◌∷◌, length, get_or, drop, refl, ap, arith, add-one, drop-cons}
use Rattle.std.proofs.lemmas.Bool.{eq-eqb, ne_eqb}
use Rattle.std.specs.Char.{to_ascii_lowercase}
use Rattle.php_terminals.specs.Words.{is_word}

pub lengths_differ : (w t : List ℕ) → (length w ≡ length t → ⊥) → is_word w t ≡ false
lengths_differ [] [] h = absurd (h refl)
lengths_differ [] (b ∷ bs) h = refl
lengths_differ (a ∷ w) [] h = refl
lengths_differ (a ∷ w) (b ∷ bs) h = go (nat_eq a (to_ascii_lowercase b)) (lengths_differ w bs (λ e. h (ap suc e)))
  where
    go : (x : Bool) → is_word w bs ≡ false → (x && is_word w bs) ≡ false
    go true e = e
    go false e = refl

pub byte_differs : (w t : List ℕ) (i : ℕ) → i < length w → i < length t → (get_or w i 0 ≡ to_ascii_lowercase (get_or t i 0) → ⊥) → is_word (drop i w) (drop i t) ≡ false
byte_differs w t i lw lt h = rw (drop-cons w i 0 lw, drop-cons t i 0 lt, ne_eqb _ _ h) refl

pub byte_agrees : (w t : List ℕ) (i : ℕ) → i < length w → i < length t
    → get_or w i 0 ≡ to_ascii_lowercase (get_or t i 0) → is_word (drop i w) (drop i t) ≡ is_word (drop (i + 1) w)
    (drop (i + 1) t)
byte_agrees w t i lw lt e = rw (add-one, drop-cons w i 0 lw, drop-cons t i 0 lt, eq-eqb _ _ e) refl

pub both_end : (w t : List ℕ) (i : ℕ) → length w ≡ length t → length w ≤ i → is_word (drop i w) (drop i t) ≡ true
both_end [] [] zero e le = refl
both_end [] [] (suc i) e le = refl
both_end [] (b ∷ bs) i e le = absurd (omega arith)
both_end (a ∷ w) [] i e le = absurd (omega arith)
both_end (a ∷ w) (b ∷ bs) zero e le = absurd (omega arith)
both_end (a ∷ w) (b ∷ bs) (suc i) e le = both_end w bs i (omega arith) (omega arith)
