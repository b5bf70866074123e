-- What is counted of a shape is the longest.
use Rattle.std.proofs.Common.{◌≡◌, ℕ, zero, suc, ◌+◌, ◌<◌, ◌≤◌, Bool, true, false, cond, List, [], ◌∷◌, length, take, Option, Some, None, refl, arith}
use Rattle.php_spellings.specs.declared.table.Shape.{Shape}
use Rattle.php_spellings.specs.declared.table.Spot.{Spot}
use Rattle.php_lexer.specs.Shapes.{step, may_end, is_stuck, has_shape}
use Rattle.php_lexer.specs.Scan.{add_to, or_else, here_len, shape_len}
use Rattle.php_lexer.proofs.Counts.{Describes}

abbrev shaped : Shape → Spot → List ℕ → List ℕ → Bool
shaped sh s text rest = has_shape sh s text

no_bytes : (sh : Shape) (s : Spot) (e : Bool) → may_end sh s ≡ e → Describes (shaped sh s) [] (here_len e)
no_bytes sh s true e = (omega arith, e, λ m lt le. absurd (omega arith))
no_bytes sh s false e = none
  where
    none : (m : ℕ) → m ≤ 0 → has_shape sh s (take m []) ≡ false
    none zero le = e
    none (suc m) le = absurd (omega arith)

module _ (sh : Shape) (s : Spot) (b : ℕ) (bs : List ℕ) where
  stuck_all : is_stuck (step sh s b) ≡ true → (m : ℕ) → has_shape sh s (b ∷ take m bs) ≡ false
  stuck_all p m = rw p refl

  stuck_more : is_stuck (step sh s b) ≡ true → (m : ℕ) → 0 < m → m ≤ length (b ∷ bs) → has_shape sh s (take m (b ∷ bs)) ≡ false
  stuck_more p zero lt le = absurd (omega arith)
  stuck_more p (suc m) lt le = stuck_all p m

  stuck_none : is_stuck (step sh s b) ≡ true → may_end sh s ≡ false → (m : ℕ) → m ≤ length (b ∷ bs) → has_shape sh s (take m (b ∷ bs)) ≡ false
  stuck_none p q zero le = q
  stuck_none p q (suc m) le = stuck_all p m

  none_more : is_stuck (step sh s b) ≡ false → Describes (shaped sh (step sh s b)) bs None → (m : ℕ) → 0 < m → m ≤ length (b ∷ bs) → has_shape sh s (take m (b ∷ bs)) ≡ false
  none_more p d zero lt le = absurd (omega arith)
  none_more p d (suc m) lt le = rw (p, d m (omega arith)) refl

  none_all : is_stuck (step sh s b) ≡ false → may_end sh s ≡ false → Describes (shaped sh (step sh s b)) bs None
      → (m : ℕ) → m ≤ length (b ∷ bs) → has_shape sh s (take m (b ∷ bs)) ≡ false
  none_all p q d zero le = q
  none_all p q d (suc m) le = rw (p, d m (omega arith)) refl

  some_is : (n k : ℕ) → k ≡ suc n → is_stuck (step sh s b) ≡ false → has_shape sh (step sh s b) (take n bs) ≡ true → has_shape sh s (take k (b ∷ bs)) ≡ true
  some_is n k e p d = rw e (rw (p, d) refl)

  some_more : (n : ℕ) → is_stuck (step sh s b) ≡ false → Describes (shaped sh (step sh s b)) bs (Some n) → (m : ℕ)
      → 1 + n < m → m ≤ length (b ∷ bs) → has_shape sh s (take m (b ∷ bs)) ≡ false
  some_more n p d zero lt le = absurd (omega arith)
  some_more n p d (suc m) lt le = rw (p, d.2 m (omega arith) (omega arith)) refl

  by_step : (t e : Bool) (o : Option ℕ) → is_stuck (step sh s b) ≡ t → may_end sh s ≡ e
      → Describes (shaped sh (step sh s b)) bs o → Describes (shaped sh s) (b ∷ bs)
      (cond t (here_len e) (or_else (add_to 1 o) (here_len e)))
  by_step true true o p q d = (omega arith, q, stuck_more p)
  by_step true false o p q d = stuck_none p q
  by_step false e (Some n) p q d = (let le = d.0 in omega arith, some_is n (1 + n) (omega arith) p d.1, some_more n p d)
  by_step false true None p q d = (omega arith, q, none_more p d)
  by_step false false None p q d = none_all p q d

pub describes_shape : (sh : Shape) (s : Spot) (bs : List ℕ) → Describes (shaped sh s) bs (shape_len sh s bs)
describes_shape sh s [] = no_bytes sh s (may_end sh s) refl
describes_shape sh s (b ∷ bs) = by_step sh s b bs (is_stuck (step sh s b)) (may_end sh s) (shape_len sh (step sh s b) bs) refl refl (describes_shape sh (step sh s b) bs)
