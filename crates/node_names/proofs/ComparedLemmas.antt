-- The bytes up to the last backslash.
use Rattle.std.proofs.Common.{◌≡◌, ℕ, zero, suc, ◌-◌, ◌<◌, ◌≤◌, true, false, List, [], ◌∷◌, ◌++◌, length, get_or, take, drop, refl, arith}
use Rattle.std.specs.Str.{str_to_ascii_lowercase}
use Rattle.node_names.specs.Compared.{has_backslash, lower_space}

-- a backslash at some place is one of the bytes
has_at : (bs : List ℕ) (k : ℕ) → k < length bs → get_or bs k 0 ≡ 92 → has_backslash bs ≡ true
has_at [] k h e = absurd (omega arith)
has_at (b ∷ bs) zero h e = rw e refl
has_at (b ∷ bs) (suc k) h e =
    let inner : has_backslash bs ≡ true = has_at bs k (omega arith) e in
    grind (arith, inner)

-- what stands behind the last backslash stays as it is
lower_none : (bs : List ℕ) → has_backslash bs ≡ false → lower_space bs ≡ bs
lower_none [] h = refl
lower_none (b ∷ bs) h = rw h refl

lower_behind : (bs : List ℕ) (k : ℕ) → k < length bs → get_or bs k 0 ≡ 92 → has_backslash (drop (suc k) bs) ≡ false →
    lower_space bs ≡ str_to_ascii_lowercase (take (suc k) bs) ++ drop (suc k) bs
lower_behind [] k h e none = absurd (omega arith)
lower_behind (b ∷ bs) zero h e none =
    let is : has_backslash (b ∷ bs) ≡ true = has_at (b ∷ bs) zero h e in
    rw is (rw (lower_none bs none) refl)
lower_behind (b ∷ bs) (suc k) h e none =
    let is : has_backslash (b ∷ bs) ≡ true = has_at (b ∷ bs) (suc k) h e in
    rw is (rw (lower_behind bs k (omega arith) e none) refl)

pub lower_up_to : (bs : List ℕ) (k : ℕ) → 0 < k → k ≤ length bs → get_or bs (k - 1) 0 ≡ 92 → has_backslash (drop k bs) ≡ false →
    lower_space bs ≡ str_to_ascii_lowercase (take k bs) ++ drop k bs
lower_up_to bs zero h l e none = absurd (omega arith)
lower_up_to bs (suc k) h l e none =
    let same : suc k - 1 ≡ k = omega arith in
    lower_behind bs k (omega arith) (rw same at e) none

pub lower_at_front : (bs : List ℕ) (k : ℕ) → k ≡ 0 → has_backslash (drop k bs) ≡ false →
    lower_space bs ≡ str_to_ascii_lowercase (take 0 bs) ++ drop 0 bs
lower_at_front bs k z none =
    let e : has_backslash (drop 0 bs) ≡ false = rw z at none in
    lower_none bs e
