-- How bytes begin, from one place on.
use Rattle.std.proofs.Common.{◌≡◌, ℕ, zero, suc, ◌+◌, ◌<◌, ◌≤◌, Bool, true, false, nat_eq, ◌&&◌, List, [], ◌∷◌, length, get_or, drop, refl, arith, add-one, drop-cons}
use Rattle.php_spellings.specs.Bytes.{starts_by, as_it_is, lower, starts, starts_word}

pub split : (bs : List ℕ) (i : ℕ) → i < length bs → drop i bs ≡ get_or bs i 0 ∷ drop (i + 1) bs
split bs i lt = rw add-one (drop-cons bs i 0 lt)

pub drop_end : (bs : List ℕ) (i : ℕ) → length bs ≤ i → drop i bs ≡ []
drop_end [] zero le = refl
drop_end [] (suc i) le = refl
drop_end (b ∷ bs) zero le = absurd (omega arith)
drop_end (b ∷ bs) (suc i) le = drop_end bs i (omega arith)

-- ---- words

by_step : (f : ℕ → ℕ) (w bs : List ℕ) (i : ℕ) → i < length w → i < length bs
    → nat_eq (get_or w i 0) (f (get_or bs i 0)) ≡ true → starts_by f (drop i w) (drop i bs) ≡ starts_by f
    (drop (i + 1) w) (drop (i + 1) bs)
by_step f w bs i lw lb e = let p = split w i lw in let q = split bs i lb in rw (p, q, e) refl

by_short : (f : ℕ → ℕ) (w bs : List ℕ) (i : ℕ) → i < length w → length bs ≤ i → starts_by f (drop i w) (drop i bs) ≡ false
by_short f w bs i lw lb = let p = split w i lw in let q = drop_end bs i lb in rw (p, q) refl

by_differ : (f : ℕ → ℕ) (w bs : List ℕ) (i : ℕ) → i < length w → i < length bs → nat_eq (get_or w i 0) (f (get_or bs i 0)) ≡ false → starts_by f (drop i w) (drop i bs) ≡ false
by_differ f w bs i lw lb e = let p = split w i lw in let q = split bs i lb in rw (p, q, e) refl

by_end : (f : ℕ → ℕ) (w bs : List ℕ) (i : ℕ) → length w ≤ i → starts_by f (drop i w) (drop i bs) ≡ true
by_end f w bs i le = let p = drop_end w i le in rw p refl

pub starts_step : (w bs : List ℕ) (i : ℕ) → i < length w → i < length bs
    → nat_eq (get_or w i 0) (get_or bs i 0) ≡ true → starts (drop i w) (drop i bs) ≡ starts (drop (i + 1) w)
    (drop (i + 1) bs)
starts_step w bs i lw lb e = by_step as_it_is w bs i lw lb e

pub starts_short : (w bs : List ℕ) (i : ℕ) → i < length w → length bs ≤ i → starts (drop i w) (drop i bs) ≡ false
starts_short w bs i lw lb = by_short as_it_is w bs i lw lb

pub starts_differ : (w bs : List ℕ) (i : ℕ) → i < length w → i < length bs → nat_eq (get_or w i 0) (get_or bs i 0) ≡ false → starts (drop i w) (drop i bs) ≡ false
starts_differ w bs i lw lb e = by_differ as_it_is w bs i lw lb e

pub starts_end : (w bs : List ℕ) (i : ℕ) → length w ≤ i → starts (drop i w) (drop i bs) ≡ true
starts_end w bs i le = by_end as_it_is w bs i le

pub word_step : (w bs : List ℕ) (i : ℕ) → i < length w → i < length bs
    → nat_eq (get_or w i 0) (lower (get_or bs i 0)) ≡ true → starts_word (drop i w) (drop i bs) ≡ starts_word
    (drop (i + 1) w) (drop (i + 1) bs)
word_step w bs i lw lb e = by_step lower w bs i lw lb e

pub word_short : (w bs : List ℕ) (i : ℕ) → i < length w → length bs ≤ i → starts_word (drop i w) (drop i bs) ≡ false
word_short w bs i lw lb = by_short lower w bs i lw lb

pub word_differ : (w bs : List ℕ) (i : ℕ) → i < length w → i < length bs → nat_eq (get_or w i 0) (lower (get_or bs i 0)) ≡ false → starts_word (drop i w) (drop i bs) ≡ false
word_differ w bs i lw lb e = by_differ lower w bs i lw lb e

pub word_end : (w bs : List ℕ) (i : ℕ) → length w ≤ i → starts_word (drop i w) (drop i bs) ≡ true
word_end w bs i le = by_end lower w bs i le

and_parts : (x y : Bool) → (x && y) ≡ true → y ≡ true
and_parts true y e = e
and_parts false y e = absurd cc

by_within : (f : ℕ → ℕ) (w bs : List ℕ) → starts_by f w bs ≡ true → length w ≤ length bs
by_within f [] bs e = omega arith
by_within f (a ∷ w) [] e = absurd cc
by_within f (a ∷ w) (b ∷ bs) e = let h = by_within f w bs (and_parts (nat_eq a (f b)) (starts_by f w bs) e) in omega arith

pub starts_within : (w bs : List ℕ) → starts w bs ≡ true → length w ≤ length bs
starts_within w bs e = by_within as_it_is w bs e

pub word_within : (w bs : List ℕ) → starts_word w bs ≡ true → length w ≤ length bs
word_within w bs e = by_within lower w bs e
