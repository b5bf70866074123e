-- Bytes written into a buffer, one run behind another.
use Rattle.std.proofs.Common.{◌≡◌, ℕ, zero, suc, ◌+◌, ◌≤◌, List, [], ◌∷◌, ◌++◌, length, take, drop, refl, sym, ap, ◌∙◌, append_assoc, arith, length-append, length-drop}
use Rattle.std.proofs.lemmas.List.{take-append-drop, drop-drop}
use Rattle.trivia_printer.specs.Written.{written}

take_front : (p d : List ℕ) (n : ℕ) → n ≡ length p → take n (p ++ d) ≡ p
take_front [] d zero e = refl
take_front [] d (suc n) e = absurd (omega arith)
take_front (x ∷ p) d zero e = absurd (omega arith)
take_front (x ∷ p) d (suc n) e = ap (λ (xs : List ℕ). x ∷ xs) (take_front p d n (omega arith))

drop_front : (p d : List ℕ) (n m : ℕ) → n ≡ length p + m → drop n (p ++ d) ≡ drop m d
drop_front [] d n m e = ap (λ (i : ℕ). drop i d) (omega arith)
drop_front (x ∷ p) d zero m e = absurd (omega arith)
drop_front (x ∷ p) d (suc n) m e = drop_front p d n m (omega arith)

pub length_take : (xs : List ℕ) (n : ℕ) → n ≤ length xs → length (take n xs) ≡ n
length_take xs zero le = refl
length_take [] (suc n) le = absurd (omega arith)
length_take (x ∷ xs) (suc n) le = ap suc (length_take xs n (omega arith))

pub append_nil : (xs : List ℕ) → xs ++ [] ≡ xs
append_nil [] = refl
append_nil (x ∷ xs) = ap (λ (ys : List ℕ). x ∷ ys) (append_nil xs)

-- the room stays
pub length_written : (buffer : List ℕ) (at : ℕ) (xs : List ℕ) → at + length xs ≤ length buffer → length (written buffer at xs) ≡ length buffer
length_written buffer at xs le =
    let a = length-append (take at buffer ++ xs) (drop (at + length xs) buffer) in
    let b = length-append (take at buffer) xs in
    let c = length_take buffer at (omega arith) in
    let d = length-drop (at + length xs) buffer in
    omega arith

-- nothing is written
pub written_nothing : (buffer : List ℕ) (at : ℕ) → at ≤ length buffer → written buffer at [] ≡ buffer
written_nothing buffer at le =
    let here : at + 0 ≡ at = omega arith in
    ap (λ (xs : List ℕ). xs ++ drop (at + 0) buffer) (append_nil (take at buffer)) ∙ ap (λ (n : ℕ). take at buffer ++ drop n buffer) here ∙ take-append-drop at buffer

-- one run, and then another behind it
pub written_twice : (buffer : List ℕ) (at : ℕ) (xs ys : List ℕ) → at + length xs + length ys ≤ length buffer
    → written (written buffer at xs) (at + length xs) ys ≡ written buffer at (xs ++ ys)
written_twice buffer at xs ys le =
    let p = take at buffer ++ xs in
    let d = drop (at + length xs) buffer in
    let long : at + length xs ≡ length p = omega (arith, length-append (take at buffer) xs, length_take buffer at (omega arith)) in
    let front : take (at + length xs) (p ++ d) ≡ p = take_front p d (at + length xs) long in
    let back : drop (at + length xs + length ys) (p ++ d) ≡ drop (length ys) d = drop_front p d (at + length xs + length ys) (length ys) (omega arith) in
    let rest : drop (length ys) d ≡ drop (at + length (xs ++ ys)) buffer =
    drop-drop (length ys) (at + length xs) buffer ∙ ap (λ (n : ℕ). drop n buffer)
    (omega (arith, length-append xs ys)) in
    ap (λ (zs : List ℕ). zs ++ ys ++ drop (at + length xs + length ys) (p ++ d)) front
    ∙ ap (λ (zs : List ℕ). p ++ ys ++ zs) (back ∙ rest)
    ∙ ap (λ (zs : List ℕ). zs ++ drop (at + length (xs ++ ys)) buffer) (append_assoc (take at buffer) xs ys)

-- a run behind another, by what is known of each
pub written_pair : (buffer mid out : List ℕ) (at m : ℕ) (xs ys : List ℕ) → mid ≡ written buffer at xs
    → m ≡ at + length xs → out ≡ written mid m ys → at + length xs + length ys ≤ length buffer
    → out ≡ written buffer at (xs ++ ys)
written_pair buffer mid out at m xs ys p q r le =
    r ∙ ap (λ (b : List ℕ). written b m ys) p ∙ ap (λ (n : ℕ). written (written buffer at xs) n ys) q ∙ written_twice buffer at xs ys le

-- a run of what is still to come, which then is less
pub written_step : (first buffer out : List ℕ) (from at place : ℕ) (xs ys all whole : List ℕ)
    → out ≡ written buffer at xs → place ≡ at + length xs → all ≡ xs ++ ys → at + length all ≡ from + length whole
    → from + length whole ≤ length first → length buffer ≡ length first
    → written buffer at all ≡ written first from whole → (place + length ys ≡ from + length whole)
    × (written out place ys ≡ written first from whole) × (length out ≡ length first)
written_step first buffer out from at place xs ys all whole p q r sum room same bytes =
    let long : length all ≡ length xs + length ys = ap length r ∙ length-append xs ys in
    let le : at + length xs + length ys ≤ length buffer = omega arith in
    let le1 : at + length xs ≤ length buffer = omega arith in
    let twice : written out place ys ≡ written buffer at (xs ++ ys) =
    ap (λ (b : List ℕ). written b place ys) p ∙ ap (λ (n : ℕ). written (written buffer at xs) n ys) q ∙ written_twice buffer at xs ys le in
    (omega arith, twice ∙ ap (written buffer at) (sym r) ∙ bytes, ap length p ∙ length_written buffer at xs le1 ∙ same)
