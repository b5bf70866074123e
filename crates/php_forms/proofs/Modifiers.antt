-- Modifiers one after another.
use Rattle.std.proofs.Common.{◌≡◌, ℕ, zero, suc, ◌+◌, ◌<◌, ◌≤◌, true, false, List, [], ◌∷◌, length, take, drop, refl, ap, ◌∙◌, arith}
use Rattle.std.specs.List.{prefix_len}
use Rattle.php_tree.specs.declared.token.Token.{Token}
use Rattle.php_terminals.specs.Ahead.{first_of}
use Rattle.php_terminals.specs.Classify.{is_modifier, terminal}
use Rattle.php_forms.specs.Heads.{is_some_modifier, modifiers_len}

one_more : (n : ℕ) (x : Token) (xs : List Token) → length (take (1 + n) (x ∷ xs)) ≡ 1 + length (take n xs)
one_more n x xs =
    let e : 1 + n ≡ suc n = omega arith in
    let f : suc (length (take n xs)) ≡ 1 + length (take n xs) = omega arith in
    ap (λ (k : ℕ). length (take k (x ∷ xs))) e ∙ f

pub modifiers_more : (ts : List Token) (i : ℕ) → i < length ts → is_modifier (first_of (drop i ts)) ≡ true → modifiers_len (drop i ts) ≡ 1 + modifiers_len (drop (i + 1) ts)
modifiers_more [] i lt h = absurd (omega arith)
modifiers_more (x ∷ xs) zero lt h = rw h (one_more (prefix_len is_some_modifier xs) x xs)
modifiers_more (x ∷ xs) (suc i) lt h = let e : suc i + 1 ≡ suc (i + 1) = omega arith in rw e (modifiers_more xs i (omega arith) h)

pub modifiers_end : (ts : List Token) (i : ℕ) → i < length ts → is_modifier (first_of (drop i ts)) ≡ false → modifiers_len (drop i ts) ≡ 0
modifiers_end [] i lt h = absurd (omega arith)
modifiers_end (x ∷ xs) zero lt h = rw h refl
modifiers_end (x ∷ xs) (suc i) lt h = modifiers_end xs i (omega arith) h

pub modifiers_all : (ts : List Token) (i : ℕ) → length ts ≤ i → modifiers_len (drop i ts) ≡ 0
modifiers_all [] zero le = refl
modifiers_all [] (suc i) le = refl
modifiers_all (x ∷ xs) zero le = absurd (omega arith)
modifiers_all (x ∷ xs) (suc i) le = modifiers_all xs i (omega arith)
