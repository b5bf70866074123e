-- Keywords by their first letter.
use Rattle.std.proofs.Common.{◌≡◌, ℕ, ◌<◌, get_or, Bool, true, false, cond, ◌&&◌, ◌||◌, nat_eq, List, [], ◌∷◌, length, refl, sym, ap, ◌∙◌, arith}
use Rattle.std.proofs.lemmas.Bool.{eqb-true}
use Rattle.php_spellings.specs.Bytes.{lower, starts_word}
use Rattle.php_spellings.specs.Words.{keywords, words_by, is_word, is_word_of, is_keyword}

and_false : (b : Bool) → (b && false) ≡ false
and_false true = refl
and_false false = refl

-- a word of the same length that the text begins with is the text
pub word_full : (w text : List ℕ) → length w ≡ length text → is_word w text ≡ starts_word w text
word_full [] [] e = refl
word_full [] (b ∷ bs) e = absurd (omega arith)
word_full (a ∷ w) [] e = absurd (omega arith)
word_full (a ∷ w) (b ∷ bs) e = ap (λ (x : Bool). nat_eq a (lower b) && x) (word_full w bs (omega arith))

pub word_other : (w text : List ℕ) → (length w ≡ length text → ⊥) → is_word w text ≡ false
word_other [] [] h = absurd (h refl)
word_other [] (b ∷ bs) h = refl
word_other (a ∷ w) [] h = refl
word_other (a ∷ w) (b ∷ bs) h = rw (word_other w bs (λ e. h (omega arith))) (and_false (nat_eq a (lower b)))

by_head : (b : ℕ) (bs : List ℕ) (a : ℕ) (w : List ℕ) (ws : List (List ℕ))
    → is_word_of ws (b ∷ bs) ≡ is_word_of (words_by (lower b) ws) (b ∷ bs) → (t : Bool) → nat_eq a (lower b) ≡ t
    → is_word_of ((a ∷ w) ∷ ws) (b ∷ bs) ≡ is_word_of
    (cond t ((a ∷ w) ∷ words_by (lower b) ws) (words_by (lower b) ws)) (b ∷ bs)
by_head b bs a w ws ih true e = rw ih refl
by_head b bs a w ws ih false e = rw (e, ih) refl

among : (b : ℕ) (bs : List ℕ) (ws : List (List ℕ)) → is_word_of ws (b ∷ bs) ≡ is_word_of (words_by (lower b) ws) (b ∷ bs)
among b bs [] = refl
among b bs ([] ∷ ws) = among b bs ws
among b bs ((a ∷ w) ∷ ws) = by_head b bs a w ws (among b bs ws) (nat_eq a (lower b)) refl

pub by_letter : (b : ℕ) (bs : List ℕ) → is_keyword (b ∷ bs) ≡ is_word_of (words_by (lower b) keywords) (b ∷ bs)
by_letter b bs = among b bs keywords

-- the letters that keywords begin with
abbrev pub letters : List ℕ
letters = 95 ∷ 97 ∷ 98 ∷ 99 ∷ 100 ∷ 101 ∷ 102 ∷ 103 ∷ 105 ∷ 108 ∷ 110 ∷ 111 ∷ 112 ∷ 114 ∷ 115 ∷ 116 ∷ 117 ∷ 118 ∷ 119 ∷ 120 ∷ 121 ∷ []

abbrev pub has_letter : List ℕ → ℕ → Bool
has_letter [] b = false
has_letter (k ∷ ks) b = nat_eq b k || has_letter ks b

abbrev all_begin : List (List ℕ) → Bool
all_begin [] = true
all_begin ([] ∷ ws) = all_begin ws
all_begin ((a ∷ w) ∷ ws) = has_letter letters a && all_begin ws

and_first : (x y : Bool) → (x && y) ≡ true → x ≡ true
and_first true y e = refl
and_first false y e = absurd cc

and_second : (x y : Bool) → (x && y) ≡ true → y ≡ true
and_second true y e = e
and_second false y e = absurd cc

none_by : (b : ℕ) → has_letter letters b ≡ false → (a : ℕ) (w : List ℕ) (ws : List (List ℕ))
    → has_letter letters a ≡ true → words_by b ws ≡ [] → (t : Bool) → nat_eq a b ≡ t
    → cond t ((a ∷ w) ∷ words_by b ws) (words_by b ws) ≡ []
none_by b h a w ws e rest true p = let same : a ≡ b = eqb-true a b p in let clash : true ≡ false = sym e ∙ ap (has_letter letters) same ∙ h in absurd cc
none_by b h a w ws e rest false p = rest

none_among : (b : ℕ) → has_letter letters b ≡ false → (ws : List (List ℕ)) → all_begin ws ≡ true → words_by b ws ≡ []
none_among b h [] e = refl
none_among b h ([] ∷ ws) e = none_among b h ws e
none_among b h ((a ∷ w) ∷ ws) e = none_by b h a w ws (and_first (has_letter letters a) (all_begin ws) e)
    (none_among b h ws (and_second (has_letter letters a) (all_begin ws) e)) (nat_eq a b) refl

pub none_by_letter : (b : ℕ) → has_letter letters b ≡ false → words_by b keywords ≡ []
none_by_letter b h = none_among b h keywords refl

pub by_first : (text : List ℕ) → 0 < length text → is_keyword text ≡ is_word_of (words_by (lower (get_or text 0 0)) keywords) text
by_first [] lt = absurd (omega arith)
by_first (b ∷ bs) lt = by_letter b bs
