-- Keywords and the lower case of a text.
use Rattle.std.proofs.Common.{◌≡◌, ℕ, Bool, false, ◌&&◌, ◌||◌, nat_eq, List, [], ◌∷◌, map, refl, ap}
use Rattle.php_spellings.specs.Bytes.{lower, is_empty}
use Rattle.php_spellings.specs.Words.{keywords, is_word, is_word_of, is_keyword}

-- whether two texts are the same
abbrev pub same_text : List ℕ → List ℕ → Bool
same_text [] text = is_empty text
same_text (a ∷ w) [] = false
same_text (a ∷ w) (b ∷ bs) = nat_eq a b && same_text w bs

abbrev pub same_as_one : List (List ℕ) → List ℕ → Bool
same_as_one [] text = false
same_as_one (w ∷ ws) text = same_text w text || same_as_one ws text

word_lower : (w text : List ℕ) → is_word w text ≡ same_text w (map lower text)
word_lower [] [] = refl
word_lower [] (b ∷ bs) = refl
word_lower (a ∷ w) [] = refl
word_lower (a ∷ w) (b ∷ bs) = ap (λ (x : Bool). nat_eq a (lower b) && x) (word_lower w bs)

one_lower : (ws : List (List ℕ)) (text : List ℕ) → is_word_of ws text ≡ same_as_one ws (map lower text)
one_lower [] text = refl
one_lower (w ∷ ws) text = rw (word_lower w text, one_lower ws text) refl

-- a keyword is one in any case
pub keyword_lower : (text : List ℕ) → is_keyword text ≡ same_as_one keywords (map lower text)
keyword_lower text = one_lower keywords text
