-- Casts and `from` ahead in bytes that are the same up to an edit of names.
use Rattle.std.proofs.Common.{◌≡◌, ℕ, Bool, true, false, cond, not, ◌&&◌, ◌||◌, nat_eq, List, [], ◌∷◌, length, drop, codes, refl, sym, ap, ◌∙◌, arith}
use Rattle.std.proofs.lemmas.Bool.{and_parts, not-true}
use Rattle.std.proofs.lemmas.Bool.Decides.{nat_tests}
use Rattle.php_spellings.specs.Bytes.{is_blank_byte, is_space, lower, starts_word}
use Rattle.php_lexer.specs.Heredocs.{no_label}
use Rattle.php_lexer.specs.Tails.{cast_words, word_alone, begins_word, begins_type}
use Rattle.php_relexing.specs.Words.{comes_from, begins_from, ends_cast, goes_cast, begins_cast}
use Rattle.written_tokens.proofs.names.Shared.{is_cut, cuts, Share, ended, both, cut, first_cut, cut_low, cut_letter, cuts_blank, uncut, starts_same, starts_cut, no_label_same}

-- ---- words

alone_by : (w r s : List ℕ) (t : Bool) → starts_word w r ≡ t → starts_word w s ≡ t
    → (t ≡ true → no_label (drop (length w) r) ≡ no_label (drop (length w) s)) → word_alone w r ≡ word_alone w s
alone_by w r s true p q h = rw (p, q) (h refl)
alone_by w r s false p q h = rw (p, q) refl

alone_same : (w : List ℕ) → uncut w ≡ true → {r s : List ℕ} → Share r s → word_alone w r ≡ word_alone w s
alone_same w out {r} {s} h =
    let is = starts_same lower cut_low w out h in
    alone_by w r s (starts_word w r) refl (sym is.0) (λ e. no_label_same (is.1 e))

abbrev whole : List ℕ → Bool
whole [] = false
whole (a ∷ w) = uncut (a ∷ w)

abbrev all_whole : List (List ℕ) → Bool
all_whole [] = true
all_whole (w ∷ ws) = whole w && all_whole ws

alone_cut : (w r : List ℕ) → whole w ≡ true → cuts r ≡ true → word_alone w r ≡ false
alone_cut [] r out h = absurd cc
alone_cut (a ∷ w) r out h = rw (starts_cut lower cut_low a w r (not-true (is_cut a) (and_parts (not (is_cut a)) (uncut w) out).0) h) refl

whole_uncut : (w : List ℕ) → whole w ≡ true → uncut w ≡ true
whole_uncut [] h = absurd cc
whole_uncut (a ∷ w) h = h

words_same : (ws : List (List ℕ)) → all_whole ws ≡ true → {r s : List ℕ} → Share r s → begins_word ws r ≡ begins_word ws s
words_same [] out h = refl
words_same (w ∷ ws) out h =
    let (one, more) = and_parts (whole w) (all_whole ws) out in
    rw (alone_same w (whole_uncut w one) h, words_same ws more h) refl

words_cut : (ws : List (List ℕ)) (r : List ℕ) → all_whole ws ≡ true → cuts r ≡ true → begins_word ws r ≡ false
words_cut [] r out h = refl
words_cut (w ∷ ws) r out h =
    let (one, more) = and_parts (whole w) (all_whole ws) out in
    rw (alone_cut w r one h) (words_cut ws r more h)

-- ---- casts

not_round : (b : ℕ) → is_cut b ≡ true → nat_eq b 41 ≡ false
not_round b h = grind (arith, nat_tests)

ends_cut_by : (b : ℕ) (bs : List ℕ) → (cuts bs ≡ true → ends_cast bs ≡ false) → cuts (b ∷ bs) ≡ true → (t : Bool)
    → is_blank_byte b ≡ t → cond t (ends_cast bs) (nat_eq b 41) ≡ false
ends_cut_by b bs ih h true e = ih (cuts_blank b bs e h)
ends_cut_by b bs ih h false e = not_round b (first_cut b bs h)

ends_cut : (r : List ℕ) → cuts r ≡ true → ends_cast r ≡ false
ends_cut [] h = absurd cc
ends_cut (b ∷ bs) h = ends_cut_by b bs (ends_cut bs) h (is_blank_byte b) refl

goes_cut : (r : List ℕ) → cuts r ≡ true → goes_cast r ≡ false
goes_cut [] h = absurd cc
goes_cut (b ∷ bs) h = rw (cut_letter b (first_cut b bs h)) (ends_cut (b ∷ bs) h)

cast_cut_by : (b : ℕ) (bs : List ℕ) → (cuts bs ≡ true → begins_cast bs ≡ false) → cuts (b ∷ bs) ≡ true → (t : Bool)
    → is_blank_byte b ≡ t → cond t (begins_cast bs) (begins_type (b ∷ bs) && goes_cast bs) ≡ false
cast_cut_by b bs ih h true e = ih (cuts_blank b bs e h)
cast_cut_by b bs ih h false e = ap (λ (t : Bool). t && goes_cast bs) (words_cut cast_words (b ∷ bs) refl h)

cast_cut : (r : List ℕ) → cuts r ≡ true → begins_cast r ≡ false
cast_cut [] h = absurd cc
cast_cut (b ∷ bs) h = cast_cut_by b bs (cast_cut bs) h (is_blank_byte b) refl

ends_same : {r s : List ℕ} → Share r s → ends_cast r ≡ ends_cast s
ends_same ended = refl
ends_same (both c more) = rw (ends_same more) refl
ends_same (cut {r} {s} h k) = ends_cut r h ∙ sym (ends_cut s k)

goes_same : {r s : List ℕ} → Share r s → goes_cast r ≡ goes_cast s
goes_same ended = refl
goes_same (both c more) = rw (goes_same more, ends_same (both c more)) refl
goes_same (cut {r} {s} h k) = goes_cut r h ∙ sym (goes_cut s k)

cast_by : (c : ℕ) (r s : List ℕ) → begins_cast r ≡ begins_cast s → begins_type (c ∷ r) ≡ begins_type (c ∷ s) → goes_cast r ≡ goes_cast s → begins_cast (c ∷ r) ≡ begins_cast (c ∷ s)
cast_by c r s p q h =
    ap (λ (x : Bool). cond (is_blank_byte c) x (begins_type (c ∷ r) && goes_cast r)) p
    ∙ ap (λ (x : Bool). cond (is_blank_byte c) (begins_cast s) (x && goes_cast r)) q
    ∙ ap (λ (x : Bool). cond (is_blank_byte c) (begins_cast s) (begins_type (c ∷ s) && x)) h

pub cast_same : {r s : List ℕ} → Share r s → begins_cast r ≡ begins_cast s
cast_same ended = refl
cast_same (both {r} {s} c more) = cast_by c r s (cast_same more) (words_same cast_words refl (both c more)) (goes_same more)
cast_same (cut {r} {s} h k) = cast_cut r h ∙ sym (cast_cut s k)

-- ---- `from`

comes_cut_by : (b : ℕ) (bs : List ℕ) → (cuts bs ≡ true → comes_from bs ≡ false) → cuts (b ∷ bs) ≡ true → (t : Bool)
    → is_space b ≡ t → cond t (cuts bs) (nat_eq b 92 || (nat_eq b 35 || nat_eq b 47)) ≡ true
    → cond t (comes_from bs) (word_alone (codes "from") (b ∷ bs)) ≡ false
comes_cut_by b bs ih h true e k = ih k
comes_cut_by b bs ih h false e k = alone_cut (codes "from") (b ∷ bs) refl h

comes_cut : (r : List ℕ) → cuts r ≡ true → comes_from r ≡ false
comes_cut [] h = absurd cc
comes_cut (b ∷ bs) h = comes_cut_by b bs (comes_cut bs) h (is_space b) refl h

from_cut_by : (b : ℕ) (bs : List ℕ) (t : Bool) → is_space b ≡ t → cond t (cuts bs) (nat_eq b 92 || (nat_eq b 35 || nat_eq b 47)) ≡ true → (t && comes_from bs) ≡ false
from_cut_by b bs true e k = comes_cut bs k
from_cut_by b bs false e k = refl

from_cut : (r : List ℕ) → cuts r ≡ true → begins_from r ≡ false
from_cut [] h = absurd cc
from_cut (b ∷ bs) h = from_cut_by b bs (is_space b) refl h

comes_same : {r s : List ℕ} → Share r s → comes_from r ≡ comes_from s
comes_same ended = refl
comes_same (both {r} {s} c more) =
    ap (λ (x : Bool). cond (is_space c) x (word_alone (codes "from") (c ∷ r))) (comes_same more)
    ∙ ap (λ (x : Bool). cond (is_space c) (comes_from s) x) (alone_same (codes "from") refl (both c more))
comes_same (cut {r} {s} h k) = comes_cut r h ∙ sym (comes_cut s k)

pub from_same : {r s : List ℕ} → Share r s → begins_from r ≡ begins_from s
from_same ended = refl
from_same (both {r} {s} c more) = ap (λ (x : Bool). is_space c && x) (comes_same more)
from_same (cut {r} {s} h k) = from_cut r h ∙ sym (from_cut s k)
