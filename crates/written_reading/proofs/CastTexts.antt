-- The texts of casts: one that 8.3 lacks is `(real)` or `(unset)`, with blanks and in any case.
use Rattle.std.proofs.Common.{
  ◌≡◌,
  ℕ,
  suc,
  ◌+◌,
  Bool,
  true,
  false,
  cond,
  not,
  ◌&&◌,
  ◌||◌,
  nat_eq,
  nat_le,
  nat_lt,
  List,
  [],
  ◌∷◌,
  ◌++◌,
  length,
  drop,
  slice_index,
  codes,
  refl,
  sym,
  ap,
  ◌∙◌,
  subst,
  arith,
}
use Rattle.std.specs.List.{prefix_len}
use Rattle.std.specs.Str.{bytes_eq}
use Rattle.std.specs.Char.{to_ascii_lowercase}
use Rattle.std.proofs.lemmas.Bool.{and_parts, eqb-true}
use Rattle.std.proofs.lemmas.Bool.Decides.{nat_tests}
use Rattle.std.proofs.lemmas.Slice.Eq.{bytes_eq-Decides}
use Rattle.php_spellings.specs.declared.table.State.TheVariants.{First, Plain, Escaped}
use Rattle.php_spellings.specs.declared.table.Until.TheVariants.{CastWord}
use Rattle.php_spellings.specs.Bytes.{is_empty, is_letter, is_label_byte, is_blank_byte, lower, starts_word}
use Rattle.php_lexer.specs.Heredocs.{led, no_label}
use Rattle.php_lexer.specs.Tails.{is_until, cast_words, word_alone, begins_word, begins_type}
use Rattle.php_terminals.specs.declared.terminal.Terminal.TheVariants.{Cast}
use Rattle.php_terminals.specs.Classify.{is_opening, opening, cast_letter, cast_at, cast}
use Rattle.syntax_rules.specs.Casts.{bare}
use Rattle.rewritten_shapes.specs.Laws.{is_old}
use Rattle.written_reading.proofs.Texts.{lower_is, caseless, letter_label, bare_blank, bare_kept, escaped_bare, nothing}

-- ---- the letters of the word

abbrev is_small : ℕ → Bool
is_small a = nat_le 97 a && nat_le a 122

abbrev all_small : List ℕ → Bool
all_small [] = true
all_small (a ∷ w) = is_small a && all_small w

letter_by : (a b : ℕ) (u : Bool) → (nat_le 65 b && nat_le b 90) ≡ u → is_small a ≡ true → nat_eq a (cond u (b + 32) b) ≡ true → is_letter b ≡ true
letter_by a b true e s h = rw e refl
letter_by a b false e s h =
    let g : (nat_le 97 b && nat_le b 122) ≡ true = subst (λ (x : ℕ). is_small x ≡ true) (eqb-true a b h) s in
    rw (e, g) refl

small_letter : (a b : ℕ) → is_small a ≡ true → nat_eq a (lower b) ≡ true → is_letter b ≡ true
small_letter a b s h = letter_by a b (nat_le 65 b && nat_le b 90) refl s h

differs_by : (k a b : ℕ) (t : Bool) → nat_eq b k ≡ t → is_small a ≡ true → nat_eq a (lower b) ≡ true → is_small (lower k) ≡ false → t ≡ false
differs_by k a b true e s h n =
    let same : a ≡ lower k = eqb-true a (lower b) h ∙ ap lower (eqb-true b k e) in
    let small : is_small (lower k) ≡ true = subst (λ (x : ℕ). is_small x ≡ true) same s in
    absurd (let clash : true ≡ false = sym small ∙ n in cc)
differs_by k a b false e s h n = refl

differs : (k a b : ℕ) → is_small (lower k) ≡ false → is_small a ≡ true → nat_eq a (lower b) ≡ true → nat_eq b k ≡ false
differs k a b n s h = differs_by k a b (nat_eq b k) refl s h n

no_blank : (a b : ℕ) → is_small a ≡ true → nat_eq a (lower b) ≡ true → is_blank_byte b ≡ false
no_blank a b s h = rw (differs 32 a b refl s h, differs 9 a b refl s h) refl

no_opening : (a b : ℕ) → is_small a ≡ true → nat_eq a (lower b) ≡ true → is_opening b ≡ false
no_opening a b s h = rw (differs 40 a b refl s h, differs 32 a b refl s h, differs 9 a b refl s h) refl

lower_to : (a b : ℕ) → nat_eq a (lower b) ≡ true → to_ascii_lowercase b ≡ a
lower_to a b h = lower_is b ∙ sym (eqb-true a (lower b) h)

-- ---- behind the word

plain_step : (b : ℕ) (bs rest : List ℕ) → is_letter b ≡ true → is_blank_byte b ≡ false → nat_eq b 41 ≡ false
    → is_until CastWord Plain (b ∷ bs) rest ≡ is_until CastWord Plain bs rest
plain_step b bs rest l k f = rw (l, k, f) refl

end_by : (b : ℕ) (bs rest : List ℕ) (l k f : Bool) → is_letter b ≡ l → is_blank_byte b ≡ k → nat_eq b 41 ≡ f → not (is_label_byte b) ≡ true
    → (not (not ((l || k) || f)) && cond f (is_empty bs) (is_until CastWord (cond k Escaped Plain) bs rest)) ≡ true → bare (b ∷ bs) ≡ 41 ∷ []
end_by b bs rest true k f p q r n h = absurd (let clash : false ≡ true = ap not (sym (letter_label b p)) ∙ n in cc)
end_by b bs rest false true true p q r n h = absurd (let g : is_blank_byte 41 ≡ true = subst (λ (x : ℕ). is_blank_byte x ≡ true) (eqb-true b 41 r) q in cc)
end_by b bs rest false true false p q r n h = bare_blank b bs q ∙ escaped_bare bs rest h
end_by b bs rest false false true p q r n h =
    bare_kept b bs q ∙ ap (λ (x : ℕ). to_ascii_lowercase x ∷ bare bs) (eqb-true b 41 r) ∙ ap (λ (x : List ℕ). 41 ∷ bare x) (nothing bs h)
end_by b bs rest false false false p q r n h = absurd cc

word_bare : (w : List ℕ) → all_small w ≡ true → (text rest : List ℕ) → starts_word w (text ++ rest) ≡ true
    → no_label (drop (length w) (text ++ rest)) ≡ true → is_until CastWord Plain text rest ≡ true → bare text ≡ w
    ++ 41 ∷ []
word_bare [] s [] rest p n h = absurd cc
word_bare [] s (b ∷ bs) rest p n h = end_by b bs rest (is_letter b) (is_blank_byte b) (nat_eq b 41) refl refl refl n h
word_bare (a ∷ w) s [] rest p n h = absurd cc
word_bare (a ∷ w) s (b ∷ bs) rest p n h =
    let s2 = and_parts (is_small a) (all_small w) s in
    let p2 = and_parts (nat_eq a (lower b)) (starts_word w (bs ++ rest)) p in
    let k = no_blank a b s2.0 p2.0 in
    let later = sym (plain_step b bs rest (small_letter a b s2.0 p2.0) k (differs 41 a b refl s2.0 p2.0)) ∙ h in
    bare_kept b bs k ∙ ap (λ (x : ℕ). x ∷ bare bs) (lower_to a b p2.0) ∙ ap (λ (x : List ℕ). a ∷ x) (word_bare w s2.1 bs rest p2.1 n later)

-- ---- the word

-- a text behind `(` is no cast that 8.3 lacks, or `real)` or `unset)`
abbrev Rest : List ℕ → Type 0
Rest text = (not (is_old (cast_at (opening text) text)) || (bytes_eq (bare text) (codes "real)") || bytes_eq (bare text) (codes "unset)"))) ≡ true

abbrev is_fine : List ℕ → Bool
is_fine [] = false
is_fine (a ∷ w) = all_small (a ∷ w) && (not (is_old (cast_letter a)) || (bytes_eq (a ∷ w) (codes "real") || bytes_eq (a ∷ w) (codes "unset")))

abbrev all_fine : List (List ℕ) → Bool
all_fine [] = true
all_fine (w ∷ ws) = is_fine w && all_fine ws

no_more : (b : ℕ) (bs : List ℕ) → is_opening b ≡ false → opening (b ∷ bs) ≡ 0
no_more b bs h = rw h refl

one_more : (b : ℕ) (bs : List ℕ) → is_opening b ≡ true → opening (b ∷ bs) ≡ suc (opening bs)
one_more b bs h = let e : 1 + prefix_len is_opening bs ≡ suc (prefix_len is_opening bs) = omega arith in rw (h, e) refl

less_zero : (n : ℕ) (t : Bool) → nat_lt 0 (suc n) ≡ t → t ≡ true
less_zero n true e = refl
less_zero n false e = grind (arith, nat_tests)

less_suc : (m n : ℕ) (t u : Bool) → nat_lt (suc m) (suc n) ≡ t → nat_lt m n ≡ u → t ≡ u
less_suc m n true true e f = refl
less_suc m n true false e f = absurd (let clash : true ≡ false = grind (arith, nat_tests) in cc)
less_suc m n false true e f = absurd (let clash : true ≡ false = grind (arith, nat_tests) in cc)
less_suc m n false false e f = refl

old_at : (b : ℕ) (bs : List ℕ) → is_opening b ≡ false → cast_at (opening (b ∷ bs)) (b ∷ bs) ≡ cast_letter (to_ascii_lowercase b)
old_at b bs h =
    ap (λ (n : ℕ). cast_at n (b ∷ bs)) (no_more b bs h)
    ∙ ap (λ (t : Bool). cond t (cast_letter (to_ascii_lowercase b)) Cast) (less_zero (length bs) (nat_lt 0 (suc (length bs))) refl)

rest_by : (text w : List ℕ) (x y z : Bool) → not (is_old (cast_at (opening text) text)) ≡ x
    → bytes_eq w (codes "real") ≡ y → bytes_eq w (codes "unset") ≡ z → bare text ≡ w ++ 41 ∷ []
    → (x || (y || z)) ≡ true → Rest text
rest_by text w true y z p q r e h = rw p refl
rest_by text w false true z p q r e h =
    let real : bare text ≡ codes "real)" = e ∙ ap (λ (x : List ℕ). x ++ 41 ∷ []) ((bytes_eq-Decides w (codes "real")).0 q) in rw (p, real) refl
rest_by text w false false true p q r e h =
    let unset : bare text ≡ codes "unset)" = e ∙ ap (λ (x : List ℕ). x ++ 41 ∷ []) ((bytes_eq-Decides w (codes "unset")).0 r) in rw (p, unset) refl
rest_by text w false false false p q r e h = absurd cc

word_rest : (a : ℕ) (w : List ℕ) (b : ℕ) (bs rest : List ℕ) → is_fine (a ∷ w) ≡ true
    → word_alone (a ∷ w) (b ∷ bs ++ rest) ≡ true → is_until CastWord Plain bs rest ≡ true → Rest (b ∷ bs)
word_rest a w b bs rest f p h =
    let f2 = and_parts (all_small (a ∷ w)) (not (is_old (cast_letter a)) || (bytes_eq (a ∷ w) (codes "real") || bytes_eq (a ∷ w) (codes "unset"))) f in
    let s2 = and_parts (is_small a) (all_small w) f2.0 in
    let p2 = and_parts (starts_word (a ∷ w) (b ∷ bs ++ rest)) (no_label (drop (length w) (bs ++ rest))) p in
    let p3 = and_parts (nat_eq a (lower b)) (starts_word w (bs ++ rest)) p2.0 in
    let same : bare (b ∷ bs) ≡ (a ∷ w) ++ 41 ∷ [] =
    bare_kept b bs (no_blank a b s2.0 p3.0) ∙ ap (λ (x : ℕ). x ∷ bare bs) (lower_to a b p3.0) ∙ ap (λ (x : List ℕ). a ∷ x) (word_bare w s2.1 bs rest p3.1 p2.1 h) in
    let old : not (is_old (cast_at (opening (b ∷ bs)) (b ∷ bs))) ≡ not (is_old (cast_letter a)) =
    ap (λ x. not (is_old x)) (old_at b bs (no_opening a b s2.0 p3.0)) ∙ ap (λ (x : ℕ). not (is_old (cast_letter x))) (lower_to a b p3.0) in
    rest_by (b ∷ bs) (a ∷ w) (not (is_old (cast_letter a))) (bytes_eq (a ∷ w) (codes "real")) (bytes_eq (a ∷ w) (codes "unset")) old refl refl same f2.1

words_rest : (ws : List (List ℕ)) (b : ℕ) (bs rest : List ℕ) → all_fine ws ≡ true → begins_word ws (b ∷ bs ++ rest) ≡ true → is_until CastWord Plain bs rest ≡ true → Rest (b ∷ bs)
words_rest [] b bs rest f p h = absurd cc
words_rest ([] ∷ ws) b bs rest f p h = absurd cc
words_rest ((a ∷ w) ∷ ws) b bs rest f p h =
    let f2 = and_parts (is_fine (a ∷ w)) (all_fine ws) f in
    go (word_alone (a ∷ w) (b ∷ bs ++ rest)) refl (λ e. word_rest a w b bs rest f2.0 e h) (λ e. words_rest ws b bs rest f2.1 e h) p
  where
    go : (t : Bool) → word_alone (a ∷ w) (b ∷ bs ++ rest) ≡ t
        → (word_alone (a ∷ w) (b ∷ bs ++ rest) ≡ true → Rest (b ∷ bs))
        → (begins_word ws (b ∷ bs ++ rest) ≡ true → Rest (b ∷ bs)) → (t || begins_word ws (b ∷ bs ++ rest)) ≡ true
        → Rest (b ∷ bs)
    go true e one others q = one e
    go false e one others q = others q

-- ---- the whole

opens : (b : ℕ) → is_blank_byte b ≡ true → is_opening b ≡ true
opens b h = by (nat_eq b 40) (nat_eq b 32) (nat_eq b 9) h
  where
    by : (x y z : Bool) → (y || z) ≡ true → ((x || y) || z) ≡ true
    by true y z e = refl
    by false y z e = e

behind_blank : (b : ℕ) (bs : List ℕ) → is_opening b ≡ true → cast_at (opening (b ∷ bs)) (b ∷ bs) ≡ cast_at (opening bs) bs
behind_blank b bs h =
    ap (λ (n : ℕ). cast_at n (b ∷ bs)) (one_more b bs h)
    ∙ ap (λ (t : Bool). cond t (cast_letter (to_ascii_lowercase (slice_index bs (opening bs)))) Cast)
    (less_suc (opening bs) (length bs) (nat_lt (suc (opening bs)) (suc (length bs)))
    (nat_lt (opening bs) (length bs)) refl refl)

first_by : (b : ℕ) (bs rest : List ℕ) (k t : Bool) → is_blank_byte b ≡ k → begins_type (b ∷ bs ++ rest) ≡ t → (is_until CastWord First bs rest ≡ true → Rest bs)
    → (not (not (k || t)) && cond false (is_empty bs) (is_until CastWord (cond k First Plain) bs rest)) ≡ true → Rest (b ∷ bs)
first_by b bs rest true t e f ih h = rw (behind_blank b bs (opens b e), bare_blank b bs e) (ih h)
first_by b bs rest false true e f ih h = words_rest cast_words b bs rest refl f h
first_by b bs rest false false e f ih h = absurd cc

first_rest : (text rest : List ℕ) → is_until CastWord First text rest ≡ true → Rest text
first_rest [] rest h = absurd cc
first_rest (b ∷ bs) rest h = first_by b bs rest (is_blank_byte b) (begins_type (b ∷ bs ++ rest)) refl refl (first_rest bs rest) h

cast_open : (bs : List ℕ) → cast (40 ∷ bs) ≡ cast_at (opening bs) bs
cast_open bs = behind_blank 40 bs refl

-- A cast that 8.3 lacks is `(real)` or `(unset)`.
pub cast_text : (text rest : List ℕ) → led lower (40 ∷ []) (is_until CastWord First) text rest ≡ true
    → (not (is_old (cast text)) || (bytes_eq (bare text) (codes "(real)") || bytes_eq (bare text) (codes "(unset)")))
    ≡ true
cast_text [] rest h = absurd cc
cast_text (b ∷ bs) rest h =
    let p = and_parts (nat_eq 40 (lower b)) (is_until CastWord First bs rest) h in
    subst (λ (x : ℕ). (not (is_old (cast (x ∷ bs)))
    || (bytes_eq (bare (x ∷ bs)) (codes "(real)") || bytes_eq (bare (x ∷ bs)) (codes "(unset)"))) ≡ true)
    (sym (caseless 40 b refl p.0))
    (subst (λ x. (not (is_old x) || (bytes_eq (bare (40 ∷ bs)) (codes "(real)")
    || bytes_eq (bare (40 ∷ bs)) (codes "(unset)"))) ≡ true) (sym (cast_open bs)) (first_rest bs rest p.1))
