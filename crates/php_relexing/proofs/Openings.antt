-- `(` and casts.
use Rattle.std.proofs.Common.{◌≡◌, ℕ, ◌+◌, Bool, true, false, cond, not, ◌&&◌, ◌||◌, nat_eq, nat_lt, List, [], ◌∷◌, Option, Some, None, refl, sym, ap, ◌∙◌, arith}
use Rattle.std.proofs.lemmas.Bool.Decides.{nat_tests}
use Rattle.php_spellings.specs.declared.table.Kind.TheVariants.{Cast, Op}
use Rattle.php_spellings.specs.declared.table.State.TheVariants.{First, Plain, Escaped}
use Rattle.php_spellings.specs.declared.table.Until.TheVariants.{CastWord}
use Rattle.php_spellings.specs.Bytes.{is_blank_byte, is_letter}
use Rattle.php_lexer.specs.Tails.{begins_type}
use Rattle.php_lexer.specs.Modes.{code}
use Rattle.php_lexer.specs.Scan.{until_len, add_to, longer}
use Rattle.php_relexing.specs.Words.{ends_cast, goes_cast, begins_cast, OpeningsAreUncast}
use Rattle.php_relexing.proofs.Closed.{cast_scan, kind_found}
use Rattle.php_relexing.proofs.Scanned.{found, scan_of, longest_of}

-- whether a length is found
abbrev is_some : Option ℕ → Bool
is_some None = false
is_some (Some n) = true

some_more : (o : Option ℕ) → is_some (add_to 1 o) ≡ is_some o
some_more None = refl
some_more (Some n) = refl

-- the tests of a byte in a cast
abbrev byte_step : Bool → Bool → Option ℕ → Option ℕ
byte_step bar close x = cond bar None (cond close (Some 1) (add_to 1 x))

end_by : (blank bracket : Bool) (x : Option ℕ) (more : Bool) → is_some x ≡ more → (blank && bracket) ≡ false
    → is_some (byte_step (not (blank || bracket)) bracket x) ≡ cond blank more bracket
end_by true true x more e h = absurd cc
end_by true false x more e h = some_more x ∙ e
end_by false true x more e h = refl
end_by false false x more e h = refl

blank_bracket : (b : ℕ) → (is_blank_byte b && nat_eq b 41) ≡ false
blank_bracket b = by_blank (is_blank_byte b) refl
  where
    by_blank : (t : Bool) → is_blank_byte b ≡ t → (t && nat_eq b 41) ≡ false
    by_blank false e = refl
    by_blank true e = grind (arith, nat_tests)

ends_len : (bs : List ℕ) → is_some (until_len CastWord Escaped bs) ≡ ends_cast bs
ends_len [] = refl
ends_len (b ∷ bs) = end_by (is_blank_byte b) (nat_eq b 41) (until_len CastWord Escaped bs) (ends_cast bs) (ends_len bs) (blank_bracket b)

letter_apart : (b : ℕ) → is_letter b ≡ true → (is_blank_byte b ≡ false) × (nat_eq b 41 ≡ false)
letter_apart b h = (grind (arith, nat_tests), grind (arith, nat_tests))

word_by : (b : ℕ) (bs : List ℕ) (t : Bool) → is_letter b ≡ t → is_some (until_len CastWord Plain bs) ≡ goes_cast bs
    → (u : Bool) → is_blank_byte b ≡ u → is_some (until_len CastWord Plain (b ∷ bs)) ≡ cond t (goes_cast bs)
    (ends_cast (b ∷ bs))
word_by b bs true e ih u f = let no = letter_apart b e in rw (e, no.0, no.1) (some_more (until_len CastWord Plain bs) ∙ ih)
word_by b bs false e ih true f = let no = blank_bracket b in by_bracket (nat_eq b 41) refl
  where
    by_bracket : (t : Bool) → nat_eq b 41 ≡ t → is_some (until_len CastWord Plain (b ∷ bs)) ≡ ends_cast (b ∷ bs)
    by_bracket true p = absurd (let clash : (true && true) ≡ false = rw (f, p) at (blank_bracket b) in cc)
    by_bracket false p = rw (e, f, p) (some_more (until_len CastWord Escaped bs) ∙ ends_len bs)
word_by b bs false e ih false f = by_bracket (nat_eq b 41) refl
  where
    by_bracket : (t : Bool) → nat_eq b 41 ≡ t → is_some (until_len CastWord Plain (b ∷ bs)) ≡ ends_cast (b ∷ bs)
    by_bracket true p = rw (e, f, p) refl
    by_bracket false p = rw (e, f, p) refl

goes_len : (bs : List ℕ) → is_some (until_len CastWord Plain bs) ≡ goes_cast bs
goes_len [] = refl
goes_len (b ∷ bs) = word_by b bs (is_letter b) refl (goes_len bs) (is_blank_byte b) refl

first_by : (b : ℕ) (bs : List ℕ) (t y : Bool) → is_blank_byte b ≡ t → begins_type (b ∷ bs) ≡ y
    → is_some (until_len CastWord First bs) ≡ begins_cast bs
    → is_some (until_len CastWord First (b ∷ bs)) ≡ cond t (begins_cast bs) (y && goes_cast bs)
first_by b bs true y e f ih = rw e (some_more (until_len CastWord First bs) ∙ ih)
first_by b bs false true e f ih = rw (e, f) (some_more (until_len CastWord Plain bs) ∙ goes_len bs)
first_by b bs false false e f ih = rw (e, f) refl

cast_len : (bs : List ℕ) → is_some (until_len CastWord First bs) ≡ begins_cast bs
cast_len [] = refl
cast_len (b ∷ bs) = first_by b bs (is_blank_byte b) (begins_type (b ∷ bs)) refl refl (cast_len bs)

none_is : (o : Option ℕ) → is_some o ≡ false → o ≡ None
none_is None h = refl
none_is (Some n) h = absurd cc

op_alone : (o : Option ℕ) → longer Cast (add_to 1 o) (Some (Op, 1)) ≡ found Op 1 → is_some o ≡ false
op_alone None e = refl
op_alone (Some n) e = absurd (by_kind (add_to 1 (Some n)) e)
  where
    by_kind : (x : Option ℕ) → longer Cast (add_to 1 (Some n)) (Some (Op, 1)) ≡ found Op 1 → ⊥
    by_kind x e = let more : nat_lt (1 + n) 1 ≡ false = grind (arith, nat_tests) in let clash : Some Cast ≡ Some Op = ap kind_found (rw more at e) in cc

pub openings_are_uncast : OpeningsAreUncast
openings_are_uncast = record {
  opens = λ v s h. longest_of v code (40 ∷ s) Op 1
      (cast_scan v s ∙ ap (λ (o : Option ℕ). longer Cast (add_to 1 o) (Some (Op, 1)))
      (none_is (until_len CastWord First s) (cast_len s ∙ h)));
  none = λ v r h. sym (cast_len r) ∙ op_alone (until_len CastWord First r) (sym (cast_scan v r) ∙ scan_of v code (40 ∷ r) Op 1 h);
}
