-- Names with `\` are one token of 8.3.
use Rattle.std.proofs.Common.{
  ◌≡◌,
  ℕ,
  suc,
  ◌+◌,
  ◌≤◌,
  Bool,
  true,
  false,
  cond,
  not,
  ◌&&◌,
  nat_eq,
  nat_lt,
  List,
  [],
  ◌∷◌,
  ◌++◌,
  length,
  take,
  drop,
  Some,
  None,
  refl,
  sym,
  ◌∙◌,
  subst,
  arith,
}
use Rattle.std.proofs.lemmas.Bool.{eqb-true}
use Rattle.std.proofs.lemmas.Bool.Decides.{nat_tests}
use Rattle.php_tree.specs.declared.version.Version.TheVariants.{V83}
use Rattle.php_spellings.specs.declared.table.Kind.TheVariants.{Name, Word, Op}
use Rattle.php_spellings.specs.declared.table.State.TheVariants.{Plain}
use Rattle.php_spellings.specs.declared.table.Run.TheVariants.{Labels}
use Rattle.php_spellings.specs.declared.table.Shape.TheVariants as shape
use Rattle.php_spellings.specs.declared.table.Spot.TheVariants.{Begin, FirstLabel, Backslash, Stuck}
use Rattle.php_spellings.specs.Bytes.{is_letter}
use Rattle.php_lexer.specs.Shapes.{is_stuck, has_shape}
use Rattle.php_lexer.specs.Rules.{is_b, begins_text}
use Rattle.php_lexer.specs.Modes.{code}
use Rattle.php_lexer.specs.Scan.{scan, run_len, shape_len, add_to, some_len, word_len, longer}
use Rattle.php_lexer.proofs.Dispatch.{newer_scan}
use Rattle.php_relexing.specs.Newer.{NamesAreTokens}
use Rattle.php_relexing.proofs.NameRows.{name_len, name_goes, label_short, word_alone}
use Rattle.php_relexing.proofs.Scanned.{longest_of}

-- ---- the longer of a name and its first label

over_by : (n l : ℕ) → l ≤ n → (x y : Bool) → nat_eq l 0 ≡ y → longer Name (add_to 0 (Some n)) (longer Word (add_to 0 (cond x None (some_len l))) None) ≡ Some (Name, n)
over_by n l le true y e = let none : 0 + n ≡ n = omega arith in rw none refl
over_by n l le false true e = let none : 0 + n ≡ n = omega arith in rw (e, none) refl
over_by n l le false false e =
    let none : 0 + n ≡ n = omega arith in
    let same : 0 + l ≡ l = omega arith in
    let less : nat_lt n l ≡ false = grind (arith, nat_tests) in
    rw (e, none, same, less) refl

letter_hash : (b : ℕ) → is_letter b ≡ true → nat_eq b 35 ≡ false
letter_hash b h = grind (arith, nat_tests)

-- ---- a name that a label begins

letter_word : (b : ℕ) (t s : List ℕ) → is_letter b ≡ true → has_shape shape.Name FirstLabel t ≡ true
    → longer Name (add_to 0 (Some (suc (length t)))) (longer Word (add_to 0 (word_len (b ∷ t ++ s))) None) ≡ Some
    (Name, suc (length t))
letter_word b t s h shaped =
    let le = label_short t s shaped in
    let n = 1 + run_len Labels [] Plain (t ++ s) in
    rw h (over_by (suc (length t)) n (omega arith) (is_b (take n (b ∷ t ++ s)) && begins_text (drop n (b ∷ t ++ s))) (nat_eq n 0) refl)

letter_name : (b : ℕ) (t s : List ℕ) → is_letter b ≡ true → has_shape shape.Name FirstLabel t ≡ true
    → shape_len shape.Name Begin (b ∷ t ++ s) ≡ Some (suc (length t))
    → scan V83 code (b ∷ t ++ s) ≡ Some (Name, suc (length t))
letter_name b t s h shaped len =
    newer_scan b (t ++ s) (letter_hash b h)
    ∙ rw (len, word_alone b (t ++ s) h (name_goes t s shaped)) (letter_word b t s h shaped)

-- ---- a name with `\` in front

mark_over : (n : ℕ) → longer Name (add_to 0 (Some (suc n))) (Some (Op, 1)) ≡ Some (Name, suc n)
mark_over n =
    let same : 0 + suc n ≡ suc n = omega arith in
    let less : nat_lt (suc n) 1 ≡ false = grind (arith, nat_tests) in
    rw (same, less) refl

mark_name : (t s : List ℕ) → shape_len shape.Name Begin (92 ∷ t ++ s) ≡ Some (suc (length t)) → scan V83 code (92 ∷ t ++ s) ≡ Some (Name, suc (length t))
mark_name t s len = newer_scan 92 (t ++ s) refl ∙ rw len (mark_over (length t))

-- ---- any name

by_first : (b : ℕ) (t s : List ℕ) (x y : Bool) → is_letter b ≡ x → nat_eq b 92 ≡ y
    → shape_len shape.Name Begin (b ∷ t ++ s) ≡ Some (suc (length t))
    → (not (is_stuck (cond x FirstLabel (cond y Backslash Stuck)))
    && has_shape shape.Name (cond x FirstLabel (cond y Backslash Stuck)) t) ≡ true
    → scan V83 code (b ∷ t ++ s) ≡ Some (Name, suc (length t))
by_first b t s true y p q len h = letter_name b t s p h len
by_first b t s false true p q len h =
    let same : b ≡ 92 = eqb-true b 92 q in
    subst (λ (x : ℕ). scan V83 code (x ∷ t ++ s) ≡ Some (Name, suc (length t))) (sym same)
    (mark_name t s (subst (λ (x : ℕ). shape_len shape.Name Begin (x ∷ t ++ s) ≡ Some (suc (length t))) same len))
by_first b t s false false p q len h = absurd cc

pub names_are_tokens : NamesAreTokens
names_are_tokens [] s h e = absurd cc
names_are_tokens (b ∷ t) s h e = longest_of V83 code (b ∷ t ++ s) Name (suc (length t)) (by_first b t s (is_letter b) (nat_eq b 92) refl refl (name_len Begin (b ∷ t) s h e) h)
