-- How far a name with `\` goes, and which rows of 7.4 may begin where it does.
use Rattle.std.proofs.Common.{
  ◌≡◌,
  ℕ,
  suc,
  ◌+◌,
  ◌≤◌,
  Bool,
  true,
  false,
  cond,
  not,
  ◌&&◌,
  ◌||◌,
  nat_eq,
  nat_le,
  List,
  [],
  ◌∷◌,
  ◌++◌,
  length,
  drop,
  codes,
  Some,
  None,
  refl,
  ◌∙◌,
  arith,
}
use Rattle.std.proofs.lemmas.Bool.{and_parts, not-true}
use Rattle.std.proofs.lemmas.Bool.Decides.{nat_tests}
use Rattle.php_spellings.specs.declared.table.Kind.TheVariants.{Word}
use Rattle.php_spellings.specs.declared.table.State.TheVariants.{First, Plain}
use Rattle.php_spellings.specs.declared.table.Run.TheVariants.{Labels}
use Rattle.php_spellings.specs.declared.table.Until.TheVariants.{From}
use Rattle.php_spellings.specs.declared.table.Shape.TheVariants as shape
use Rattle.php_spellings.specs.declared.table.Spot.{Spot}
use Rattle.php_spellings.specs.declared.table.Spot.TheVariants.{
  Begin,
  Whole,
  WholeGap,
  LeadPoint,
  Point,
  Part,
  PartGap,
  Mark,
  Sign,
  Power,
  PowerGap,
  FirstLabel,
  Backslash,
  LaterLabel,
  OpenedLabel,
  QuotedLabel,
  ClosedLabel,
  Return,
  Line,
  Stuck,
}
use Rattle.php_spellings.specs.Bytes.{is_space, is_letter, is_label_byte, lower, begins, starts_word}
use Rattle.php_lexer.specs.Shapes.{step, may_end, is_stuck, has_shape}
use Rattle.php_lexer.specs.RulesCode.{common_rows}
use Rattle.php_lexer.specs.Scan.{scan_by, run_len, until_len, shape_len, add_to, word_len, longer}
use Rattle.php_lexer.specs.Letters.{letter_rows}
use Rattle.php_lexer.proofs.Dispatch.{letter_scan}
use Rattle.php_relexing.specs.Newer.{ends_name}
use Rattle.php_relexing.proofs.Newer.{backslash_none}

-- ---- how far a name goes

end_by : (c : ℕ) (cs : List ℕ) (x y : Bool) → is_label_byte c ≡ x → nat_eq c 92 ≡ y
    → (not x && not (y && begins is_letter cs)) ≡ true → shape_len shape.Name LaterLabel (c ∷ cs) ≡ Some 0
end_by c cs true y p q h = absurd cc
end_by c cs false true p q h = rw (p, q, backslash_none cs (not-true (begins is_letter cs) h)) refl
end_by c cs false false p q h = rw (p, q) refl

later_end : (s : List ℕ) → ends_name s ≡ true → shape_len shape.Name LaterLabel s ≡ Some 0
later_end [] h = refl
later_end (c ∷ cs) h = end_by c cs (is_label_byte c) (nat_eq c 92) refl refl h

name_end : (spot : Spot) (s : List ℕ) → may_end shape.Name spot ≡ true → ends_name s ≡ true → shape_len shape.Name spot s ≡ Some 0
name_end LaterLabel s h e = later_end s e
name_end Begin s h e = absurd cc
name_end Whole s h e = absurd cc
name_end WholeGap s h e = absurd cc
name_end LeadPoint s h e = absurd cc
name_end Point s h e = absurd cc
name_end Part s h e = absurd cc
name_end PartGap s h e = absurd cc
name_end Mark s h e = absurd cc
name_end Sign s h e = absurd cc
name_end Power s h e = absurd cc
name_end PowerGap s h e = absurd cc
name_end FirstLabel s h e = absurd cc
name_end Backslash s h e = absurd cc
name_end OpenedLabel s h e = absurd cc
name_end QuotedLabel s h e = absurd cc
name_end ClosedLabel s h e = absurd cc
name_end Return s h e = absurd cc
name_end Line s h e = absurd cc
name_end Stuck s h e = absurd cc

pub name_len : (spot : Spot) (t s : List ℕ) → has_shape shape.Name spot t ≡ true → ends_name s ≡ true → shape_len shape.Name spot (t ++ s) ≡ Some (length t)
name_len spot [] s h e = name_end spot s h e
name_len spot (b ∷ t) s h e =
    let (goes, more) = and_parts (not (is_stuck (step shape.Name spot b))) (has_shape shape.Name (step shape.Name spot b) t) h in
    let one : 1 + length t ≡ suc (length t) = omega arith in
    rw (not-true (is_stuck (step shape.Name spot b)) goes, name_len (step shape.Name spot b) t s more e, one) refl

-- ---- the rows that a letter may begin

-- bytes of labels, and then `\`
abbrev goes_on : List ℕ → Bool
goes_on [] = false
goes_on (b ∷ bs) = nat_eq b 92 || is_label_byte b && goes_on bs

shape_by : (b : ℕ) (t s : List ℕ) (x y : Bool) → is_label_byte b ≡ x → nat_eq b 92 ≡ y
    → (has_shape shape.Name FirstLabel t ≡ true → goes_on (t ++ s) ≡ true)
    → (not (is_stuck (cond x FirstLabel (cond y Backslash Stuck)))
    && has_shape shape.Name (cond x FirstLabel (cond y Backslash Stuck)) t) ≡ true → goes_on (b ∷ t ++ s) ≡ true
shape_by b t s x true p q ih h = rw q refl
shape_by b t s true false p q ih h = rw (q, p, ih h) refl
shape_by b t s false false p q ih h = absurd cc

pub name_goes : (t s : List ℕ) → has_shape shape.Name FirstLabel t ≡ true → goes_on (t ++ s) ≡ true
name_goes [] s h = absurd cc
name_goes (b ∷ t) s h = shape_by b t s (is_label_byte b) (nat_eq b 92) refl refl (name_goes t s) h

-- the first label is shorter than the name
short_by : (b : ℕ) (t s : List ℕ) (x : Bool) → is_label_byte b ≡ x
    → (has_shape shape.Name FirstLabel t ≡ true → run_len Labels [] Plain (t ++ s) ≤ length t)
    → (not (is_stuck (cond x FirstLabel (cond (nat_eq b 92) Backslash Stuck)))
    && has_shape shape.Name (cond x FirstLabel (cond (nat_eq b 92) Backslash Stuck)) t) ≡ true
    → run_len Labels [] Plain (b ∷ t ++ s) ≤ suc (length t)
short_by b t s true p ih h = let le = ih h in rw p (omega arith)
short_by b t s false p ih h = rw p (omega arith)

pub label_short : (t s : List ℕ) → has_shape shape.Name FirstLabel t ≡ true → run_len Labels [] Plain (t ++ s) ≤ length t
label_short [] s h = absurd cc
label_short (b ∷ t) s h = short_by b t s (is_label_byte b) refl (label_short t s) h

abbrev pub is_small : ℕ → Bool
is_small a = nat_le 97 a && nat_le a 122

pub small_label : (a b : ℕ) → is_small a ≡ true → nat_eq a (lower b) ≡ true → (is_label_byte b ≡ true) × (nat_eq b 92 ≡ false)
small_label a b h e = (grind (arith, nat_tests), grind (arith, nat_tests))

abbrev pub all_small : List ℕ → Bool
all_small [] = true
all_small (a ∷ w) = is_small a && all_small w

-- behind a word of letters they still go on
pub drop_goes : (w bs : List ℕ) → all_small w ≡ true → starts_word w bs ≡ true → goes_on bs ≡ true → goes_on (drop (length w) bs) ≡ true
drop_goes [] bs h e g = g
drop_goes (a ∷ w) [] h e g = absurd cc
drop_goes (a ∷ w) (b ∷ bs) h e g =
    let (small, more) = and_parts (is_small a) (all_small w) h in
    let (same, rest) = and_parts (nat_eq a (lower b)) (starts_word w bs) e in
    let (label, other) = small_label a b small same in
    let further : (nat_eq b 92 || is_label_byte b && goes_on bs) ≡ true = g in
    drop_goes w bs more rest (rw (other, label) at further)

goes_first : (b : ℕ) (bs : List ℕ) (y x : Bool) → nat_eq b 92 ≡ y → is_label_byte b ≡ x
    → (y || x && goes_on bs) ≡ true → (is_space b ≡ false) ×
    ((nat_eq 39 (lower b) ≡ false) × ((nat_eq 34 (lower b) ≡ false) × (nat_eq 60 (lower b) ≡ false)))
goes_first b bs true x p q h = (grind (arith, nat_tests), (grind (arith, nat_tests), (grind (arith, nat_tests), grind (arith, nat_tests))))
goes_first b bs false true p q h = (grind (arith, nat_tests), (grind (arith, nat_tests), (grind (arith, nat_tests), grind (arith, nat_tests))))
goes_first b bs false false p q h = absurd cc

no_from : (bs : List ℕ) → goes_on bs ≡ true → until_len From First bs ≡ None
no_from [] h = refl
no_from (b ∷ bs) h = rw (goes_first b bs (nat_eq b 92) (is_label_byte b) refl refl h).0 refl

no_yield : (w bs : List ℕ) → all_small w ≡ true → goes_on bs ≡ true → (t : Bool) → starts_word w bs ≡ t
    → cond t (add_to (length w) (until_len From First (drop (length w) bs))) None ≡ None
no_yield w bs h g false e = refl
no_yield w bs h g true e = rw (no_from (drop (length w) bs) (drop_goes w bs h e g)) refl

letter_by : (b c : ℕ) (bs : List ℕ) → nat_eq 39 (lower c) ≡ false → nat_eq 34 (lower c) ≡ false
    → nat_eq 60 (lower c) ≡ false → cond (nat_eq 121 (lower b) && starts_word (codes "ield") (c ∷ bs))
    (add_to 5 (until_len From First (drop 4 (c ∷ bs)))) None ≡ None → (t : Bool) → nat_eq 98 (lower b) ≡ t
    → scan_by [] letter_rows (b ∷ c ∷ bs) ≡ longer Word (add_to 0 (word_len (b ∷ c ∷ bs))) None
letter_by b c bs p q r y true e = rw (y, e, p, q, r) refl
letter_by b c bs p q r y false e = rw (y, e) refl

yield_by : (b : ℕ) (bs : List ℕ) → goes_on bs ≡ true → (t : Bool) → nat_eq 121 (lower b) ≡ t
    → cond (t && starts_word (codes "ield") bs) (add_to 5 (until_len From First (drop 4 bs))) None ≡ None
yield_by b bs g false e = refl
yield_by b bs g true e = by_word (starts_word (codes "ield") bs) refl
  where
    by_word : (t : Bool) → starts_word (codes "ield") bs ≡ t → cond t (add_to 5 (until_len From First (drop 4 bs))) None ≡ None
    by_word false f = refl
    by_word true f = rw (no_from (drop 4 bs) (drop_goes (codes "ield") bs refl f g)) refl

-- a letter before such bytes begins a word of 7.4
pub word_alone : (b : ℕ) (bs : List ℕ) → is_letter b ≡ true → goes_on bs ≡ true → scan_by [] common_rows (b ∷ bs) ≡ longer Word (add_to 0 (word_len (b ∷ bs))) None
word_alone b [] h g = absurd cc
word_alone b (c ∷ bs) h g =
    let first = goes_first c bs (nat_eq c 92) (is_label_byte c) refl refl g in
    letter_scan b (c ∷ bs) h ∙ letter_by b c bs first.1.0 first.1.1.0 first.1.1.1 (yield_by b (c ∷ bs) g (nat_eq 121 (lower b)) refl) (nat_eq 98 (lower b)) refl
