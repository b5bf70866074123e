-- Tokens that are one of some words of marks.
use Rattle.std.proofs.Common.{◌≡◌, ℕ, ◌+◌, Bool, true, false, cond, not, ◌&&◌, ◌||◌, nat_eq, nat_le, List, [], ◌∷◌, ◌⊎◌, inl, inr, refl, sym, ap, ◌∙◌, arith}
use Rattle.std.proofs.lemmas.Bool.{and_parts, eqb-true}
use Rattle.std.proofs.lemmas.Bool.Decides.{nat_tests}
use Rattle.php_spellings.specs.declared.table.Kind.{Kind}
use Rattle.php_spellings.specs.declared.table.Kind.TheVariants.{Op, Close}
use Rattle.php_spellings.specs.declared.table.Tail.{Tail}
use Rattle.php_spellings.specs.declared.table.Tail.TheVariants.{When, AnyRun, SomeOf, UpTo, Shaped, AnyWord, BracedName, EndLine, NowdocRest}
use Rattle.php_spellings.specs.Bytes.{is_empty, lower}
use Rattle.php_lexer.specs.Heredocs.{led, no_more}
use Rattle.php_lexer.specs.Rules.{Row, rule, follows, is_tail}
use Rattle.php_relexing.proofs.Picked.{meets}

-- ---- texts without letters

abbrev pub is_mark : ℕ → Bool
is_mark x = not (nat_le 97 x && nat_le x 122)

abbrev all_marks : List ℕ → Bool
all_marks [] = true
all_marks (x ∷ w) = is_mark x && all_marks w

pub mark_same : (x b : ℕ) → is_mark x ≡ true → nat_eq x (lower b) ≡ true → b ≡ x
mark_same x b h e = by_case (nat_le 65 b && nat_le b 90) refl (eqb-true x (lower b) e)
  where
    by_case : (t : Bool) → (nat_le 65 b && nat_le b 90) ≡ t → x ≡ cond t (b + 32) b → b ≡ x
    by_case true p q = grind (arith, nat_tests)
    by_case false p q = sym q

empty_is : (a : List ℕ) → is_empty a ≡ true → a ≡ []
empty_is [] h = refl
empty_is (b ∷ a) h = absurd cc

-- the text is the word
spelled : (w : List ℕ) (p : List ℕ → Bool) (a r : List ℕ) → all_marks w ≡ true → led lower w (no_more p) a r ≡ true → a ≡ w
spelled [] p a r h e = empty_is a (and_parts (is_empty a) (p r) e).0
spelled (x ∷ w) p [] r h e = absurd cc
spelled (x ∷ w) p (b ∷ a) r h e =
    let (mark, marks) = and_parts (is_mark x) (all_marks w) h in
    let (first, more) = and_parts (nat_eq x (lower b)) (led lower w (no_more p) a r) e in
    ap (λ (y : ℕ). y ∷ a) (mark_same x b mark first) ∙ ap (λ (u : List ℕ). x ∷ u) (spelled w p a r marks more)

-- ---- one of the rows

pub or_case : (x y : Bool) → (x || y) ≡ true → (x ≡ true) ⊎ (y ≡ true)
or_case true y h = inl refl
or_case false y h = inr h

abbrev is_when : Tail → Bool
is_when (When f) = true
is_when _ = false

-- rows of words without letters that nothing follows
abbrev pub all_words : List Row → Bool
all_words [] = true
all_words (rule kind w tail ∷ rows) = (all_marks w && is_when tail) && all_words rows

abbrev pub OneOf : List Row → List ℕ → Type 0
OneOf [] a = ⊥
OneOf (rule kind w tail ∷ rows) a = (a ≡ w) ⊎ OneOf rows a

when_spelled : (w : List ℕ) (tail : Tail) (a r : List ℕ) → all_marks w ≡ true → is_when tail ≡ true → led lower w (is_tail [] tail) a r ≡ true → a ≡ w
when_spelled w (When f) a r h k e = spelled w (follows f) a r h e
when_spelled w (AnyRun x) a r h k e = absurd cc
when_spelled w (SomeOf x st) a r h k e = absurd cc
when_spelled w (UpTo u) a r h k e = absurd cc
when_spelled w (Shaped sh st) a r h k e = absurd cc
when_spelled w AnyWord a r h k e = absurd cc
when_spelled w BracedName a r h k e = absurd cc
when_spelled w EndLine a r h k e = absurd cc
when_spelled w NowdocRest a r h k e = absurd cc

pub one_of : (rows : List Row) (a r : List ℕ) → all_words rows ≡ true → meets [] rows a r ≡ true → OneOf rows a
one_of [] a r h e = absurd cc
one_of (rule kind w tail ∷ rows) a r h e =
    let (first, more) = and_parts (all_marks w && is_when tail) (all_words rows) h in
    let (marks, plain) = and_parts (all_marks w) (is_when tail) first in
    elim (or_case (led lower w (is_tail [] tail) a r) (meets [] rows a r) e) [
      | inl here ↦ inl (when_spelled w tail a r marks plain here)
      | inr below ↦ inr (one_of rows a r more below)
    ]

abbrev pub is_op : Kind → Bool
is_op Op = true
is_op _ = false

abbrev pub is_close : Kind → Bool
is_close Close = true
is_close _ = false
