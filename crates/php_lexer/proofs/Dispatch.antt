-- Which rows of code may begin with a byte.
use Rattle.std.proofs.Common.{◌≡◌, ℕ, ◌+◌, Bool, true, false, not, cond, ◌&&◌, ◌||◌, nat_eq, nat_le, List, [], ◌∷◌, None, refl, sym, ap, ◌∙◌, arith}
use Rattle.std.proofs.lemmas.Bool.{eqb-true}
use Rattle.std.proofs.lemmas.Bool.Decides.{nat_tests}
use Rattle.php_tree.specs.declared.version.Version.{Version}
use Rattle.php_tree.specs.declared.version.Version.TheVariants.{V74, V83}
use Rattle.php_spellings.specs.declared.table.Kind.{Kind}
use Rattle.php_spellings.specs.declared.table.Kind.TheVariants.{Space, Word, Name}
use Rattle.php_spellings.specs.declared.table.State.TheVariants.{First}
use Rattle.php_spellings.specs.declared.table.Run.TheVariants.{Spaces}
use Rattle.php_spellings.specs.declared.table.Shape.TheVariants as shape
use Rattle.php_spellings.specs.declared.table.Spot.TheVariants.{Begin}
use Rattle.php_spellings.specs.declared.table.Tail.{Tail}
use Rattle.php_spellings.specs.declared.table.Tail.TheVariants.{SomeOf, Shaped, AnyWord}
use Rattle.php_spellings.specs.Bytes.{is_space, is_digit, is_letter, lower}
use Rattle.php_lexer.specs.Rules.{Row, rule}
use Rattle.php_lexer.specs.RulesCode.{number_rows, common_rows, code_rows}
use Rattle.php_lexer.specs.Letters.{letter_rows}
use Rattle.php_lexer.specs.Scan.{behind, tail_len, longer, scan_by}

-- ---- ASCII case

lower_by : (b : ℕ) (t : Bool) → (nat_le 65 b && nat_le b 90) ≡ t → (k : ℕ) → (nat_le 97 k && nat_le k 122) ≡ false → nat_eq b k ≡ false → nat_eq k (cond t (b + 32) b) ≡ false
lower_by b true e k out other = grind (arith, nat_tests)
lower_by b false e k out other = grind (arith, nat_tests)

-- a byte that is no letter is the lower case of itself alone
pub other_head : (k b : ℕ) → (nat_le 97 k && nat_le k 122) ≡ false → nat_eq b k ≡ false → nat_eq k (lower b) ≡ false
other_head k b out other = lower_by b (nat_le 65 b && nat_le b 90) refl k out other

letter_by : (b : ℕ) (t : Bool) → (nat_le 65 b && nat_le b 90) ≡ t → is_letter b ≡ true → is_letter (cond t (b + 32) b) ≡ true
letter_by b true e h = grind (arith, nat_tests)
letter_by b false e h = h

letter_lower : (b : ℕ) → is_letter b ≡ true → is_letter (lower b) ≡ true
letter_lower b h = letter_by b (nat_le 65 b && nat_le b 90) refl h

digit_lower : (b : ℕ) → is_digit b ≡ true → is_digit (lower b) ≡ true
digit_lower b h = let e : (nat_le 65 b && nat_le b 90) ≡ false = grind (arith, nat_tests) in rw e h

space_lower : (b : ℕ) → is_space b ≡ true → is_space (lower b) ≡ true
space_lower b h = let e : (nat_le 65 b && nat_le b 90) ≡ false = grind (arith, nat_tests) in rw e h

letter_space : (b : ℕ) → is_letter b ≡ true → is_space b ≡ false
letter_space b h = grind (arith, nat_tests)

letter_digit : (b : ℕ) → is_letter b ≡ true → is_digit b ≡ false
letter_digit b h = grind (arith, nat_tests)

letter_point : (b : ℕ) → is_letter b ≡ true → nat_eq b 46 ≡ false
letter_point b h = grind (arith, nat_tests)

digit_space : (b : ℕ) → is_digit b ≡ true → is_space b ≡ false
digit_space b h = grind (arith, nat_tests)

digit_letter : (b : ℕ) → is_digit b ≡ true → is_letter b ≡ false
digit_letter b h = grind (arith, nat_tests)

space_letter : (b : ℕ) → is_space b ≡ true → is_letter b ≡ false
space_letter b h = grind (arith, nat_tests)

space_digit : (b : ℕ) → is_space b ≡ true → is_digit b ≡ false
space_digit b h = grind (arith, nat_tests)

space_point : (b : ℕ) → is_space b ≡ true → nat_eq b 46 ≡ false
space_point b h = grind (arith, nat_tests)

-- ---- the rows whose word may begin with a byte of a class

abbrev pub kept : (ℕ → Bool) → List Row → List Row
kept p [] = []
kept p (rule kind [] tail ∷ rows) = rule kind [] tail ∷ kept p rows
kept p (rule kind (a ∷ w) tail ∷ rows) = cond (p a) (rule kind (a ∷ w) tail ∷ kept p rows) (kept p rows)

kept_by : (p : ℕ → Bool) (b : ℕ) → p (lower b) ≡ true → (a : ℕ) (t : Bool) → nat_eq a (lower b) ≡ t → p a ≡ false → t ≡ false
kept_by p b h a true e other = let same : a ≡ lower b = eqb-true a (lower b) e in let clash : true ≡ false = sym h ∙ sym (ap p same) ∙ other in absurd cc
kept_by p b h a false e other = refl

kept_row : (p : ℕ → Bool) (b : ℕ) → p (lower b) ≡ true → (kind : Kind) (a : ℕ) (w : List ℕ) (tail : Tail)
    (rows : List Row) (bs : List ℕ) → scan_by [] rows (b ∷ bs) ≡ scan_by [] (kept p rows) (b ∷ bs) → (t : Bool)
    → p a ≡ t → scan_by [] (rule kind (a ∷ w) tail ∷ rows) (b ∷ bs) ≡ scan_by []
    (cond t (rule kind (a ∷ w) tail ∷ kept p rows) (kept p rows)) (b ∷ bs)
kept_row p b h kind a w tail rows bs ih true e = rw ih refl
kept_row p b h kind a w tail rows bs ih false e = let other = kept_by p b h a (nat_eq a (lower b)) refl e in rw (other, ih) refl

pub scan_kept : (p : ℕ → Bool) (b : ℕ) → p (lower b) ≡ true → (rows : List Row) (bs : List ℕ) → scan_by [] rows (b ∷ bs) ≡ scan_by [] (kept p rows) (b ∷ bs)
scan_kept p b h [] bs = refl
scan_kept p b h (rule kind [] tail ∷ rows) bs = rw (scan_kept p b h rows bs) refl
scan_kept p b h (rule kind (a ∷ w) tail ∷ rows) bs = kept_row p b h kind a w tail rows bs (scan_kept p b h rows bs) (p a) refl

-- ---- letters, digits and white space

pub letter_scan : (b : ℕ) (bs : List ℕ) → is_letter b ≡ true → scan_by [] common_rows (b ∷ bs) ≡ scan_by [] letter_rows (b ∷ bs)
letter_scan b bs h = scan_kept is_letter b (letter_lower b h) common_rows bs ∙ rw (letter_space b h, letter_digit b h, letter_point b h) refl

pub plain_scan : (b : ℕ) (bs : List ℕ) → is_letter b ≡ true → nat_eq (lower b) 98 ≡ false
    → nat_eq (lower b) 121 ≡ false → scan_by [] common_rows (b ∷ bs) ≡ longer Word
    (behind lower [] (tail_len [] AnyWord) (b ∷ bs)) None
plain_scan b bs h p q =
    let b_not : nat_eq 98 (lower b) ≡ false = other_way_round (lower b) 98 p in
    let y_not : nat_eq 121 (lower b) ≡ false = other_way_round (lower b) 121 q in
    letter_scan b bs h ∙ rw (b_not, y_not) refl
  where
    other_way_round : (a k : ℕ) → nat_eq a k ≡ false → nat_eq k a ≡ false
    other_way_round a k e = grind (arith, nat_tests)

pub digit_scan : (b : ℕ) (bs : List ℕ) → is_digit b ≡ true → scan_by [] common_rows (b ∷ bs) ≡ scan_by [] number_rows (b ∷ bs)
digit_scan b bs h = scan_kept is_digit b (digit_lower b h) common_rows bs ∙ rw (digit_space b h, digit_letter b h) refl

pub space_scan : (b : ℕ) (bs : List ℕ) → is_space b ≡ true → scan_by [] common_rows (b ∷ bs) ≡ longer Space (behind lower [] (tail_len [] (SomeOf Spaces First)) (b ∷ bs)) None
space_scan b bs h = scan_kept is_space b (space_lower b h) common_rows bs ∙ rw (space_letter b h, space_digit b h, space_point b h) refl

-- ---- versions

pub older_scan : (b : ℕ) (bs : List ℕ) → nat_eq b 35 ≡ false → scan_by [] (code_rows V74) (b ∷ bs) ≡ scan_by [] common_rows (b ∷ bs)
older_scan b bs e = let head = other_head 35 b refl e in rw head refl

pub newer_scan : (b : ℕ) (bs : List ℕ) → nat_eq b 35 ≡ false
    → scan_by [] (code_rows V83) (b ∷ bs) ≡ longer Name
    (behind lower [] (tail_len [] (Shaped shape.Name Begin)) (b ∷ bs)) (scan_by [] common_rows (b ∷ bs))
newer_scan b bs e = let head = other_head 35 b refl e in rw head refl

pub nameless_scan : (b : ℕ) (bs : List ℕ) → nat_eq b 35 ≡ false → is_letter b ≡ false → nat_eq b 92 ≡ false → scan_by [] (code_rows V83) (b ∷ bs) ≡ scan_by [] common_rows (b ∷ bs)
nameless_scan b bs e p q = newer_scan b bs e ∙ rw (p, q) refl

pub no_bytes : (v : Version) → scan_by [] (code_rows v) [] ≡ None
no_bytes V74 = refl
no_bytes V83 = refl

-- ---- other bytes

-- the marks that begin rows of both versions
abbrev pub marks : List ℕ
marks =
    33 ∷ 34 ∷ 36 ∷ 37 ∷ 38 ∷ 39 ∷ 40 ∷ 41 ∷ 42 ∷ 43 ∷ 44 ∷ 45 ∷ 46 ∷ 47 ∷ 58 ∷ 59 ∷ 60 ∷ 61 ∷ 62 ∷ 63 ∷ 64 ∷ 91 ∷ 92
    ∷ 93 ∷ 94 ∷ 96 ∷ 123 ∷ 124 ∷ 125 ∷ 126 ∷ []

abbrev pub has : List ℕ → ℕ → Bool
has [] b = false
has (k ∷ ks) b = nat_eq b k || has ks b

abbrev begins_none : ℕ → Bool
begins_none b = not (is_letter b) && (not (is_digit b) && not (has marks b))

pub lower_other : (b : ℕ) → is_letter b ≡ false → lower b ≡ b
lower_other b h = by_case (nat_le 65 b && nat_le b 90) refl
  where
    by_case : (t : Bool) → (nat_le 65 b && nat_le b 90) ≡ t → cond t (b + 32) b ≡ b
    by_case true e = absurd (let clash : true ≡ false = grind (arith, nat_tests) in cc)
    by_case false e = refl

has_point : (b : ℕ) → has marks b ≡ false → nat_eq b 46 ≡ false
has_point b h = grind (arith, nat_tests)

pub other_scan : (b : ℕ) (bs : List ℕ) → has marks b ≡ false → is_letter b ≡ false → is_space b ≡ false → is_digit b ≡ false → scan_by [] common_rows (b ∷ bs) ≡ None
other_scan b bs p q r s =
    let none : begins_none (lower b) ≡ true = rw (lower_other b q) (rw (q, s, p) refl) in
    scan_kept begins_none b none common_rows bs ∙ rw (q, r, s, has_point b p) refl
