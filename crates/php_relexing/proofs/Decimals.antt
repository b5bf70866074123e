-- Decimal integers in code, before a byte that goes on with no number.
use Rattle.std.proofs.Common.{◌≡◌, ℕ, suc, ◌+◌, Bool, true, false, cond, not, ◌&&◌, nat_eq, List, [], ◌∷◌, ◌++◌, length, Option, Some, None, refl, ◌∙◌, arith}
use Rattle.std.proofs.lemmas.Bool.Decides.{nat_tests}
use Rattle.php_tree.specs.declared.version.Version.{Version}
use Rattle.php_tree.specs.declared.version.Version.TheVariants.{V74, V83}
use Rattle.php_spellings.specs.declared.table.Kind.TheVariants.{Decimal, Octal}
use Rattle.php_spellings.specs.declared.table.Shape.TheVariants as shape
use Rattle.php_spellings.specs.declared.table.Spot.{Spot}
use Rattle.php_spellings.specs.declared.table.Spot.TheVariants.{Whole, WholeGap, Point, Mark, Stuck}
use Rattle.php_spellings.specs.Bytes.{is_digit, is_letter, begins}
use Rattle.php_lexer.specs.Shapes.{has_shape, is_stuck, is_exponent}
use Rattle.php_lexer.specs.RulesCode.{number_rows}
use Rattle.php_lexer.specs.Modes.{code, IsLongest}
use Rattle.php_lexer.specs.Scan.{scan, scan_by, shape_len, add_to, or_else}
use Rattle.php_lexer.proofs.Longest.{scanned_longest}
use Rattle.php_lexer.proofs.Dispatch.{other_head, digit_scan, older_scan, nameless_scan}
use Rattle.php_relexing.proofs.Listed.{each}
use Rattle.php_relexing.proofs.Stops.{stops, is_stop, decimal_stops, float_stops}

-- behind a digit, or behind a `_`
abbrev pub behind_digit : Bool → Spot
behind_digit true = Whole
behind_digit false = WholeGap

-- digits, with a `_` only between two of them
abbrev pub are_digits : Bool → List ℕ → Bool
are_digits t a = has_shape shape.Digits (behind_digit t) a

-- where a byte leads behind a digit: it is a digit, or `_`, or another one
abbrev next : Bool → Bool → Spot → Spot
next d u other = cond d Whole (cond u WholeGap other)

-- ---- how far the digits go

module _ (s : List ℕ) (stop : begins is_stop s ≡ true) where
  decimal_by : (d u : Bool) (a : List ℕ) (here : Option ℕ) →
      (not (is_stuck (next d u Stuck)) && has_shape shape.Digits (next d u Stuck) a) ≡ true
      → ((t : Bool) → are_digits t a ≡ true → shape_len shape.Decimal (behind_digit t) (a ++ s) ≡ Some (length a))
      → cond (is_stuck (next d u Stuck)) here
      (or_else (add_to 1 (shape_len shape.Decimal (next d u Stuck) (a ++ s))) here) ≡ Some (suc (length a))
  decimal_by true u a here h ih = let one : 1 + length a ≡ suc (length a) = omega arith in rw (ih true h, one) refl
  decimal_by false true a here h ih = let one : 1 + length a ≡ suc (length a) = omega arith in rw (ih false h, one) refl
  decimal_by false false a here h ih = absurd cc

  -- a decimal number goes as far as the digits
  decimal_len : (t : Bool) (a : List ℕ) → are_digits t a ≡ true → shape_len shape.Decimal (behind_digit t) (a ++ s) ≡ Some (length a)
  decimal_len true [] h = decimal_stops s stop
  decimal_len false [] h = absurd cc
  decimal_len true (b ∷ a) h = decimal_by (is_digit b) (nat_eq b 95) a (Some 0) h (λ t. decimal_len t a)
  decimal_len false (b ∷ a) h = decimal_by (is_digit b) false a None h (λ t. decimal_len t a)

  float_by : (d u : Bool) (other : Spot) (a : List ℕ)
      → (not (is_stuck (next d u Stuck)) && has_shape shape.Digits (next d u Stuck) a) ≡ true
      → ((t : Bool) → are_digits t a ≡ true → shape_len shape.Float (behind_digit t) (a ++ s) ≡ None)
      → cond (is_stuck (next d u other)) None
      (or_else (add_to 1 (shape_len shape.Float (next d u other) (a ++ s))) None) ≡ None
  float_by true u other a h ih = rw (ih true h) refl
  float_by false true other a h ih = rw (ih false h) refl
  float_by false false other a h ih = absurd cc

  -- no number with a point or an exponent begins so
  float_len : (t : Bool) (a : List ℕ) → are_digits t a ≡ true → shape_len shape.Float (behind_digit t) (a ++ s) ≡ None
  float_len true [] h = float_stops s stop
  float_len false [] h = absurd cc
  float_len true (b ∷ a) h = float_by (is_digit b) (nat_eq b 95) (cond (nat_eq b 46) Point (cond (is_exponent b) Mark Stuck)) a h (λ t. float_len t a)
  float_len false (b ∷ a) h = float_by (is_digit b) false Stuck a h (λ t. float_len t a)

-- ---- the longest token

no_hash : (b : ℕ) → is_digit b ≡ true → nat_eq b 35 ≡ false
no_hash b h = grind (arith, nat_tests)

no_backslash : (b : ℕ) → is_digit b ≡ true → nat_eq b 92 ≡ false
no_backslash b h = grind (arith, nat_tests)

no_letter : (b : ℕ) → is_digit b ≡ true → is_letter b ≡ false
no_letter b h = grind (arith, nat_tests)

to_numbers : (v : Version) (b : ℕ) (bs : List ℕ) → is_digit b ≡ true → scan v code (b ∷ bs) ≡ scan_by [] number_rows (b ∷ bs)
to_numbers V74 b bs h = older_scan b bs (no_hash b h) ∙ digit_scan b bs h
to_numbers V83 b bs h = nameless_scan b bs (no_hash b h) (no_letter b h) (no_backslash b h) ∙ digit_scan b bs h

decimal_scan : (b : ℕ) (bs : List ℕ) (n : ℕ) → is_digit b ≡ true → nat_eq b 48 ≡ false
    → shape_len shape.Decimal Whole bs ≡ Some n → shape_len shape.Float Whole bs ≡ None
    → scan_by [] number_rows (b ∷ bs) ≡ Some (Decimal, suc n)
decimal_scan b bs n h p d f =
    let head = other_head 48 b refl p in
    let one : 1 + n ≡ suc n = omega arith in
    let z : 0 + suc n ≡ suc n = omega arith in
    rw (h, p, head, d, f, one, z) refl

-- A decimal number, which does not begin with 0.
pub decimal_is : (v : Version) (b : ℕ) (a s : List ℕ) → is_digit b ≡ true → nat_eq b 48 ≡ false
    → are_digits true a ≡ true → begins is_stop s ≡ true → IsLongest v code (b ∷ a ++ s) Decimal (suc (length a))
decimal_is v b a s h p all stop =
    scanned_longest v code (b ∷ a ++ s) (Some (Decimal, suc (length a)))
    (to_numbers v b (a ++ s) h ∙ decimal_scan b (a ++ s) (length a) h p (decimal_len s stop true a all)
    (float_len s stop true a all))

zero_scan : (c : ℕ) (s : List ℕ) → is_stop c ≡ true → scan_by [] number_rows (48 ∷ c ∷ s) ≡ Some (Octal, 1)
zero_scan c s h = each (λ x. scan_by [] number_rows (48 ∷ x ∷ s) ≡ Some (Octal, 1)) stops
    (refl, (refl, (refl, (refl, (refl, (refl, (refl, (refl, (refl, (refl, (refl, tt))))))))))) c h

-- A zero alone is an octal number.
pub zero_is : (v : Version) (s : List ℕ) → begins is_stop s ≡ true → IsLongest v code (48 ∷ s) Octal 1
zero_is v [] stop = absurd cc
zero_is v (c ∷ s) stop = scanned_longest v code (48 ∷ c ∷ s) (Some (Octal, 1)) (to_numbers v 48 (c ∷ s) refl ∙ zero_scan c s stop)
