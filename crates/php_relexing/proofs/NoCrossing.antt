-- No run and no shape goes over a bracket.
use Rattle.std.proofs.Common.{◌≡◌, ℕ, Bool, true, false, not, ◌&&◌, nat_eq, nat_le, List, [], ◌∷◌, ◌++◌, refl, arith}
use Rattle.std.proofs.lemmas.Bool.Decides.{nat_tests}
use Rattle.php_spellings.specs.declared.table.Shape.{Shape}
use Rattle.php_spellings.specs.declared.table.Shape.TheVariants as shape
use Rattle.php_spellings.specs.declared.table.Spot.{Spot}
use Rattle.php_spellings.specs.declared.table.Spot.TheVariants.{
  Begin,
  Whole,
  WholeGap,
  LeadPoint,
  Point,
  Part,
  PartGap,
  Mark,
  Sign,
  Power,
  PowerGap,
  FirstLabel,
  Backslash,
  LaterLabel,
  OpenedLabel,
  QuotedLabel,
  ClosedLabel,
  Return,
  Line,
  Stuck,
}
use Rattle.php_spellings.specs.Bytes.{is_blank_byte, is_space, is_digit, is_letter, is_label_byte, lower}
use Rattle.php_lexer.specs.Shapes.{is_octal_digit, is_binary_digit, is_hex_digit, is_exponent, is_sign, step, is_stuck, has_shape}
use Rattle.php_relexing.specs.Tiles.{is_bracket}

pub bracket_space : (c : ℕ) → is_bracket c ≡ true → is_space c ≡ false
bracket_space c h = grind (arith, nat_tests)

pub bracket_letter : (c : ℕ) → is_bracket c ≡ true → is_letter c ≡ false
bracket_letter c h = grind (arith, nat_tests)

bracket_digit : (c : ℕ) → is_bracket c ≡ true → is_digit c ≡ false
bracket_digit c h = grind (arith, nat_tests)

pub bracket_label : (c : ℕ) → is_bracket c ≡ true → is_label_byte c ≡ false
bracket_label c h = rw (bracket_letter c h, bracket_digit c h) refl

bracket_same : (c : ℕ) → is_bracket c ≡ true → lower c ≡ c
bracket_same c h = let e : (nat_le 65 c && nat_le c 90) ≡ false = grind (arith, nat_tests) in rw e refl

bracket_octal : (c : ℕ) → is_bracket c ≡ true → is_octal_digit c ≡ false
bracket_octal c h = grind (arith, nat_tests)

bracket_binary : (c : ℕ) → is_bracket c ≡ true → is_binary_digit c ≡ false
bracket_binary c h = grind (arith, nat_tests)

bracket_hex : (c : ℕ) → is_bracket c ≡ true → is_hex_digit c ≡ false
bracket_hex c h = let e : (nat_le 97 c && nat_le c 102) ≡ false = grind (arith, nat_tests) in rw (bracket_digit c h, bracket_same c h, e) refl

bracket_blank : (c : ℕ) → is_bracket c ≡ true → is_blank_byte c ≡ false
bracket_blank c h = grind (arith, nat_tests)

bracket_eq : (c k : ℕ) → is_bracket c ≡ true → is_bracket k ≡ false → nat_eq c k ≡ false
bracket_eq c k h other = grind (arith, nat_tests)

bracket_exponent : (c : ℕ) → is_bracket c ≡ true → is_exponent c ≡ false
bracket_exponent c h = rw (bracket_same c h) (bracket_eq c 101 h refl)

bracket_sign : (c : ℕ) → is_bracket c ≡ true → is_sign c ≡ false
bracket_sign c h = rw (bracket_eq c 43 h refl, bracket_eq c 45 h refl) refl

-- ---- shapes

stuck_decimal : (c : ℕ) (s : Spot) → is_bracket c ≡ true → is_stuck (step shape.Decimal s c) ≡ true
stuck_decimal c Begin h = rw (bracket_digit c h) refl
stuck_decimal c Whole h = rw (bracket_digit c h, bracket_eq c 95 h refl) refl
stuck_decimal c WholeGap h = rw (bracket_digit c h) refl
stuck_decimal c LeadPoint h = refl
stuck_decimal c Point h = refl
stuck_decimal c Part h = refl
stuck_decimal c PartGap h = refl
stuck_decimal c Mark h = refl
stuck_decimal c Sign h = refl
stuck_decimal c Power h = refl
stuck_decimal c PowerGap h = refl
stuck_decimal c FirstLabel h = refl
stuck_decimal c Backslash h = refl
stuck_decimal c LaterLabel h = refl
stuck_decimal c OpenedLabel h = refl
stuck_decimal c QuotedLabel h = refl
stuck_decimal c ClosedLabel h = refl
stuck_decimal c Return h = refl
stuck_decimal c Line h = refl
stuck_decimal c Stuck h = refl

stuck_octal : (c : ℕ) (s : Spot) → is_bracket c ≡ true → is_stuck (step shape.Octal s c) ≡ true
stuck_octal c Begin h = rw (bracket_octal c h) refl
stuck_octal c Whole h = rw (bracket_octal c h, bracket_eq c 95 h refl) refl
stuck_octal c WholeGap h = rw (bracket_octal c h) refl
stuck_octal c LeadPoint h = refl
stuck_octal c Point h = refl
stuck_octal c Part h = refl
stuck_octal c PartGap h = refl
stuck_octal c Mark h = refl
stuck_octal c Sign h = refl
stuck_octal c Power h = refl
stuck_octal c PowerGap h = refl
stuck_octal c FirstLabel h = refl
stuck_octal c Backslash h = refl
stuck_octal c LaterLabel h = refl
stuck_octal c OpenedLabel h = refl
stuck_octal c QuotedLabel h = refl
stuck_octal c ClosedLabel h = refl
stuck_octal c Return h = refl
stuck_octal c Line h = refl
stuck_octal c Stuck h = refl

stuck_hexadecimal : (c : ℕ) (s : Spot) → is_bracket c ≡ true → is_stuck (step shape.Hexadecimal s c) ≡ true
stuck_hexadecimal c Begin h = rw (bracket_hex c h) refl
stuck_hexadecimal c Whole h = rw (bracket_hex c h, bracket_eq c 95 h refl) refl
stuck_hexadecimal c WholeGap h = rw (bracket_hex c h) refl
stuck_hexadecimal c LeadPoint h = refl
stuck_hexadecimal c Point h = refl
stuck_hexadecimal c Part h = refl
stuck_hexadecimal c PartGap h = refl
stuck_hexadecimal c Mark h = refl
stuck_hexadecimal c Sign h = refl
stuck_hexadecimal c Power h = refl
stuck_hexadecimal c PowerGap h = refl
stuck_hexadecimal c FirstLabel h = refl
stuck_hexadecimal c Backslash h = refl
stuck_hexadecimal c LaterLabel h = refl
stuck_hexadecimal c OpenedLabel h = refl
stuck_hexadecimal c QuotedLabel h = refl
stuck_hexadecimal c ClosedLabel h = refl
stuck_hexadecimal c Return h = refl
stuck_hexadecimal c Line h = refl
stuck_hexadecimal c Stuck h = refl

stuck_binary : (c : ℕ) (s : Spot) → is_bracket c ≡ true → is_stuck (step shape.Binary s c) ≡ true
stuck_binary c Begin h = rw (bracket_binary c h) refl
stuck_binary c Whole h = rw (bracket_binary c h, bracket_eq c 95 h refl) refl
stuck_binary c WholeGap h = rw (bracket_binary c h) refl
stuck_binary c LeadPoint h = refl
stuck_binary c Point h = refl
stuck_binary c Part h = refl
stuck_binary c PartGap h = refl
stuck_binary c Mark h = refl
stuck_binary c Sign h = refl
stuck_binary c Power h = refl
stuck_binary c PowerGap h = refl
stuck_binary c FirstLabel h = refl
stuck_binary c Backslash h = refl
stuck_binary c LaterLabel h = refl
stuck_binary c OpenedLabel h = refl
stuck_binary c QuotedLabel h = refl
stuck_binary c ClosedLabel h = refl
stuck_binary c Return h = refl
stuck_binary c Line h = refl
stuck_binary c Stuck h = refl

stuck_digits : (c : ℕ) (s : Spot) → is_bracket c ≡ true → is_stuck (step shape.Digits s c) ≡ true
stuck_digits c Begin h = rw (bracket_digit c h) refl
stuck_digits c Whole h = rw (bracket_digit c h, bracket_eq c 95 h refl) refl
stuck_digits c WholeGap h = rw (bracket_digit c h) refl
stuck_digits c LeadPoint h = refl
stuck_digits c Point h = refl
stuck_digits c Part h = refl
stuck_digits c PartGap h = refl
stuck_digits c Mark h = refl
stuck_digits c Sign h = refl
stuck_digits c Power h = refl
stuck_digits c PowerGap h = refl
stuck_digits c FirstLabel h = refl
stuck_digits c Backslash h = refl
stuck_digits c LaterLabel h = refl
stuck_digits c OpenedLabel h = refl
stuck_digits c QuotedLabel h = refl
stuck_digits c ClosedLabel h = refl
stuck_digits c Return h = refl
stuck_digits c Line h = refl
stuck_digits c Stuck h = refl

stuck_float : (c : ℕ) (s : Spot) → is_bracket c ≡ true → is_stuck (step shape.Float s c) ≡ true
stuck_float c Begin h = rw (bracket_digit c h, bracket_eq c 46 h refl) refl
stuck_float c Whole h = rw (bracket_digit c h, bracket_eq c 95 h refl, bracket_eq c 46 h refl, bracket_exponent c h) refl
stuck_float c WholeGap h = rw (bracket_digit c h) refl
stuck_float c LeadPoint h = rw (bracket_digit c h) refl
stuck_float c Point h = rw (bracket_digit c h, bracket_exponent c h) refl
stuck_float c Part h = rw (bracket_digit c h, bracket_eq c 95 h refl, bracket_exponent c h) refl
stuck_float c PartGap h = rw (bracket_digit c h) refl
stuck_float c Mark h = rw (bracket_digit c h, bracket_sign c h) refl
stuck_float c Sign h = rw (bracket_digit c h) refl
stuck_float c Power h = rw (bracket_digit c h, bracket_eq c 95 h refl) refl
stuck_float c PowerGap h = rw (bracket_digit c h) refl
stuck_float c FirstLabel h = refl
stuck_float c Backslash h = refl
stuck_float c LaterLabel h = refl
stuck_float c OpenedLabel h = refl
stuck_float c QuotedLabel h = refl
stuck_float c ClosedLabel h = refl
stuck_float c Return h = refl
stuck_float c Line h = refl
stuck_float c Stuck h = refl

stuck_name : (c : ℕ) (s : Spot) → is_bracket c ≡ true → is_stuck (step shape.Name s c) ≡ true
stuck_name c Begin h = rw (bracket_letter c h, bracket_eq c 92 h refl) refl
stuck_name c Whole h = refl
stuck_name c WholeGap h = refl
stuck_name c LeadPoint h = refl
stuck_name c Point h = refl
stuck_name c Part h = refl
stuck_name c PartGap h = refl
stuck_name c Mark h = refl
stuck_name c Sign h = refl
stuck_name c Power h = refl
stuck_name c PowerGap h = refl
stuck_name c FirstLabel h = rw (bracket_label c h, bracket_eq c 92 h refl) refl
stuck_name c Backslash h = rw (bracket_letter c h) refl
stuck_name c LaterLabel h = rw (bracket_label c h, bracket_eq c 92 h refl) refl
stuck_name c OpenedLabel h = refl
stuck_name c QuotedLabel h = refl
stuck_name c ClosedLabel h = refl
stuck_name c Return h = refl
stuck_name c Line h = refl
stuck_name c Stuck h = refl

stuck_heredocline : (c : ℕ) (s : Spot) → is_bracket c ≡ true → is_stuck (step shape.HeredocLine s c) ≡ true
stuck_heredocline c Begin h = rw (bracket_blank c h, bracket_letter c h, bracket_eq c 34 h refl) refl
stuck_heredocline c Whole h = refl
stuck_heredocline c WholeGap h = refl
stuck_heredocline c LeadPoint h = refl
stuck_heredocline c Point h = refl
stuck_heredocline c Part h = refl
stuck_heredocline c PartGap h = refl
stuck_heredocline c Mark h = refl
stuck_heredocline c Sign h = refl
stuck_heredocline c Power h = refl
stuck_heredocline c PowerGap h = refl
stuck_heredocline c FirstLabel h = rw (bracket_label c h, bracket_eq c 10 h refl, bracket_eq c 13 h refl) refl
stuck_heredocline c Backslash h = refl
stuck_heredocline c LaterLabel h = refl
stuck_heredocline c OpenedLabel h = rw (bracket_letter c h) refl
stuck_heredocline c QuotedLabel h = rw (bracket_label c h, bracket_eq c 34 h refl) refl
stuck_heredocline c ClosedLabel h = rw (bracket_eq c 10 h refl, bracket_eq c 13 h refl) refl
stuck_heredocline c Return h = rw (bracket_eq c 10 h refl) refl
stuck_heredocline c Line h = refl
stuck_heredocline c Stuck h = refl

bracket_stuck : (sh : Shape) (s : Spot) (c : ℕ) → is_bracket c ≡ true → is_stuck (step sh s c) ≡ true
bracket_stuck shape.Decimal s c h = stuck_decimal c s h
bracket_stuck shape.Octal s c h = stuck_octal c s h
bracket_stuck shape.Hexadecimal s c h = stuck_hexadecimal c s h
bracket_stuck shape.Binary s c h = stuck_binary c s h
bracket_stuck shape.Digits s c h = stuck_digits c s h
bracket_stuck shape.Float s c h = stuck_float c s h
bracket_stuck shape.Name s c h = stuck_name c s h
bracket_stuck shape.HeredocLine s c h = stuck_heredocline c s h

pub and_false : (b : Bool) → (b && false) ≡ false
and_false true = refl
and_false false = refl

-- no text of a shape has a bracket in it
pub shape_cross : (sh : Shape) (s : Spot) (c : ℕ) → is_bracket c ≡ true → (a more : List ℕ) → has_shape sh s (a ++ c ∷ more) ≡ false
shape_cross sh s c h [] more = rw (bracket_stuck sh s c h) refl
shape_cross sh s c h (b ∷ a) more = rw (shape_cross sh (step sh s b) c h a more) (and_false (not (is_stuck (step sh s b))))
