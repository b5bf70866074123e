-- Shapes of numbers, of names with `\`, and of the first line of a heredoc, by states.
use Rattle.std.specs.Prelude.{ℕ, Bool, true, false, not, ◌&&◌, ◌||◌, cond, nat_eq, nat_le, List, [], ◌∷◌}
use Rattle.php_spellings.specs.declared.table.Shape.{Shape}
use Rattle.php_spellings.specs.declared.table.Shape.TheVariants as shape
use Rattle.php_spellings.specs.declared.table.Spot.{Spot}
use Rattle.php_spellings.specs.declared.table.Spot.TheVariants.{
  Begin,
  Whole,
  WholeGap,
  LeadPoint,
  Point,
  Part,
  PartGap,
  Mark,
  Sign,
  Power,
  PowerGap,
  FirstLabel,
  Backslash,
  LaterLabel,
  OpenedLabel,
  QuotedLabel,
  ClosedLabel,
  Return,
  Line,
  Stuck,
}
use Rattle.php_spellings.specs.Bytes.{is_blank_byte, is_digit, is_letter, is_label_byte, lower}

abbrev pub is_octal_digit : ℕ → Bool
is_octal_digit b = nat_le 48 b && nat_le b 55

abbrev pub is_binary_digit : ℕ → Bool
is_binary_digit b = nat_le 48 b && nat_le b 49

abbrev pub is_hex_digit : ℕ → Bool
is_hex_digit b = is_digit b || nat_le 97 (lower b) && nat_le (lower b) 102

-- ---- whole numbers: digits, and one `_` between two of them (PHP manual, "Integers"; RFC "Numeric Literal Separator")

-- where a byte leads, by whether it is a digit of the base
abbrev pub digits_step : Bool → Spot → ℕ → Spot
digits_step digit Begin b = cond digit Whole Stuck
digits_step digit Whole b = cond digit Whole (cond (nat_eq b 95) WholeGap Stuck)
digits_step digit WholeGap b = cond digit Whole Stuck
digits_step digit _ b = Stuck

-- a decimal number has no leading 0
abbrev pub decimal_step : Spot → ℕ → Spot
decimal_step Begin b = cond (is_digit b && not (nat_eq b 48)) Whole Stuck
decimal_step Whole b = digits_step (is_digit b) Whole b
decimal_step WholeGap b = digits_step (is_digit b) WholeGap b
decimal_step _ b = Stuck

-- ---- numbers with a point or an exponent (PHP manual, "Floating point numbers")

-- the exponent's letter
abbrev pub is_exponent : ℕ → Bool
is_exponent b = nat_eq (lower b) 101

abbrev pub is_sign : ℕ → Bool
is_sign b = nat_eq b 43 || nat_eq b 45

-- digits, a point or both, digits, and maybe an exponent: `Point` is a point behind digits, `LeadPoint` one in front
abbrev pub float_step : Spot → ℕ → Spot
float_step Begin b = cond (is_digit b) Whole (cond (nat_eq b 46) LeadPoint Stuck)
float_step Whole b =
    cond (is_digit b) Whole (cond (nat_eq b 95) WholeGap (cond (nat_eq b 46) Point (cond (is_exponent b) Mark Stuck)))
float_step WholeGap b = cond (is_digit b) Whole Stuck
float_step LeadPoint b = cond (is_digit b) Part Stuck
float_step Point b = cond (is_digit b) Part (cond (is_exponent b) Mark Stuck)
float_step Part b = cond (is_digit b) Part (cond (nat_eq b 95) PartGap (cond (is_exponent b) Mark Stuck))
float_step PartGap b = cond (is_digit b) Part Stuck
float_step Mark b = cond (is_digit b) Power (cond (is_sign b) Sign Stuck)
float_step Sign b = cond (is_digit b) Power Stuck
float_step Power b = cond (is_digit b) Power (cond (nat_eq b 95) PowerGap Stuck)
float_step PowerGap b = cond (is_digit b) Power Stuck
float_step _ b = Stuck

-- ---- names with `\`: labels with `\` between them, maybe with one in front (PHP manual, "Namespaces: Using namespaces: Basics";
-- RFC "Treat namespaced names as single token")

abbrev pub name_step : Spot → ℕ → Spot
name_step Begin b = cond (is_letter b) FirstLabel (cond (nat_eq b 92) Backslash Stuck)
name_step FirstLabel b = cond (is_label_byte b) FirstLabel (cond (nat_eq b 92) Backslash Stuck)
name_step Backslash b = cond (is_letter b) LaterLabel Stuck
name_step LaterLabel b = cond (is_label_byte b) LaterLabel (cond (nat_eq b 92) Backslash Stuck)
name_step _ b = Stuck

-- ---- the first line of a heredoc, behind `<<<`: blanks, its label, bare or in double quotes, and the line end

abbrev pub line_end_step : ℕ → Spot
line_end_step b = cond (nat_eq b 10) Line (cond (nat_eq b 13) Return Stuck)

abbrev pub heredoc_step : Spot → ℕ → Spot
heredoc_step Begin b =
    cond (is_blank_byte b) Begin (cond (is_letter b) FirstLabel (cond (nat_eq b 34) OpenedLabel Stuck))
heredoc_step FirstLabel b = cond (is_label_byte b) FirstLabel (line_end_step b)
heredoc_step OpenedLabel b = cond (is_letter b) QuotedLabel Stuck
heredoc_step QuotedLabel b = cond (is_label_byte b) QuotedLabel (cond (nat_eq b 34) ClosedLabel Stuck)
heredoc_step ClosedLabel b = line_end_step b
heredoc_step Return b = cond (nat_eq b 10) Line Stuck
heredoc_step _ b = Stuck

-- ---- the shapes

-- where a byte leads
abbrev pub step : Shape → Spot → ℕ → Spot
step shape.Decimal s b = decimal_step s b
step shape.Octal s b = digits_step (is_octal_digit b) s b
step shape.Hexadecimal s b = digits_step (is_hex_digit b) s b
step shape.Binary s b = digits_step (is_binary_digit b) s b
step shape.Digits s b = digits_step (is_digit b) s b
step shape.Float s b = float_step s b
step shape.Name s b = name_step s b
step shape.HeredocLine s b = heredoc_step s b

-- whether the text may end here
abbrev pub may_end : Shape → Spot → Bool
may_end shape.Float Point = true
may_end shape.Float Part = true
may_end shape.Float Power = true
may_end shape.Float _ = false
may_end shape.Name LaterLabel = true
may_end shape.Name _ = false
may_end shape.HeredocLine Return = true
may_end shape.HeredocLine Line = true
may_end shape.HeredocLine _ = false
may_end _ Whole = true
may_end _ _ = false

abbrev pub is_stuck : Spot → Bool
is_stuck Stuck = true
is_stuck _ = false

-- whether the text has the shape from here on
abbrev pub has_shape : Shape → Spot → List ℕ → Bool
has_shape sh s [] = may_end sh s
has_shape sh s (b ∷ bs) = not (is_stuck (step sh s b)) && has_shape sh (step sh s b) bs
