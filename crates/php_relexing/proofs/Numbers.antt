-- At a break no number goes on.
use Rattle.std.proofs.Common.{◌≡◌, ℕ, Bool, true, false, not, List, [], ◌∷◌, ◌++◌, refl}
use Rattle.php_spellings.specs.declared.table.Shape.{Shape}
use Rattle.php_spellings.specs.declared.table.Shape.TheVariants as shape
use Rattle.php_spellings.specs.declared.table.Spot.{Spot}
use Rattle.php_spellings.specs.declared.table.Spot.TheVariants.{
  Begin,
  Whole,
  WholeGap,
  LeadPoint,
  Point,
  Part,
  PartGap,
  Mark,
  Sign,
  Power,
  PowerGap,
  FirstLabel,
  Backslash,
  LaterLabel,
  OpenedLabel,
  QuotedLabel,
  ClosedLabel,
  Return,
  Line,
  Stuck,
}
use Rattle.php_lexer.specs.Shapes.{step, is_stuck, has_shape}
use Rattle.php_relexing.specs.Alike.{breaks, is_break}
use Rattle.php_relexing.proofs.Bools.{and_false}
use Rattle.php_relexing.proofs.Listed.{every, every_is}

-- the shapes of numbers
abbrev pub is_number : Shape → Bool
is_number shape.Name = false
is_number shape.HeredocLine = false
is_number _ = true

abbrev stuck_by : Shape → Spot → ℕ → Bool
stuck_by sh s c = is_stuck (step sh s c)

decimal : (s : Spot) → every (stuck_by shape.Decimal s) breaks ≡ true
decimal Begin = refl
decimal Whole = refl
decimal WholeGap = refl
decimal LeadPoint = refl
decimal Point = refl
decimal Part = refl
decimal PartGap = refl
decimal Mark = refl
decimal Sign = refl
decimal Power = refl
decimal PowerGap = refl
decimal FirstLabel = refl
decimal Backslash = refl
decimal LaterLabel = refl
decimal OpenedLabel = refl
decimal QuotedLabel = refl
decimal ClosedLabel = refl
decimal Return = refl
decimal Line = refl
decimal Stuck = refl

octal : (s : Spot) → every (stuck_by shape.Octal s) breaks ≡ true
octal Begin = refl
octal Whole = refl
octal WholeGap = refl
octal LeadPoint = refl
octal Point = refl
octal Part = refl
octal PartGap = refl
octal Mark = refl
octal Sign = refl
octal Power = refl
octal PowerGap = refl
octal FirstLabel = refl
octal Backslash = refl
octal LaterLabel = refl
octal OpenedLabel = refl
octal QuotedLabel = refl
octal ClosedLabel = refl
octal Return = refl
octal Line = refl
octal Stuck = refl

hexadecimal : (s : Spot) → every (stuck_by shape.Hexadecimal s) breaks ≡ true
hexadecimal Begin = refl
hexadecimal Whole = refl
hexadecimal WholeGap = refl
hexadecimal LeadPoint = refl
hexadecimal Point = refl
hexadecimal Part = refl
hexadecimal PartGap = refl
hexadecimal Mark = refl
hexadecimal Sign = refl
hexadecimal Power = refl
hexadecimal PowerGap = refl
hexadecimal FirstLabel = refl
hexadecimal Backslash = refl
hexadecimal LaterLabel = refl
hexadecimal OpenedLabel = refl
hexadecimal QuotedLabel = refl
hexadecimal ClosedLabel = refl
hexadecimal Return = refl
hexadecimal Line = refl
hexadecimal Stuck = refl

binary : (s : Spot) → every (stuck_by shape.Binary s) breaks ≡ true
binary Begin = refl
binary Whole = refl
binary WholeGap = refl
binary LeadPoint = refl
binary Point = refl
binary Part = refl
binary PartGap = refl
binary Mark = refl
binary Sign = refl
binary Power = refl
binary PowerGap = refl
binary FirstLabel = refl
binary Backslash = refl
binary LaterLabel = refl
binary OpenedLabel = refl
binary QuotedLabel = refl
binary ClosedLabel = refl
binary Return = refl
binary Line = refl
binary Stuck = refl

digits : (s : Spot) → every (stuck_by shape.Digits s) breaks ≡ true
digits Begin = refl
digits Whole = refl
digits WholeGap = refl
digits LeadPoint = refl
digits Point = refl
digits Part = refl
digits PartGap = refl
digits Mark = refl
digits Sign = refl
digits Power = refl
digits PowerGap = refl
digits FirstLabel = refl
digits Backslash = refl
digits LaterLabel = refl
digits OpenedLabel = refl
digits QuotedLabel = refl
digits ClosedLabel = refl
digits Return = refl
digits Line = refl
digits Stuck = refl

float : (s : Spot) → every (stuck_by shape.Float s) breaks ≡ true
float Begin = refl
float Whole = refl
float WholeGap = refl
float LeadPoint = refl
float Point = refl
float Part = refl
float PartGap = refl
float Mark = refl
float Sign = refl
float Power = refl
float PowerGap = refl
float FirstLabel = refl
float Backslash = refl
float LaterLabel = refl
float OpenedLabel = refl
float QuotedLabel = refl
float ClosedLabel = refl
float Return = refl
float Line = refl
float Stuck = refl

stuck_at : (sh : Shape) (s : Spot) → is_number sh ≡ true → every (stuck_by sh s) breaks ≡ true
stuck_at shape.Decimal s h = decimal s
stuck_at shape.Octal s h = octal s
stuck_at shape.Hexadecimal s h = hexadecimal s
stuck_at shape.Binary s h = binary s
stuck_at shape.Digits s h = digits s
stuck_at shape.Float s h = float s
stuck_at shape.Name s h = absurd cc
stuck_at shape.HeredocLine s h = absurd cc

pub break_stuck : (sh : Shape) (s : Spot) (c : ℕ) → is_number sh ≡ true → is_break c ≡ true → is_stuck (step sh s c) ≡ true
break_stuck sh s c n h = every_is (stuck_by sh s) breaks (stuck_at sh s n) c h

-- no number has a break in it
pub number_cross : (sh : Shape) (s : Spot) (c : ℕ) → is_number sh ≡ true → is_break c ≡ true → (a more : List ℕ) → has_shape sh s (a ++ c ∷ more) ≡ false
number_cross sh s c n h [] more = rw (break_stuck sh s c n h) refl
number_cross sh s c n h (b ∷ a) more = rw (number_cross sh (step sh s b) c n h a more) (and_false (not (is_stuck (step sh s b))))
