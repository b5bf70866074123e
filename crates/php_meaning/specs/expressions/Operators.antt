-- The operators by their spelling, and what each does. (PHP manual, "Arithmetic Operators", "Bitwise Operators", "String
-- Operators", "Comparison Operators".)
use Rattle.std.specs.Prelude.{not, if◌then◌else◌, List, [], ◌∷◌, ℕ, codes, Option, Some, None}
use Rattle.std.specs.Str.{bytes_eq}
use Rattle.php_meaning.specs.values.Value.{Value, Truth}
use Rattle.php_meaning.specs.Cause.{Outcome, Gives, NoRule, Came, Returns, outcome_map}
use Rattle.php_meaning.specs.Differences.{ByVersion, Alike, by_version_map}
use Rattle.php_meaning.specs.values.Arithmetic.{
  left_of_arithmetic,
  plus,
  minus,
  times,
  divided,
  modulo,
  left_shift,
  right_shift,
  bits_and,
  bits_or,
  bits_xor,
  positive,
  negative,
  joined,
}
use Rattle.php_meaning.specs.values.Compare.{equal, unequal, less, greater, at_most, at_least, spaceship, left_of_comparison}
use Rattle.php_meaning.specs.values.Identical.{is_identical}
use Rattle.php_meaning.specs.values.Copies.{copied}
use Rattle.php_meaning.specs.values.Cells.{Cells}
use Rattle.php_meaning.specs.literals.Literals.{found}
use Rattle.php_meaning.specs.runs.Script.{Script, Stop, child_value, given, asking, comes, still}

-- ---- two operands

-- An operation: what its left operand is before the right one starts, and what the two give.
pub record Operation : Type 0 where
  pub left : Value → Outcome Value
  pub answer : Value → Value → ByVersion (Outcome Came)

-- of any values: both operands are evaluated before either is looked at
abbrev pub of_values : (Value → Value → Outcome Value) → Operation
of_values on_values = record { left = λ a. Gives a; answer = λ a b. Alike (outcome_map Returns (on_values a b)) }

-- of numbers: the left operand may end the run before the right one starts
abbrev pub of_ints : (Value → Value → ByVersion (Outcome Came)) → Operation
of_ints answer = record { left = left_of_arithmetic; answer = answer }

-- a comparison
abbrev pub of_order : (Value → Value → ByVersion (Outcome Value)) → Operation
of_order on_values = record {
  left = left_of_comparison;
  answer = λ a b. by_version_map (λ o. outcome_map Returns o) (on_values a b);
}

-- the operators of two operands but `.`
abbrev pub operations : Cells → ℕ → List (List ℕ × Operation)
operations cells serials =
    (codes "+", of_ints (plus (copied cells serials)))
    ∷ (codes "-", of_ints minus)
    ∷ (codes "*", of_ints times)
    ∷ (codes "/", of_ints divided)
    ∷ (codes "%", of_ints modulo)
    ∷ (codes "<<", of_ints left_shift)
    ∷ (codes ">>", of_ints right_shift)
    ∷ (codes "&", of_ints bits_and)
    ∷ (codes "|", of_ints bits_or)
    ∷ (codes "^", of_ints bits_xor)
    ∷ (codes "==", of_order equal)
    ∷ (codes "!=", of_order unequal)
    ∷ (codes "<>", of_order unequal)
    ∷ (codes "<", of_order less)
    ∷ (codes ">", of_order greater)
    ∷ (codes "<=", of_order at_most)
    ∷ (codes ">=", of_order at_least)
    ∷ (codes "<=>", of_order spaceship)
    ∷ (codes "===", of_values (λ a b. outcome_map Truth (is_identical cells a b)))
    ∷ (codes "!==", of_values (λ a b. outcome_map (λ same. Truth (not same)) (is_identical cells a b)))
    ∷ []

-- the left operand, and then the right one, and then the operation; another operator has no rule
abbrev pub binary : Option Operation → Script
binary None = Stop NoRule
binary (Some o) =
    child_value 0 (λ a. given (o.left a) (λ left. child_value 1 (λ b. still 0 a (asking (o.answer left b) (λ r. given r comes)))))

-- the operation of an operator, in a store
abbrev pub operation : Cells → ℕ → List ℕ → Option Operation
operation cells serials op =
    if bytes_eq (codes ".") op then Some (of_values joined) else found (operations cells serials) op

-- ---- one operand

-- the signs
abbrev pub signs : List (List ℕ × (Value → ByVersion (Outcome Came)))
signs = (codes "+", positive) ∷ (codes "-", negative) ∷ []

-- the operand, and then the operation
abbrev pub prefix : Option (Value → ByVersion (Outcome Came)) → Script
prefix None = Stop NoRule
prefix (Some answer) = child_value 0 (λ a. asking (answer a) (λ r. given r comes))
