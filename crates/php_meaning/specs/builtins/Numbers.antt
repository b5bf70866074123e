-- Builtins on ints. (PHP manual, "Math" and "Variable handling" functions: intdiv, intval.)
use Rattle.std.specs.Prelude.{ℤ, if◌then◌else◌, int_div}
use Rattle.php_meaning.specs.values.Value.{Value, Int}
use Rattle.php_meaning.specs.Cause.{ArithmeticError, DivisionByZeroError, Outcome, Gives, Came, Returns, Throws, outcome_map}
use Rattle.php_meaning.specs.values.Ints.{fits}
use Rattle.php_meaning.specs.values.Convert.{to_int}
use Rattle.php_meaning.specs.values.Arithmetic.{is_zero}

-- a quotient towards zero, where it is an int
abbrev pub quotient_within : ℤ → Outcome Came
quotient_within i = if fits i then Gives (Returns (Int i)) else Gives (Throws ArithmeticError)

-- `intdiv`
abbrev pub intdiv : ℤ → ℤ → Outcome Came
intdiv i j = if is_zero j then Gives (Throws DivisionByZeroError) else quotient_within (int_div i j)

-- `intval`, as a cast to int
abbrev pub intval : Value → Outcome Came
intval v = outcome_map (λ i. Returns (Int i)) (to_int v)
