-- Which arguments a builtin takes, by its row of the table of builtins. (PHP manual, the pages of the functions; that
-- other arguments are outside is this project's own.)
use Rattle.std.specs.Prelude.{ℕ, zero, suc, ◌-◌, Bool, true, false, ◌&&◌, ◌||◌, List, [], ◌∷◌}
use Rattle.builtin_tables.specs.declared.kinds.ArgumentKind.{ArgumentKind}
use Rattle.builtin_tables.specs.declared.kinds.ArgumentKind.TheVariants as argument
use Rattle.builtin_tables.specs.declared.kinds.Change.{Change}
use Rattle.builtin_tables.specs.declared.kinds.Change.TheVariants.{Same, PastEnd, Needle, Exchanged, ConstantCase, Removed}
use Rattle.builtin_tables.specs.Builtins.{Row}
use Rattle.php_meaning.specs.values.Value.{Value, Null, Truth, Int, Text, Object, Arr, Entries, none, own, shared}
use Rattle.php_meaning.specs.values.Cells.{Cells}

-- null, a bool, an int or a text
abbrev pub is_scalar : Value → Bool
is_scalar Null = true
is_scalar (Truth b) = true
is_scalar (Int i) = true
is_scalar (Text t) = true
is_scalar (Object n) = false
is_scalar (Arr largest next es) = false

-- whether each element is a scalar
abbrev pub are_scalars : Cells → Entries → Bool
are_scalars cells none = true
are_scalars cells (own k n v rest) = is_scalar v && are_scalars cells rest
are_scalars cells (shared k n c rest) = is_scalar (cells.value_in c) && are_scalars cells rest

abbrev pub is_text : Value → Bool
is_text (Text t) = true
is_text v = false

abbrev pub is_int : Value → Bool
is_int (Int i) = true
is_int v = false

abbrev pub is_truth : Value → Bool
is_truth (Truth b) = true
is_truth v = false

abbrev pub is_array : Value → Bool
is_array (Arr largest next es) = true
is_array v = false

abbrev pub is_scalar_array : Cells → Value → Bool
is_scalar_array cells (Arr largest next es) = are_scalars cells es
is_scalar_array cells v = false

-- whether a value is of a kind
abbrev pub is_of : Cells → ArgumentKind → Value → Bool
is_of cells argument.Text v = is_text v
is_of cells argument.Int v = is_int v
is_of cells argument.TextOrInt v = is_text v || is_int v
is_of cells argument.Bool v = is_truth v
is_of cells argument.Scalar v = is_scalar v
is_of cells argument.Array v = is_array v
is_of cells argument.ScalarArray v = is_scalar_array cells v
is_of cells argument.Any v = true

-- whether the values are of these kinds, and at least so many
abbrev pub are_of : Cells → List ArgumentKind → ℕ → List Value → Bool
are_of cells ks zero [] = true
are_of cells ks (suc n) [] = false
are_of cells [] n (v ∷ vs) = false
are_of cells (k ∷ ks) n (v ∷ vs) = is_of cells k v && are_of cells ks (n - 1) vs

-- the arguments the other way round
abbrev pub exchanged : List ArgumentKind → List ArgumentKind
exchanged (k ∷ l ∷ []) = l ∷ k ∷ []
exchanged ks = ks

-- whether the builtin takes its arguments the other way round too, in 7.4
abbrev pub is_exchanged : Change → Bool
is_exchanged Same = false
is_exchanged PastEnd = false
is_exchanged Needle = false
is_exchanged Exchanged = true
is_exchanged ConstantCase = false
is_exchanged Removed = false

-- whether a builtin takes these values
abbrev pub takes : Cells → Row → List Value → Bool
takes cells r vs =
    are_of cells r.arguments r.required vs
    || (is_exchanged r.change && are_of cells (exchanged r.arguments) r.required vs)
