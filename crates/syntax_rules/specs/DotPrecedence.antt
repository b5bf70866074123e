-- The precedence of `.`. In 7.4 it is that of `+` and `-`, in 8.3 it is looser than `<<` and `>>`. (RFC "Change the
-- precedence of the concatenation operator", UPGRADING 8.0.)
use Rattle.std.specs.Prelude.{ℕ, Bool, true, false, ◌&&◌, ◌||◌, if◌then◌else◌, List, [], ◌∷◌, Option, Some, None, codes}
use Rattle.std.specs.Str.{bytes_eq}
use Rattle.php_tree.specs.declared.kind.NodeKind.{NodeKind}
use Rattle.php_tree.specs.declared.kind.NodeKind.TheVariants.{Binary}
use Rattle.php_tree.specs.Tree.{Tree}
use Rattle.tracked_changes.specs.patches.Patches.{Wrapping, InParens}
use Rattle.syntax_rules.specs.Around.{Around, operator_of}

abbrev pub is_binary : NodeKind → Bool
is_binary Binary = true
is_binary _ = false

-- whether a node joins texts by `.`
abbrev pub is_dot : Tree → Bool
is_dot t = is_binary t.0 && bytes_eq (operator_of t.1) (codes ".")

-- `+` or `-`
abbrev pub is_sum : List ℕ → Bool
is_sum operator = bytes_eq operator (codes "+") || bytes_eq operator (codes "-")

-- `<<` or `>>`
abbrev pub is_shift : List ℕ → Bool
is_shift operator = bytes_eq operator (codes "<<") || bytes_eq operator (codes ">>")

-- whether 8.3 would take an operand `.` apart here: left of `+` or `-`, and on either side of `<<` or `>>`
abbrev pub takes_apart : Around → Bool
takes_apart a = is_binary a.kind && (is_shift a.operator || is_sum a.operator && a.is_first)

-- The place: a `.` node there. None is kept, and none is undecided.
abbrev pub is_regrouped : Option Around → Tree → Bool
is_regrouped None t = false
is_regrouped (Some a) t = is_dot t && takes_apart a

-- The edit: it is put in parentheses.
abbrev pub around_dot : Option Around → Tree → List Wrapping
around_dot a t = if is_regrouped a t then InParens ∷ [] else []
