-- Rows of what a run tells: the values at its visits, and the slots of its cells.
use Rattle.std.specs.Prelude.{map}
use Rattle.std.proofs.Common.{◌≡◌, ℕ, List, [], ◌∷◌, refl, pos, codes, Option, Some, None}
use Prim.Native.String.{String}
use Rattle.php_tree.specs.declared.token.TokenKind.{TokenKind}
use Rattle.php_tree.specs.declared.token.TokenKind.TheVariants as token
use Rattle.php_tree.specs.declared.kind.NodeKind.TheVariants as kind
use Rattle.php_tree.specs.declared.version.Version.TheVariants.{V74}
use Rattle.php_tree.specs.Tree.{Forest, none, leaf, node}
use Rattle.scope_names.specs.Slot.{Slot, FileVariable, BodyVariable}
use Rattle.builtin_tables.specs.Beyond.{beyond_functions, beyond_classes, beyond_constants}
use Rattle.builtin_tables.specs.Builtins.{builtin_rows}
use Rattle.builtin_tables.specs.Constants.{named_constants, word_constants}
use Rattle.builtin_tables.specs.Named.{is_same_name}
use Rattle.builtin_tables.specs.Newer.{newer_functions, newer_classes, newer_constants}
use Rattle.php_meaning.specs.values.Value.{Value, Null, Int}
use Rattle.php_meaning.specs.runs.World.{Bytes, Visit}
use Rattle.php_meaning.specs.runs.Stores.{cells_in, held_or_null, variable_cell}
use Rattle.php_meaning.specs.runs.Run.{run}
use Rattle.php_meaning.specs.laws.Examples.{bare, program}
use Rattle.php_meaning.proofs.RunWords.{no_input}

-- a token, and what follows it
abbrev t : TokenKind → String → Forest → Forest
t kind text rest = leaf (bare kind (codes text)) rest

abbrev visits_of : Forest → List Visit
visits_of f = (run V74 (program f) [] (codes "a.php") no_input 30).visits

-- the values that visits tell, with the numbers of their nodes, the newest first
abbrev values_told : List Visit → List (Option ℕ × Value)
values_told [] = []
values_told (v ∷ vs) = elim v.value [ None ↦ values_told vs | Some x ↦ (v.place.node, x) ∷ values_told vs ]

-- the slots of the cells that lie in a variable's array in the end
abbrev slots_in : Bytes → List Visit → List Slot
slots_in name [] = []
slots_in name (v ∷ vs) = map (λ c. c.slot) (cells_in (held_or_null v.store (variable_cell name v.store)))

-- <?php $a = 1; unset($a); echo $a;
abbrev unset_tree : Forest
unset_tree =
    (node kind.ExprStmt (node kind.Assign (node kind.Variable (t token.Variable "$a" none) (t token.Op "=" (node
    kind.Number (t token.Int "1" none) none))) (t token.Semi ";" none)) (node kind.Unset (t token.Keyword
    "unset" (t token.Op "(" (node kind.Variable (t token.Variable "$a" none) (t token.Op ")" (t token.Semi ";"
    none))))) (node kind.Echo (t token.Keyword "echo" (node kind.Variable (t token.Variable "$a" none) (t
    token.Semi ";" none))) none)))

-- a variable that is written or unset tells none, nor does a statement
unset_tells_no_value : values_told (visits_of unset_tree) ≡ (Some 7, Null) ∷ (Some 1, Int (pos 1)) ∷ (Some 3, Int (pos 1)) ∷ []
unfolding builtin_rows named_constants word_constants is_same_name newer_functions newer_classes newer_constants beyond_functions beyond_classes beyond_constants
unset_tells_no_value = refl

-- <?php function f(&$p) {} $a = [1]; $r = &$a[0]; f($a[1]); $b = [1]; foreach ($b as &$v) {}
abbrev taken_tree : Forest
taken_tree =
    (node kind.Function (t token.Keyword "function" (t token.Label "f" (t token.Op "(" (node kind.Param (t
    token.Op "&" (t token.Variable "$p" none)) (t token.Op ")" (node kind.Block (t token.Op "{" (t token.Op "}"
    none)) none)))))) (node kind.ExprStmt (node kind.Assign (node kind.Variable (t token.Variable "$a" none) (t
    token.Op "=" (node kind.Array (t token.Op "[" (node kind.Item (node kind.Number (t token.Int "1" none) none)
    (t token.Op "]" none))) none))) (t token.Semi ";" none)) (node kind.ExprStmt (node kind.AssignRef (node
    kind.Variable (t token.Variable "$r" none) (t token.Op "=" (t token.Op "&" (node kind.Offset (node
    kind.Variable (t token.Variable "$a" none) (t token.Op "[" (node kind.Number (t token.Int "0" none) (t
    token.Op "]" none)))) none)))) (t token.Semi ";" none)) (node kind.ExprStmt (node kind.Call (t token.Label
    "f" (t token.Op "(" (node kind.Args (node kind.Offset (node kind.Variable (t token.Variable "$a" none) (t
    token.Op "[" (node kind.Number (t token.Int "1" none) (t token.Op "]" none)))) none) (t token.Op ")"
    none)))) (t token.Semi ";" none)) (node kind.ExprStmt (node kind.Assign (node kind.Variable (t
    token.Variable "$b" none) (t token.Op "=" (node kind.Array (t token.Op "[" (node kind.Item (node kind.Number
    (t token.Int "1" none) none) (t token.Op "]" none))) none))) (t token.Semi ";" none)) (node kind.Foreach (t
    token.Keyword "foreach" (t token.Op "(" (node kind.Variable (t token.Variable "$b" none) (t token.Keyword
    "as" (t token.Op "&" (node kind.Variable (t token.Variable "$v" none) (t token.Op ")" (node kind.Block (t
    token.Op "{" (t token.Op "}" none)) none)))))))) none))))))

-- a reference to an element makes a cell with the slot of the variable, and of the parameter
slots_of_what_takes : slots_in (codes "a") (visits_of taken_tree) ≡ FileVariable (codes "r") ∷ BodyVariable (record { file = codes "a.php"; number = 0 }) (codes "p") ∷ []
unfolding builtin_rows named_constants word_constants is_same_name newer_functions newer_classes newer_constants beyond_functions beyond_classes beyond_constants
slots_of_what_takes = refl

-- and of the loop's variable
slot_of_the_loop : slots_in (codes "b") (visits_of taken_tree) ≡ FileVariable (codes "v") ∷ []
unfolding builtin_rows named_constants word_constants is_same_name newer_functions newer_classes newer_constants beyond_functions beyond_classes beyond_constants
slot_of_the_loop = refl
