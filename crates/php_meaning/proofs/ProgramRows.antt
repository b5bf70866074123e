-- Rows of small programs: what a run comes to in 7.4, and in 8.3. The other programs stand in `meaning_rows`; these are for
-- the definitions that a slip would turn without a law that sees it.
use Rattle.std.proofs.Common.{[], refl, pos, codes}
use Prim.Native.String.{String}
use Rattle.php_tree.specs.declared.token.TokenKind.{TokenKind}
use Rattle.php_tree.specs.declared.token.TokenKind.TheVariants as token
use Rattle.php_tree.specs.declared.kind.NodeKind.TheVariants as kind
use Rattle.php_tree.specs.Tree.{Forest, none, leaf, node}
use Rattle.builtin_tables.specs.Beyond.{beyond_functions, beyond_classes, beyond_constants}
use Rattle.builtin_tables.specs.Builtins.{builtin_rows}
use Rattle.builtin_tables.specs.Constants.{named_constants, word_constants}
use Rattle.builtin_tables.specs.Named.{is_same_name}
use Rattle.builtin_tables.specs.Newer.{newer_functions, newer_classes, newer_constants}
use Rattle.php_meaning.specs.runs.World.{Ended, Threw}
use Rattle.php_meaning.specs.laws.Examples.{bare}
use Rattle.php_meaning.proofs.RunWords.{ComesIn}

-- a token, and what follows it
abbrev t : TokenKind → String → Forest → Forest
t kind text rest = leaf (bare kind (codes text)) rest

-- <?php function f() { try { return 1; } finally { echo 2; } } echo f();
-- (PHP manual, "Exceptions": `finally` runs where the block returns)
abbrev finally_after_return_tree : Forest
finally_after_return_tree =
    (node kind.Function (t token.Keyword "function" (t token.Label "f" (t token.Op "(" (t token.Op ")" (node
    kind.Block (t token.Op "{" (node kind.Try (t token.Keyword "try" (node kind.Block (t token.Op "{" (node
    kind.Return (t token.Keyword "return" (node kind.Number (t token.Int "1" none) (t token.Semi ";" none))) (t
    token.Op "}" none))) (t token.Keyword "finally" (node kind.Block (t token.Op "{" (node kind.Echo (t
    token.Keyword "echo" (node kind.Number (t token.Int "2" none) (t token.Semi ";" none))) (t token.Op "}"
    none))) none)))) (t token.Op "}" none))) none))))) (node kind.Echo (t token.Keyword "echo" (node kind.Call (t
    token.Label "f" (t token.Op "(" (node kind.Args none (t token.Op ")" none)))) (t token.Semi ";" none))) none))

finally_after_return : ComesIn 30 finally_after_return_tree (codes "21", Ended (pos 0)) (codes "21", Ended (pos 0))
unfolding builtin_rows named_constants word_constants is_same_name newer_functions newer_classes newer_constants beyond_functions beyond_classes beyond_constants
finally_after_return = (refl, refl)

-- <?php class A { private $p = 1; } $a = new A; try { echo $a->p; } catch (Error $e) { echo 2; }
-- (PHP manual, "Visibility")
abbrev private_from_outside_tree : Forest
private_from_outside_tree =
    (node kind.Class (t token.Keyword "class" (t token.Label "A" (t token.Op "{" (node kind.Property (t
    token.Keyword "private" (t token.Variable "$p" (t token.Op "=" (node kind.Number (t token.Int "1" none) (t
    token.Semi ";" none))))) (t token.Op "}" none))))) (node kind.ExprStmt (node kind.Assign (node kind.Variable
    (t token.Variable "$a" none) (t token.Op "=" (node kind.New (t token.Keyword "new" (t token.Label "A" none))
    none))) (t token.Semi ";" none)) (node kind.Try (t token.Keyword "try" (node kind.Block (t token.Op "{" (node
    kind.Echo (t token.Keyword "echo" (node kind.Prop (node kind.Variable (t token.Variable "$a" none) (t token.Op
    "->" (t token.Label "p" none))) (t token.Semi ";" none))) (t token.Op "}" none))) (t token.Keyword "catch" (t
    token.Op "(" (t token.Label "Error" (t token.Variable "$e" (t token.Op ")" (node kind.Block (t token.Op "{"
    (node kind.Echo (t token.Keyword "echo" (node kind.Number (t token.Int "2" none) (t token.Semi ";" none))) (t
    token.Op "}" none))) none)))))))) none)))

private_from_outside : ComesIn 30 private_from_outside_tree (codes "2", Ended (pos 0)) (codes "2", Ended (pos 0))
unfolding builtin_rows named_constants word_constants is_same_name newer_functions newer_classes newer_constants beyond_functions beyond_classes beyond_constants
private_from_outside = (refl, refl)

-- <?php class A { function f() { static $n = 0; $n++; echo $n; } } class B extends A {} (new A)->f(); (new B)->f();
-- (UPGRADING 8.1: a child has a copy of its own in 7.4, and shares its parent's in 8.3)
abbrev statics_of_a_child_tree : Forest
statics_of_a_child_tree =
    (node kind.Class (t token.Keyword "class" (t token.Label "A" (t token.Op "{" (node kind.Method (t
    token.Keyword "function" (t token.Label "f" (t token.Op "(" (t token.Op ")" (node kind.Block (t token.Op "{"
    (node kind.Statics (t token.Keyword "static" (t token.Variable "$n" (t token.Op "=" (node kind.Number (t
    token.Int "0" none) (t token.Semi ";" none))))) (node kind.ExprStmt (node kind.Postfix (node kind.Variable (t
    token.Variable "$n" none) (t token.Op "++" none)) (t token.Semi ";" none)) (node kind.Echo (t token.Keyword
    "echo" (node kind.Variable (t token.Variable "$n" none) (t token.Semi ";" none))) (t token.Op "}" none)))))
    none))))) (t token.Op "}" none))))) (node kind.Class (t token.Keyword "class" (t token.Label "B" (t
    token.Keyword "extends" (t token.Label "A" (t token.Op "{" (t token.Op "}" none)))))) (node kind.ExprStmt
    (node kind.MethodCall (node kind.Paren (t token.Op "(" (node kind.New (t token.Keyword "new" (t token.Label
    "A" none)) (t token.Op ")" none))) (t token.Op "->" (t token.Label "f" (t token.Op "(" (node kind.Args none (t
    token.Op ")" none)))))) (t token.Semi ";" none)) (node kind.ExprStmt (node kind.MethodCall (node kind.Paren (t
    token.Op "(" (node kind.New (t token.Keyword "new" (t token.Label "B" none)) (t token.Op ")" none))) (t
    token.Op "->" (t token.Label "f" (t token.Op "(" (node kind.Args none (t token.Op ")" none)))))) (t token.Semi
    ";" none)) none))))

statics_of_a_child : ComesIn 30 statics_of_a_child_tree (codes "11", Ended (pos 0)) (codes "12", Ended (pos 0))
unfolding builtin_rows named_constants word_constants is_same_name newer_functions newer_classes newer_constants beyond_functions beyond_classes beyond_constants
statics_of_a_child = (refl, refl)

-- <?php echo foo;
-- (UPGRADING 8.0: its own name in 7.4, which 8.3 throws at)
abbrev undefined_constant_tree : Forest
undefined_constant_tree =
    (node kind.Echo (t token.Keyword "echo" (node kind.Constant (t token.Label "foo" none) (t token.Semi ";"
    none))) none)

undefined_constant : ComesIn 30 undefined_constant_tree (codes "foo", Ended (pos 0)) ([], Threw (codes "Error"))
unfolding builtin_rows named_constants word_constants is_same_name newer_functions newer_classes newer_constants beyond_functions beyond_classes beyond_constants
undefined_constant = (refl, refl)

-- <?php $a = [1]; foreach ($a as &$v) { if ($v < 3) $a[] = $v + 1; echo $v; }
-- (PHP manual, "foreach": by reference the loop goes on to entries that are added behind)
abbrev meets_what_is_added_tree : Forest
meets_what_is_added_tree =
    (node kind.ExprStmt (node kind.Assign (node kind.Variable (t token.Variable "$a" none) (t token.Op "="
    (node kind.Array (t token.Op "[" (node kind.Item (node kind.Number (t token.Int "1" none) none) (t
    token.Op "]" none))) none))) (t token.Semi ";" none)) (node kind.Foreach (t token.Keyword "foreach" (t
    token.Op "(" (node kind.Variable (t token.Variable "$a" none) (t token.Keyword "as" (t token.Op "&" (node
    kind.Variable (t token.Variable "$v" none) (t token.Op ")" (node kind.Block (t token.Op "{" (node kind.If
    (t token.Keyword "if" (t token.Op "(" (node kind.Binary (node kind.Variable (t token.Variable "$v" none)
    (t token.Op "<" (node kind.Number (t token.Int "3" none) none))) (t token.Op ")" (node kind.ExprStmt (node
    kind.Assign (node kind.Offset (node kind.Variable (t token.Variable "$a" none) (t token.Op "[" (t token.Op
    "]" none))) (t token.Op "=" (node kind.Binary (node kind.Variable (t token.Variable "$v" none) (t token.Op
    "+" (node kind.Number (t token.Int "1" none) none))) none))) (t token.Semi ";" none)) none))))) (node
    kind.Echo (t token.Keyword "echo" (node kind.Variable (t token.Variable "$v" none) (t token.Semi ";"
    none))) (t token.Op "}" none)))) none)))))))) none))

meets_what_is_added : ComesIn 30 meets_what_is_added_tree (codes "123", Ended (pos 0)) (codes "123", Ended (pos 0))
unfolding builtin_rows named_constants word_constants is_same_name newer_functions newer_classes newer_constants beyond_functions beyond_classes beyond_constants
meets_what_is_added = (refl, refl)

-- <?php if (isset($n)) { echo $n; } else { function f() { $n = 1; include "a.php"; } f(); echo 2; }
-- (PHP manual, "include": the file shares the variables of the code that includes it)
abbrev include_in_a_function_tree : Forest
include_in_a_function_tree =
    (node kind.If (t token.Keyword "if" (t token.Op "(" (node kind.Isset (t token.Keyword "isset" (t token.Op
    "(" (node kind.Variable (t token.Variable "$n" none) (t token.Op ")" none)))) (t token.Op ")" (node
    kind.Block (t token.Op "{" (node kind.Echo (t token.Keyword "echo" (node kind.Variable (t token.Variable
    "$n" none) (t token.Semi ";" none))) (t token.Op "}" none))) (t token.Keyword "else" (node kind.Block (t
    token.Op "{" (node kind.Function (t token.Keyword "function" (t token.Label "f" (t token.Op "(" (t
    token.Op ")" (node kind.Block (t token.Op "{" (node kind.ExprStmt (node kind.Assign (node kind.Variable (t
    token.Variable "$n" none) (t token.Op "=" (node kind.Number (t token.Int "1" none) none))) (t token.Semi
    ";" none)) (node kind.ExprStmt (node kind.Include (t token.Keyword "include" (node kind.Text (t token.Text
    "\"a.php\"" none) none)) (t token.Semi ";" none)) (t token.Op "}" none)))) none))))) (node kind.ExprStmt
    (node kind.Call (t token.Label "f" (t token.Op "(" (node kind.Args none (t token.Op ")" none)))) (t
    token.Semi ";" none)) (node kind.Echo (t token.Keyword "echo" (node kind.Number (t token.Int "2" none) (t
    token.Semi ";" none))) (t token.Op "}" none))))) none))))))) none)

include_in_a_function : ComesIn 30 include_in_a_function_tree (codes "12", Ended (pos 0)) (codes "12", Ended (pos 0))
unfolding builtin_rows named_constants word_constants is_same_name newer_functions newer_classes newer_constants beyond_functions beyond_classes beyond_constants
include_in_a_function = (refl, refl)
