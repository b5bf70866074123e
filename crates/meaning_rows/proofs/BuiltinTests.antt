-- Rows of whole programs: builtin functions on ints, kinds and arrays. The 8.3 side is what PHP 8.2 echoes, where it has a meaning here.
use Rattle.std.proofs.Common.{refl, codes}
use Rattle.php_tree.specs.declared.token.TokenKind.TheVariants as token
use Rattle.php_tree.specs.declared.kind.NodeKind.TheVariants as kind
use Rattle.php_tree.specs.Tree.{Forest, none, node}
use Rattle.builtin_tables.specs.Beyond.{beyond_functions, beyond_classes, beyond_constants}
use Rattle.builtin_tables.specs.Builtins.{builtin_rows}
use Rattle.builtin_tables.specs.Constants.{named_constants, word_constants}
use Rattle.builtin_tables.specs.Named.{is_same_name}
use Rattle.builtin_tables.specs.Newer.{newer_functions, newer_classes, newer_constants}
use Rattle.php_meaning.specs.Cause.{Call, Reference}
use Rattle.meaning_rows.specs.Words.{t, b, file, ended, outside, Comes}

-- <?php echo intval('12abc'), intval(true), intval(null), intval(' 7'), intval('abc'), intval('-5 ');
abbrev ints_of_values_tree : Forest
ints_of_values_tree =
    (node kind.Echo (t token.Keyword "echo" (node kind.Call (t token.Label "intval" (t token.Op "(" (node kind.Args
    (node kind.Text (t token.Text "'12abc'" none) none) (t token.Op ")" none)))) (t token.Op "," (node kind.Call (t
    token.Label "intval" (t token.Op "(" (node kind.Args (node kind.Constant (t token.Label "true" none) none) (t
    token.Op ")" none)))) (t token.Op "," (node kind.Call (t token.Label "intval" (t token.Op "(" (node kind.Args
    (node kind.Constant (t token.Label "null" none) none) (t token.Op ")" none)))) (t token.Op "," (node kind.Call (t
    token.Label "intval" (t token.Op "(" (node kind.Args (node kind.Text (t token.Text "' 7'" none) none) (t token.Op
    ")" none)))) (t token.Op "," (node kind.Call (t token.Label "intval" (t token.Op "(" (node kind.Args (node
    kind.Text (t token.Text "'abc'" none) none) (t token.Op ")" none)))) (t token.Op "," (node kind.Call (t
    token.Label "intval" (t token.Op "(" (node kind.Args (node kind.Text (t token.Text "'-5 '" none) none) (t token.Op
    ")" none)))) (t token.Semi ";" none))))))))))))) none)

ints_of_values : Comes 200 (file ints_of_values_tree) (file ints_of_values_tree) (codes "a.php")
    ((codes "121070-5"), ended)
    ((codes "121070-5"), ended)
unfolding builtin_rows named_constants word_constants is_same_name newer_functions newer_classes newer_constants beyond_functions beyond_classes beyond_constants
ints_of_values = (refl, refl)

-- <?php echo intval([1]);
abbrev int_of_an_array_tree : Forest
int_of_an_array_tree =
    (node kind.Echo (t token.Keyword "echo" (node kind.Call (t token.Label "intval" (t token.Op "(" (node kind.Args
    (node kind.Array (t token.Op "[" (node kind.Item (node kind.Number (t token.Int "1" none) none) (t token.Op "]"
    none))) none) (t token.Op ")" none)))) (t token.Semi ";" none))) none)

int_of_an_array : Comes 200 (file int_of_an_array_tree) (file int_of_an_array_tree) (codes "a.php")
    ((codes ""), outside Call)
    ((codes ""), outside Call)
unfolding builtin_rows named_constants word_constants is_same_name newer_functions newer_classes newer_constants beyond_functions beyond_classes beyond_constants
int_of_an_array = (refl, refl)

-- <?php echo intdiv(7, 2), intdiv(-7, 2), intdiv(7, -2), intdiv(0, 5); try { intdiv(1, 0); } catch
--  (DivisionByZeroError $e) { echo 'D'; } try { intdiv(PHP_INT_MIN, -1); } catch (ArithmeticError $e) { echo 'A'; }
abbrev divided_tree : Forest
divided_tree =
    (node kind.Echo (t token.Keyword "echo" (node kind.Call (t token.Label "intdiv" (t token.Op "(" (node kind.Args
    (node kind.Number (t token.Int "7" none) (t token.Op "," (node kind.Number (t token.Int "2" none) none))) (t
    token.Op ")" none)))) (t token.Op "," (node kind.Call (t token.Label "intdiv" (t token.Op "(" (node kind.Args
    (node kind.Prefix (t token.Op "-" (node kind.Number (t token.Int "7" none) none)) (t token.Op "," (node
    kind.Number (t token.Int "2" none) none))) (t token.Op ")" none)))) (t token.Op "," (node kind.Call (t token.Label
    "intdiv" (t token.Op "(" (node kind.Args (node kind.Number (t token.Int "7" none) (t token.Op "," (node
    kind.Prefix (t token.Op "-" (node kind.Number (t token.Int "2" none) none)) none))) (t token.Op ")" none)))) (t
    token.Op "," (node kind.Call (t token.Label "intdiv" (t token.Op "(" (node kind.Args (node kind.Number (t
    token.Int "0" none) (t token.Op "," (node kind.Number (t token.Int "5" none) none))) (t token.Op ")" none)))) (t
    token.Semi ";" none))))))))) (node kind.Try (t token.Keyword "try" (node kind.Block (t token.Op "{" (node
    kind.ExprStmt (node kind.Call (t token.Label "intdiv" (t token.Op "(" (node kind.Args (node kind.Number (t
    token.Int "1" none) (t token.Op "," (node kind.Number (t token.Int "0" none) none))) (t token.Op ")" none)))) (t
    token.Semi ";" none)) (t token.Op "}" none))) (t token.Keyword "catch" (t token.Op "(" (t token.Label
    "DivisionByZeroError" (t token.Variable "$e" (t token.Op ")" (node kind.Block (t token.Op "{" (node kind.Echo (t
    token.Keyword "echo" (node kind.Text (t token.Text "'D'" none) (t token.Semi ";" none))) (t token.Op "}" none)))
    none)))))))) (node kind.Try (t token.Keyword "try" (node kind.Block (t token.Op "{" (node kind.ExprStmt (node
    kind.Call (t token.Label "intdiv" (t token.Op "(" (node kind.Args (node kind.Constant (t token.Label "PHP_INT_MIN"
    none) (t token.Op "," (node kind.Prefix (t token.Op "-" (node kind.Number (t token.Int "1" none) none)) none))) (t
    token.Op ")" none)))) (t token.Semi ";" none)) (t token.Op "}" none))) (t token.Keyword "catch" (t token.Op "(" (t
    token.Label "ArithmeticError" (t token.Variable "$e" (t token.Op ")" (node kind.Block (t token.Op "{" (node
    kind.Echo (t token.Keyword "echo" (node kind.Text (t token.Text "'A'" none) (t token.Semi ";" none))) (t token.Op
    "}" none))) none)))))))) none)))

divided : Comes 200 (file divided_tree) (file divided_tree) (codes "a.php")
    ((codes "3-3-30DA"), ended)
    ((codes "3-3-30DA"), ended)
unfolding builtin_rows named_constants word_constants is_same_name newer_functions newer_classes newer_constants beyond_functions beyond_classes beyond_constants
divided = (refl, refl)

-- <?php function k($v) { echo is_int($v) ? 'i' : '-', is_string($v) ? 's' : '-', is_array($v) ? 'a' : '-',
--  is_null($v) ? 'n' : '-', is_bool($v) ? 'b' : '-', is_float($v) ? 'f' : '-', ' '; } k(1); k('1'); k([]); k(null);
--  k(false); k(new Exception);
abbrev kinds_tree : Forest
kinds_tree =
    (node kind.Function (t token.Keyword "function" (t token.Label "k" (t token.Op "(" (node kind.Param (t
    token.Variable "$v" none) (t token.Op ")" (node kind.Block (t token.Op "{" (node kind.Echo (t token.Keyword "echo"
    (node kind.Ternary (node kind.Call (t token.Label "is_int" (t token.Op "(" (node kind.Args (node kind.Variable (t
    token.Variable "$v" none) none) (t token.Op ")" none)))) (t token.Op "?" (node kind.Text (t token.Text "'i'" none)
    (t token.Op ":" (node kind.Text (t token.Text "'-'" none) none))))) (t token.Op "," (node kind.Ternary (node
    kind.Call (t token.Label "is_string" (t token.Op "(" (node kind.Args (node kind.Variable (t token.Variable "$v"
    none) none) (t token.Op ")" none)))) (t token.Op "?" (node kind.Text (t token.Text "'s'" none) (t token.Op ":"
    (node kind.Text (t token.Text "'-'" none) none))))) (t token.Op "," (node kind.Ternary (node kind.Call (t
    token.Label "is_array" (t token.Op "(" (node kind.Args (node kind.Variable (t token.Variable "$v" none) none) (t
    token.Op ")" none)))) (t token.Op "?" (node kind.Text (t token.Text "'a'" none) (t token.Op ":" (node kind.Text (t
    token.Text "'-'" none) none))))) (t token.Op "," (node kind.Ternary (node kind.Call (t token.Label "is_null" (t
    token.Op "(" (node kind.Args (node kind.Variable (t token.Variable "$v" none) none) (t token.Op ")" none)))) (t
    token.Op "?" (node kind.Text (t token.Text "'n'" none) (t token.Op ":" (node kind.Text (t token.Text "'-'" none)
    none))))) (t token.Op "," (node kind.Ternary (node kind.Call (t token.Label "is_bool" (t token.Op "(" (node
    kind.Args (node kind.Variable (t token.Variable "$v" none) none) (t token.Op ")" none)))) (t token.Op "?" (node
    kind.Text (t token.Text "'b'" none) (t token.Op ":" (node kind.Text (t token.Text "'-'" none) none))))) (t
    token.Op "," (node kind.Ternary (node kind.Call (t token.Label "is_float" (t token.Op "(" (node kind.Args (node
    kind.Variable (t token.Variable "$v" none) none) (t token.Op ")" none)))) (t token.Op "?" (node kind.Text (t
    token.Text "'f'" none) (t token.Op ":" (node kind.Text (t token.Text "'-'" none) none))))) (t token.Op "," (node
    kind.Text (t token.Text "' '" none) (t token.Semi ";" none))))))))))))))) (t token.Op "}" none))) none)))))) (node
    kind.ExprStmt (node kind.Call (t token.Label "k" (t token.Op "(" (node kind.Args (node kind.Number (t token.Int
    "1" none) none) (t token.Op ")" none)))) (t token.Semi ";" none)) (node kind.ExprStmt (node kind.Call (t
    token.Label "k" (t token.Op "(" (node kind.Args (node kind.Text (t token.Text "'1'" none) none) (t token.Op ")"
    none)))) (t token.Semi ";" none)) (node kind.ExprStmt (node kind.Call (t token.Label "k" (t token.Op "(" (node
    kind.Args (node kind.Array (t token.Op "[" (t token.Op "]" none)) none) (t token.Op ")" none)))) (t token.Semi ";"
    none)) (node kind.ExprStmt (node kind.Call (t token.Label "k" (t token.Op "(" (node kind.Args (node kind.Constant
    (t token.Label "null" none) none) (t token.Op ")" none)))) (t token.Semi ";" none)) (node kind.ExprStmt (node
    kind.Call (t token.Label "k" (t token.Op "(" (node kind.Args (node kind.Constant (t token.Label "false" none)
    none) (t token.Op ")" none)))) (t token.Semi ";" none)) (node kind.ExprStmt (node kind.Call (t token.Label "k" (t
    token.Op "(" (node kind.Args (node kind.New (t token.Keyword "new" (t token.Label "Exception" none)) none) (t
    token.Op ")" none)))) (t token.Semi ";" none)) none)))))))

kinds : Comes 200 (file kinds_tree) (file kinds_tree) (codes "a.php")
    ((codes "i----- -s---- --a--- ---n-- ----b- ------ "), ended)
    ((codes "i----- -s---- --a--- ---n-- ----b- ------ "), ended)
unfolding builtin_rows named_constants word_constants is_same_name newer_functions newer_classes newer_constants beyond_functions beyond_classes beyond_constants
kinds = (refl, refl)

-- <?php try { echo is_real(1) ? 'r' : 'n'; } catch (Error $e) { echo 'E'; }
abbrev removed_test_tree : Forest
removed_test_tree =
    (node kind.Try (t token.Keyword "try" (node kind.Block (t token.Op "{" (node kind.Echo (t token.Keyword "echo"
    (node kind.Ternary (node kind.Call (t token.Label "is_real" (t token.Op "(" (node kind.Args (node kind.Number (t
    token.Int "1" none) none) (t token.Op ")" none)))) (t token.Op "?" (node kind.Text (t token.Text "'r'" none) (t
    token.Op ":" (node kind.Text (t token.Text "'n'" none) none))))) (t token.Semi ";" none))) (t token.Op "}" none)))
    (t token.Keyword "catch" (t token.Op "(" (t token.Label "Error" (t token.Variable "$e" (t token.Op ")" (node
    kind.Block (t token.Op "{" (node kind.Echo (t token.Keyword "echo" (node kind.Text (t token.Text "'E'" none) (t
    token.Semi ";" none))) (t token.Op "}" none))) none)))))))) none)

removed_test : Comes 200 (file removed_test_tree) (file removed_test_tree) (codes "a.php")
    ((codes "n"), ended)
    ((codes "E"), ended)
unfolding builtin_rows named_constants word_constants is_same_name newer_functions newer_classes newer_constants beyond_functions beyond_classes beyond_constants
removed_test = (refl, refl)

-- <?php function f() { echo 'f'; return 1; } try { is_real(f()); } catch (Error $e) { echo 'E'; }
abbrev removed_before_arguments_tree : Forest
removed_before_arguments_tree =
    (node kind.Function (t token.Keyword "function" (t token.Label "f" (t token.Op "(" (t token.Op ")" (node
    kind.Block (t token.Op "{" (node kind.Echo (t token.Keyword "echo" (node kind.Text (t token.Text "'f'" none) (t
    token.Semi ";" none))) (node kind.Return (t token.Keyword "return" (node kind.Number (t token.Int "1" none) (t
    token.Semi ";" none))) (t token.Op "}" none)))) none))))) (node kind.Try (t token.Keyword "try" (node kind.Block
    (t token.Op "{" (node kind.ExprStmt (node kind.Call (t token.Label "is_real" (t token.Op "(" (node kind.Args (node
    kind.Call (t token.Label "f" (t token.Op "(" (node kind.Args none (t token.Op ")" none)))) none) (t token.Op ")"
    none)))) (t token.Semi ";" none)) (t token.Op "}" none))) (t token.Keyword "catch" (t token.Op "(" (t token.Label
    "Error" (t token.Variable "$e" (t token.Op ")" (node kind.Block (t token.Op "{" (node kind.Echo (t token.Keyword
    "echo" (node kind.Text (t token.Text "'E'" none) (t token.Semi ";" none))) (t token.Op "}" none))) none))))))))
    none))

removed_before_arguments : Comes 200 (file removed_before_arguments_tree) (file removed_before_arguments_tree) (codes "a.php")
    ((codes "f"), ended)
    ((codes "E"), ended)
unfolding builtin_rows named_constants word_constants is_same_name newer_functions newer_classes newer_constants beyond_functions beyond_classes beyond_constants
removed_before_arguments = (refl, refl)

-- <?php try { echo get_magic_quotes_gpc() ? 't' : 'f', get_magic_quotes_runtime() ? 't' : 'f'; } catch (Error $e) { echo 'E'; }
abbrev removed_settings_tree : Forest
removed_settings_tree =
    (node kind.Try (t token.Keyword "try" (node kind.Block (t token.Op "{" (node kind.Echo (t token.Keyword "echo"
    (node kind.Ternary (node kind.Call (t token.Label "get_magic_quotes_gpc" (t token.Op "(" (node kind.Args none (t
    token.Op ")" none)))) (t token.Op "?" (node kind.Text (t token.Text "'t'" none) (t token.Op ":" (node kind.Text (t
    token.Text "'f'" none) none))))) (t token.Op "," (node kind.Ternary (node kind.Call (t token.Label
    "get_magic_quotes_runtime" (t token.Op "(" (node kind.Args none (t token.Op ")" none)))) (t token.Op "?" (node
    kind.Text (t token.Text "'t'" none) (t token.Op ":" (node kind.Text (t token.Text "'f'" none) none))))) (t
    token.Semi ";" none))))) (t token.Op "}" none))) (t token.Keyword "catch" (t token.Op "(" (t token.Label "Error"
    (t token.Variable "$e" (t token.Op ")" (node kind.Block (t token.Op "{" (node kind.Echo (t token.Keyword "echo"
    (node kind.Text (t token.Text "'E'" none) (t token.Semi ";" none))) (t token.Op "}" none))) none)))))))) none)

removed_settings : Comes 200 (file removed_settings_tree) (file removed_settings_tree) (codes "a.php")
    ((codes "ff"), ended)
    ((codes "E"), ended)
unfolding builtin_rows named_constants word_constants is_same_name newer_functions newer_classes newer_constants beyond_functions beyond_classes beyond_constants
removed_settings = (refl, refl)

-- <?php $a = ['x' => 1, 5 => 'b', 'c']; foreach (array_keys($a) as $k => $v) { echo $k, '=', $v, ' '; } foreach
--  (array_values($a) as $k => $v) { echo $k, '=', $v, ' '; } echo count(array_keys([]));
abbrev keys_and_values_tree : Forest
keys_and_values_tree =
    (node kind.ExprStmt (node kind.Assign (node kind.Variable (t token.Variable "$a" none) (t token.Op "=" (node
    kind.Array (t token.Op "[" (node kind.Item (node kind.Text (t token.Text "'x'" none) (t token.Op "=>" (node
    kind.Number (t token.Int "1" none) none))) (t token.Op "," (node kind.Item (node kind.Number (t token.Int "5"
    none) (t token.Op "=>" (node kind.Text (t token.Text "'b'" none) none))) (t token.Op "," (node kind.Item (node
    kind.Text (t token.Text "'c'" none) none) (t token.Op "]" none))))))) none))) (t token.Semi ";" none)) (node
    kind.Foreach (t token.Keyword "foreach" (t token.Op "(" (node kind.Call (t token.Label "array_keys" (t token.Op
    "(" (node kind.Args (node kind.Variable (t token.Variable "$a" none) none) (t token.Op ")" none)))) (t
    token.Keyword "as" (node kind.Variable (t token.Variable "$k" none) (t token.Op "=>" (node kind.Variable (t
    token.Variable "$v" none) (t token.Op ")" (node kind.Block (t token.Op "{" (node kind.Echo (t token.Keyword "echo"
    (node kind.Variable (t token.Variable "$k" none) (t token.Op "," (node kind.Text (t token.Text "'='" none) (t
    token.Op "," (node kind.Variable (t token.Variable "$v" none) (t token.Op "," (node kind.Text (t token.Text "' '"
    none) (t token.Semi ";" none))))))))) (t token.Op "}" none))) none))))))))) (node kind.Foreach (t token.Keyword
    "foreach" (t token.Op "(" (node kind.Call (t token.Label "array_values" (t token.Op "(" (node kind.Args (node
    kind.Variable (t token.Variable "$a" none) none) (t token.Op ")" none)))) (t token.Keyword "as" (node
    kind.Variable (t token.Variable "$k" none) (t token.Op "=>" (node kind.Variable (t token.Variable "$v" none) (t
    token.Op ")" (node kind.Block (t token.Op "{" (node kind.Echo (t token.Keyword "echo" (node kind.Variable (t
    token.Variable "$k" none) (t token.Op "," (node kind.Text (t token.Text "'='" none) (t token.Op "," (node
    kind.Variable (t token.Variable "$v" none) (t token.Op "," (node kind.Text (t token.Text "' '" none) (t token.Semi
    ";" none))))))))) (t token.Op "}" none))) none))))))))) (node kind.Echo (t token.Keyword "echo" (node kind.Call (t
    token.Label "count" (t token.Op "(" (node kind.Args (node kind.Call (t token.Label "array_keys" (t token.Op "("
    (node kind.Args (node kind.Array (t token.Op "[" (t token.Op "]" none)) none) (t token.Op ")" none)))) none) (t
    token.Op ")" none)))) (t token.Semi ";" none))) none))))

keys_and_values : Comes 200 (file keys_and_values_tree) (file keys_and_values_tree) (codes "a.php")
    ((codes "0=x 1=5 2=6 0=1 1=b 2=c 0"), ended)
    ((codes "0=x 1=5 2=6 0=1 1=b 2=c 0"), ended)
unfolding builtin_rows named_constants word_constants is_same_name newer_functions newer_classes newer_constants beyond_functions beyond_classes beyond_constants
keys_and_values = (refl, refl)

-- <?php $x = 1; $a = [&$x]; echo count($a), implode($a[0] ? ',' : ';', $a); $b = array_values($a);
abbrev values_of_shared_tree : Forest
values_of_shared_tree =
    (node kind.ExprStmt (node kind.Assign (node kind.Variable (t token.Variable "$x" none) (t token.Op "=" (node
    kind.Number (t token.Int "1" none) none))) (t token.Semi ";" none)) (node kind.ExprStmt (node kind.Assign (node
    kind.Variable (t token.Variable "$a" none) (t token.Op "=" (node kind.Array (t token.Op "[" (node kind.Item (t
    token.Op "&" (node kind.Variable (t token.Variable "$x" none) none)) (t token.Op "]" none))) none))) (t token.Semi
    ";" none)) (node kind.Echo (t token.Keyword "echo" (node kind.Call (t token.Label "count" (t token.Op "(" (node
    kind.Args (node kind.Variable (t token.Variable "$a" none) none) (t token.Op ")" none)))) (t token.Op "," (node
    kind.Call (t token.Label "implode" (t token.Op "(" (node kind.Args (node kind.Ternary (node kind.Offset (node
    kind.Variable (t token.Variable "$a" none) (t token.Op "[" (node kind.Number (t token.Int "0" none) (t token.Op
    "]" none)))) (t token.Op "?" (node kind.Text (t token.Text "','" none) (t token.Op ":" (node kind.Text (t
    token.Text "';'" none) none))))) (t token.Op "," (node kind.Variable (t token.Variable "$a" none) none))) (t
    token.Op ")" none)))) (t token.Semi ";" none))))) (node kind.ExprStmt (node kind.Assign (node kind.Variable (t
    token.Variable "$b" none) (t token.Op "=" (node kind.Call (t token.Label "array_values" (t token.Op "(" (node
    kind.Args (node kind.Variable (t token.Variable "$a" none) none) (t token.Op ")" none)))) none))) (t token.Semi
    ";" none)) none))))

values_of_shared : Comes 200 (file values_of_shared_tree) (file values_of_shared_tree) (codes "a.php")
    ((codes "11"), outside Reference)
    ((codes "11"), outside Reference)
unfolding builtin_rows named_constants word_constants is_same_name newer_functions newer_classes newer_constants beyond_functions beyond_classes beyond_constants
values_of_shared = (refl, refl)

-- <?php $a = [1, 2]; $r = &$a[0]; unset($r); $b = array_values($a); $b[0] = 9; echo $a[0], $b[0];
abbrev values_of_single_tree : Forest
values_of_single_tree =
    (node kind.ExprStmt (node kind.Assign (node kind.Variable (t token.Variable "$a" none) (t token.Op "=" (node
    kind.Array (t token.Op "[" (node kind.Item (node kind.Number (t token.Int "1" none) none) (t token.Op "," (node
    kind.Item (node kind.Number (t token.Int "2" none) none) (t token.Op "]" none))))) none))) (t token.Semi ";"
    none)) (node kind.ExprStmt (node kind.AssignRef (node kind.Variable (t token.Variable "$r" none) (t token.Op "="
    (t token.Op "&" (node kind.Offset (node kind.Variable (t token.Variable "$a" none) (t token.Op "[" (node
    kind.Number (t token.Int "0" none) (t token.Op "]" none)))) none)))) (t token.Semi ";" none)) (node kind.Unset (t
    token.Keyword "unset" (t token.Op "(" (node kind.Variable (t token.Variable "$r" none) (t token.Op ")" (t
    token.Semi ";" none))))) (node kind.ExprStmt (node kind.Assign (node kind.Variable (t token.Variable "$b" none) (t
    token.Op "=" (node kind.Call (t token.Label "array_values" (t token.Op "(" (node kind.Args (node kind.Variable (t
    token.Variable "$a" none) none) (t token.Op ")" none)))) none))) (t token.Semi ";" none)) (node kind.ExprStmt
    (node kind.Assign (node kind.Offset (node kind.Variable (t token.Variable "$b" none) (t token.Op "[" (node
    kind.Number (t token.Int "0" none) (t token.Op "]" none)))) (t token.Op "=" (node kind.Number (t token.Int "9"
    none) none))) (t token.Semi ";" none)) (node kind.Echo (t token.Keyword "echo" (node kind.Offset (node
    kind.Variable (t token.Variable "$a" none) (t token.Op "[" (node kind.Number (t token.Int "0" none) (t token.Op
    "]" none)))) (t token.Op "," (node kind.Offset (node kind.Variable (t token.Variable "$b" none) (t token.Op "["
    (node kind.Number (t token.Int "0" none) (t token.Op "]" none)))) (t token.Semi ";" none))))) none))))))

values_of_single : Comes 200 (file values_of_single_tree) (file values_of_single_tree) (codes "a.php")
    ((codes "19"), ended)
    ((codes "19"), ended)
unfolding builtin_rows named_constants word_constants is_same_name newer_functions newer_classes newer_constants beyond_functions beyond_classes beyond_constants
values_of_single = (refl, refl)

-- <?php $a = [1 => null, 'k' => 2]; echo array_key_exists(1, $a) ? 't' : 'f', array_key_exists('1', $a) ? 't' : 'f',
--  array_key_exists('k', $a) ? 't' : 'f', array_key_exists('01', $a) ? 't' : 'f', array_key_exists(0, $a) ? 't' :
--  'f';
abbrev key_there_tree : Forest
key_there_tree =
    (node kind.ExprStmt (node kind.Assign (node kind.Variable (t token.Variable "$a" none) (t token.Op "=" (node
    kind.Array (t token.Op "[" (node kind.Item (node kind.Number (t token.Int "1" none) (t token.Op "=>" (node
    kind.Constant (t token.Label "null" none) none))) (t token.Op "," (node kind.Item (node kind.Text (t token.Text
    "'k'" none) (t token.Op "=>" (node kind.Number (t token.Int "2" none) none))) (t token.Op "]" none))))) none))) (t
    token.Semi ";" none)) (node kind.Echo (t token.Keyword "echo" (node kind.Ternary (node kind.Call (t token.Label
    "array_key_exists" (t token.Op "(" (node kind.Args (node kind.Number (t token.Int "1" none) (t token.Op "," (node
    kind.Variable (t token.Variable "$a" none) none))) (t token.Op ")" none)))) (t token.Op "?" (node kind.Text (t
    token.Text "'t'" none) (t token.Op ":" (node kind.Text (t token.Text "'f'" none) none))))) (t token.Op "," (node
    kind.Ternary (node kind.Call (t token.Label "array_key_exists" (t token.Op "(" (node kind.Args (node kind.Text (t
    token.Text "'1'" none) (t token.Op "," (node kind.Variable (t token.Variable "$a" none) none))) (t token.Op ")"
    none)))) (t token.Op "?" (node kind.Text (t token.Text "'t'" none) (t token.Op ":" (node kind.Text (t token.Text
    "'f'" none) none))))) (t token.Op "," (node kind.Ternary (node kind.Call (t token.Label "array_key_exists" (t
    token.Op "(" (node kind.Args (node kind.Text (t token.Text "'k'" none) (t token.Op "," (node kind.Variable (t
    token.Variable "$a" none) none))) (t token.Op ")" none)))) (t token.Op "?" (node kind.Text (t token.Text "'t'"
    none) (t token.Op ":" (node kind.Text (t token.Text "'f'" none) none))))) (t token.Op "," (node kind.Ternary (node
    kind.Call (t token.Label "array_key_exists" (t token.Op "(" (node kind.Args (node kind.Text (t token.Text "'01'"
    none) (t token.Op "," (node kind.Variable (t token.Variable "$a" none) none))) (t token.Op ")" none)))) (t
    token.Op "?" (node kind.Text (t token.Text "'t'" none) (t token.Op ":" (node kind.Text (t token.Text "'f'" none)
    none))))) (t token.Op "," (node kind.Ternary (node kind.Call (t token.Label "array_key_exists" (t token.Op "("
    (node kind.Args (node kind.Number (t token.Int "0" none) (t token.Op "," (node kind.Variable (t token.Variable
    "$a" none) none))) (t token.Op ")" none)))) (t token.Op "?" (node kind.Text (t token.Text "'t'" none) (t token.Op
    ":" (node kind.Text (t token.Text "'f'" none) none))))) (t token.Semi ";" none))))))))))) none))

key_there : Comes 200 (file key_there_tree) (file key_there_tree) (codes "a.php")
    ((codes "tttff"), ended)
    ((codes "tttff"), ended)
unfolding builtin_rows named_constants word_constants is_same_name newer_functions newer_classes newer_constants beyond_functions beyond_classes beyond_constants
key_there = (refl, refl)

-- <?php echo strlen('a', 'b');
abbrev too_many_arguments_tree : Forest
too_many_arguments_tree =
    (node kind.Echo (t token.Keyword "echo" (node kind.Call (t token.Label "strlen" (t token.Op "(" (node kind.Args
    (node kind.Text (t token.Text "'a'" none) (t token.Op "," (node kind.Text (t token.Text "'b'" none) none))) (t
    token.Op ")" none)))) (t token.Semi ";" none))) none)

too_many_arguments : Comes 200 (file too_many_arguments_tree) (file too_many_arguments_tree) (codes "a.php")
    ((codes ""), outside Call)
    ((codes ""), outside Call)
unfolding builtin_rows named_constants word_constants is_same_name newer_functions newer_classes newer_constants beyond_functions beyond_classes beyond_constants
too_many_arguments = (refl, refl)

-- <?php echo substr('a');
abbrev too_few_arguments_tree : Forest
too_few_arguments_tree =
    (node kind.Echo (t token.Keyword "echo" (node kind.Call (t token.Label "substr" (t token.Op "(" (node kind.Args
    (node kind.Text (t token.Text "'a'" none) none) (t token.Op ")" none)))) (t token.Semi ";" none))) none)

too_few_arguments : Comes 200 (file too_few_arguments_tree) (file too_few_arguments_tree) (codes "a.php")
    ((codes ""), outside Call)
    ((codes ""), outside Call)
unfolding builtin_rows named_constants word_constants is_same_name newer_functions newer_classes newer_constants beyond_functions beyond_classes beyond_constants
too_few_arguments = (refl, refl)

-- <?php echo strlen(12);
abbrev length_of_an_int_tree : Forest
length_of_an_int_tree =
    (node kind.Echo (t token.Keyword "echo" (node kind.Call (t token.Label "strlen" (t token.Op "(" (node kind.Args
    (node kind.Number (t token.Int "12" none) none) (t token.Op ")" none)))) (t token.Semi ";" none))) none)

length_of_an_int : Comes 200 (file length_of_an_int_tree) (file length_of_an_int_tree) (codes "a.php")
    ((codes ""), outside Call)
    ((codes ""), outside Call)
unfolding builtin_rows named_constants word_constants is_same_name newer_functions newer_classes newer_constants beyond_functions beyond_classes beyond_constants
length_of_an_int = (refl, refl)

-- <?php namespace N; class A { function n() { return get_class(); } } class B extends A {} echo (new B)->n();
abbrev class_around_tree : Forest
class_around_tree =
    (node kind.Namespace (t token.Keyword "namespace" (t token.Label "N" (t token.Semi ";" none))) (node kind.Class (t
    token.Keyword "class" (t token.Label "A" (t token.Op "{" (node kind.Method (t token.Keyword "function" (t
    token.Label "n" (t token.Op "(" (t token.Op ")" (node kind.Block (t token.Op "{" (node kind.Return (t
    token.Keyword "return" (node kind.Call (t token.Label "get_class" (t token.Op "(" (node kind.Args none (t token.Op
    ")" none)))) (t token.Semi ";" none))) (t token.Op "}" none))) none))))) (t token.Op "}" none))))) (node
    kind.Class (t token.Keyword "class" (t token.Label "B" (t token.Keyword "extends" (t token.Label "A" (t token.Op
    "{" (t token.Op "}" none)))))) (node kind.Echo (t token.Keyword "echo" (node kind.MethodCall (node kind.Paren (t
    token.Op "(" (node kind.New (t token.Keyword "new" (t token.Label "B" none)) (t token.Op ")" none))) (t token.Op
    "->" (t token.Label "n" (t token.Op "(" (node kind.Args none (t token.Op ")" none)))))) (t token.Semi ";" none)))
    none))))

class_around : Comes 200 (file class_around_tree) (file class_around_tree) (codes "a.php")
    ((codes "N\\A"), ended)
    ((codes "N\\A"), ended)
unfolding builtin_rows named_constants word_constants is_same_name newer_functions newer_classes newer_constants beyond_functions beyond_classes beyond_constants
class_around = (refl, refl)

-- <?php echo get_class();
abbrev class_nowhere_tree : Forest
class_nowhere_tree =
    (node kind.Echo (t token.Keyword "echo" (node kind.Call (t token.Label "get_class" (t token.Op "(" (node kind.Args
    none (t token.Op ")" none)))) (t token.Semi ";" none))) none)

class_nowhere : Comes 200 (file class_nowhere_tree) (file class_nowhere_tree) (codes "a.php")
    ((codes ""), outside Call)
    ((codes ""), outside Call)
unfolding builtin_rows named_constants word_constants is_same_name newer_functions newer_classes newer_constants beyond_functions beyond_classes beyond_constants
class_nowhere = (refl, refl)

-- <?php namespace N; function f() { return \strlen('ab') . strlen('abc'); } echo f(); function strlen2() { return 's'; } echo strlen2();
abbrev builtin_in_a_namespace_tree : Forest
builtin_in_a_namespace_tree =
    (node kind.Namespace (t token.Keyword "namespace" (t token.Label "N" (t token.Semi ";" none))) (node kind.Function
    (t token.Keyword "function" (t token.Label "f" (t token.Op "(" (t token.Op ")" (node kind.Block (t token.Op "{"
    (node kind.Return (t token.Keyword "return" (node kind.Binary (node kind.Call (t token.Op "\\" (t token.Label
    "strlen" (t token.Op "(" (node kind.Args (node kind.Text (t token.Text "'ab'" none) none) (t token.Op ")"
    none))))) (t token.Op "." (node kind.Call (t token.Label "strlen" (t token.Op "(" (node kind.Args (node kind.Text
    (t token.Text "'abc'" none) none) (t token.Op ")" none)))) none))) (t token.Semi ";" none))) (t token.Op "}"
    none))) none))))) (node kind.Echo (t token.Keyword "echo" (node kind.Call (t token.Label "f" (t token.Op "(" (node
    kind.Args none (t token.Op ")" none)))) (t token.Semi ";" none))) (node kind.Function (t token.Keyword "function"
    (t token.Label "strlen2" (t token.Op "(" (t token.Op ")" (node kind.Block (t token.Op "{" (node kind.Return (t
    token.Keyword "return" (node kind.Text (t token.Text "'s'" none) (t token.Semi ";" none))) (t token.Op "}" none)))
    none))))) (node kind.Echo (t token.Keyword "echo" (node kind.Call (t token.Label "strlen2" (t token.Op "(" (node
    kind.Args none (t token.Op ")" none)))) (t token.Semi ";" none))) none)))))

abbrev builtin_in_a_namespace_new_tree : Forest
builtin_in_a_namespace_new_tree =
    (node kind.Namespace (t token.Keyword "namespace" (t token.Label "N" (t token.Semi ";" none))) (node kind.Function
    (t token.Keyword "function" (t token.Label "f" (t token.Op "(" (t token.Op ")" (node kind.Block (t token.Op "{"
    (node kind.Return (t token.Keyword "return" (node kind.Binary (node kind.Call (t token.Name "\\strlen" (t token.Op
    "(" (node kind.Args (node kind.Text (t token.Text "'ab'" none) none) (t token.Op ")" none)))) (t token.Op "."
    (node kind.Call (t token.Label "strlen" (t token.Op "(" (node kind.Args (node kind.Text (t token.Text "'abc'"
    none) none) (t token.Op ")" none)))) none))) (t token.Semi ";" none))) (t token.Op "}" none))) none))))) (node
    kind.Echo (t token.Keyword "echo" (node kind.Call (t token.Label "f" (t token.Op "(" (node kind.Args none (t
    token.Op ")" none)))) (t token.Semi ";" none))) (node kind.Function (t token.Keyword "function" (t token.Label
    "strlen2" (t token.Op "(" (t token.Op ")" (node kind.Block (t token.Op "{" (node kind.Return (t token.Keyword
    "return" (node kind.Text (t token.Text "'s'" none) (t token.Semi ";" none))) (t token.Op "}" none))) none)))))
    (node kind.Echo (t token.Keyword "echo" (node kind.Call (t token.Label "strlen2" (t token.Op "(" (node kind.Args
    none (t token.Op ")" none)))) (t token.Semi ";" none))) none)))))

builtin_in_a_namespace : Comes 200 (file builtin_in_a_namespace_tree) (file builtin_in_a_namespace_new_tree) (codes "a.php")
    ((codes "23s"), ended)
    ((codes "23s"), ended)
unfolding builtin_rows named_constants word_constants is_same_name newer_functions newer_classes newer_constants beyond_functions beyond_classes beyond_constants
builtin_in_a_namespace = (refl, refl)

-- <?php try { nowhere(); } catch (Error $e) { echo 'E'; }
abbrev missing_function_tree : Forest
missing_function_tree =
    (node kind.Try (t token.Keyword "try" (node kind.Block (t token.Op "{" (node kind.ExprStmt (node kind.Call (t
    token.Label "nowhere" (t token.Op "(" (node kind.Args none (t token.Op ")" none)))) (t token.Semi ";" none)) (t
    token.Op "}" none))) (t token.Keyword "catch" (t token.Op "(" (t token.Label "Error" (t token.Variable "$e" (t
    token.Op ")" (node kind.Block (t token.Op "{" (node kind.Echo (t token.Keyword "echo" (node kind.Text (t
    token.Text "'E'" none) (t token.Semi ";" none))) (t token.Op "}" none))) none)))))))) none)

missing_function : Comes 200 (file missing_function_tree) (file missing_function_tree) (codes "a.php")
    ((codes "E"), ended)
    ((codes "E"), ended)
unfolding builtin_rows named_constants word_constants is_same_name newer_functions newer_classes newer_constants beyond_functions beyond_classes beyond_constants
missing_function = (refl, refl)

-- <?php function f() { echo 'f'; } try { nowhere(f()); } catch (Error $e) { echo 'E'; }
abbrev missing_before_arguments_tree : Forest
missing_before_arguments_tree =
    (node kind.Function (t token.Keyword "function" (t token.Label "f" (t token.Op "(" (t token.Op ")" (node
    kind.Block (t token.Op "{" (node kind.Echo (t token.Keyword "echo" (node kind.Text (t token.Text "'f'" none) (t
    token.Semi ";" none))) (t token.Op "}" none))) none))))) (node kind.Try (t token.Keyword "try" (node kind.Block (t
    token.Op "{" (node kind.ExprStmt (node kind.Call (t token.Label "nowhere" (t token.Op "(" (node kind.Args (node
    kind.Call (t token.Label "f" (t token.Op "(" (node kind.Args none (t token.Op ")" none)))) none) (t token.Op ")"
    none)))) (t token.Semi ";" none)) (t token.Op "}" none))) (t token.Keyword "catch" (t token.Op "(" (t token.Label
    "Error" (t token.Variable "$e" (t token.Op ")" (node kind.Block (t token.Op "{" (node kind.Echo (t token.Keyword
    "echo" (node kind.Text (t token.Text "'E'" none) (t token.Semi ";" none))) (t token.Op "}" none))) none))))))))
    none))

missing_before_arguments : Comes 200 (file missing_before_arguments_tree) (file missing_before_arguments_tree) (codes "a.php")
    ((codes "E"), ended)
    ((codes "E"), ended)
unfolding builtin_rows named_constants word_constants is_same_name newer_functions newer_classes newer_constants beyond_functions beyond_classes beyond_constants
missing_before_arguments = (refl, refl)
