-- Rows of whole programs: further kinds of nodes. The 8.3 side is what PHP 8.2 echoes, where it has a meaning here.
use Rattle.std.proofs.Common.{[], refl, codes}
use Rattle.php_tree.specs.declared.token.TokenKind.TheVariants as token
use Rattle.php_tree.specs.declared.kind.NodeKind.TheVariants as kind
use Rattle.php_tree.specs.Tree.{Forest, none, node}
use Rattle.builtin_tables.specs.Beyond.{beyond_functions, beyond_classes, beyond_constants}
use Rattle.builtin_tables.specs.Builtins.{builtin_rows}
use Rattle.builtin_tables.specs.Constants.{named_constants, word_constants}
use Rattle.builtin_tables.specs.Named.{is_same_name}
use Rattle.builtin_tables.specs.Newer.{newer_functions, newer_classes, newer_constants}
use Rattle.php_meaning.specs.Cause.{Call, Conversion, Declaration, NoRule, Reference}
use Rattle.meaning_rows.specs.Words.{t, b, file, ended, outside, Comes}

-- <?php function k($n) { if ($n == 1): echo "one"; elseif ($n == 2): echo "t"; echo "wo"; elseif ($n == 3): else:
--  echo "many"; endif; } k(1); k(2); k(3); k(4); if (false): echo "x"; endif; echo "end";
abbrev if_with_colons_tree : Forest
if_with_colons_tree =
    (node kind.Function (t token.Keyword "function" (t token.Label "k" (t token.Op "(" (node kind.Param (t
    token.Variable "$n" none) (t token.Op ")" (node kind.Block (t token.Op "{" (node kind.IfAlt (t token.Keyword
    "if" (t token.Op "(" (node kind.Binary (node kind.Variable (t token.Variable "$n" none) (t token.Op "==" (node
    kind.Number (t token.Int "1" none) none))) (t token.Op ")" (t token.Op ":" (node kind.Echo (t token.Keyword
    "echo" (node kind.Text (t token.Text "\"one\"" none) (t token.Semi ";" none))) (t token.Keyword "elseif" (t
    token.Op "(" (node kind.Binary (node kind.Variable (t token.Variable "$n" none) (t token.Op "==" (node
    kind.Number (t token.Int "2" none) none))) (t token.Op ")" (t token.Op ":" (node kind.Echo (t token.Keyword
    "echo" (node kind.Text (t token.Text "\"t\"" none) (t token.Semi ";" none))) (node kind.Echo (t token.Keyword
    "echo" (node kind.Text (t token.Text "\"wo\"" none) (t token.Semi ";" none))) (t token.Keyword "elseif" (t
    token.Op "(" (node kind.Binary (node kind.Variable (t token.Variable "$n" none) (t token.Op "==" (node
    kind.Number (t token.Int "3" none) none))) (t token.Op ")" (t token.Op ":" (t token.Keyword "else" (t token.Op
    ":" (node kind.Echo (t token.Keyword "echo" (node kind.Text (t token.Text "\"many\"" none) (t token.Semi ";"
    none))) (t token.Keyword "endif" (t token.Semi ";" none))))))))))))))))))))))) (t token.Op "}" none)))
    none)))))) (node kind.ExprStmt (node kind.Call (t token.Label "k" (t token.Op "(" (node kind.Args (node
    kind.Number (t token.Int "1" none) none) (t token.Op ")" none)))) (t token.Semi ";" none)) (node kind.ExprStmt
    (node kind.Call (t token.Label "k" (t token.Op "(" (node kind.Args (node kind.Number (t token.Int "2" none)
    none) (t token.Op ")" none)))) (t token.Semi ";" none)) (node kind.ExprStmt (node kind.Call (t token.Label "k"
    (t token.Op "(" (node kind.Args (node kind.Number (t token.Int "3" none) none) (t token.Op ")" none)))) (t
    token.Semi ";" none)) (node kind.ExprStmt (node kind.Call (t token.Label "k" (t token.Op "(" (node kind.Args
    (node kind.Number (t token.Int "4" none) none) (t token.Op ")" none)))) (t token.Semi ";" none)) (node
    kind.IfAlt (t token.Keyword "if" (t token.Op "(" (node kind.Constant (t token.Label "false" none) (t token.Op
    ")" (t token.Op ":" (node kind.Echo (t token.Keyword "echo" (node kind.Text (t token.Text "\"x\"" none) (t
    token.Semi ";" none))) (t token.Keyword "endif" (t token.Semi ";" none)))))))) (node kind.Echo (t
    token.Keyword "echo" (node kind.Text (t token.Text "\"end\"" none) (t token.Semi ";" none))) none)))))))

if_with_colons : Comes 200 (file if_with_colons_tree) (file if_with_colons_tree) (codes "a.php")
    ((codes "onetwomanyend"), ended)
    ((codes "onetwomanyend"), ended)
unfolding builtin_rows named_constants word_constants is_same_name newer_functions newer_classes newer_constants beyond_functions beyond_classes beyond_constants
if_with_colons = (refl, refl)

-- <?php for ($i = 0; $i < 2; $i++): echo $i; endfor; foreach ([3, 4] as $k => $v): echo $k, $v; endforeach; while ($i
--  > 0): $i--; echo $i; endwhile; switch ($i): case 1: echo "one"; break; case 0: echo "zero"; endswitch;
abbrev loops_with_colons_tree : Forest
loops_with_colons_tree =
    (node kind.For (t token.Keyword "for" (t token.Op "(" (node kind.Assign (node kind.Variable (t token.Variable
    "$i" none) (t token.Op "=" (node kind.Number (t token.Int "0" none) none))) (t token.Semi ";" (node
    kind.Binary (node kind.Variable (t token.Variable "$i" none) (t token.Op "<" (node kind.Number (t token.Int
    "2" none) none))) (t token.Semi ";" (node kind.Postfix (node kind.Variable (t token.Variable "$i" none) (t
    token.Op "++" none)) (t token.Op ")" (t token.Op ":" (node kind.Echo (t token.Keyword "echo" (node
    kind.Variable (t token.Variable "$i" none) (t token.Semi ";" none))) (t token.Keyword "endfor" (t token.Semi
    ";" none)))))))))))) (node kind.Foreach (t token.Keyword "foreach" (t token.Op "(" (node kind.Array (t
    token.Op "[" (node kind.Item (node kind.Number (t token.Int "3" none) none) (t token.Op "," (node kind.Item
    (node kind.Number (t token.Int "4" none) none) (t token.Op "]" none))))) (t token.Keyword "as" (node
    kind.Variable (t token.Variable "$k" none) (t token.Op "=>" (node kind.Variable (t token.Variable "$v" none)
    (t token.Op ")" (t token.Op ":" (node kind.Echo (t token.Keyword "echo" (node kind.Variable (t token.Variable
    "$k" none) (t token.Op "," (node kind.Variable (t token.Variable "$v" none) (t token.Semi ";" none))))) (t
    token.Keyword "endforeach" (t token.Semi ";" none)))))))))))) (node kind.While (t token.Keyword "while" (t
    token.Op "(" (node kind.Binary (node kind.Variable (t token.Variable "$i" none) (t token.Op ">" (node
    kind.Number (t token.Int "0" none) none))) (t token.Op ")" (t token.Op ":" (node kind.ExprStmt (node
    kind.Postfix (node kind.Variable (t token.Variable "$i" none) (t token.Op "--" none)) (t token.Semi ";" none))
    (node kind.Echo (t token.Keyword "echo" (node kind.Variable (t token.Variable "$i" none) (t token.Semi ";"
    none))) (t token.Keyword "endwhile" (t token.Semi ";" none))))))))) (node kind.Switch (t token.Keyword
    "switch" (t token.Op "(" (node kind.Variable (t token.Variable "$i" none) (t token.Op ")" (t token.Op ":"
    (node kind.Case (t token.Keyword "case" (node kind.Number (t token.Int "1" none) (t token.Op ":" (node
    kind.Echo (t token.Keyword "echo" (node kind.Text (t token.Text "\"one\"" none) (t token.Semi ";" none)))
    (node kind.Break (t token.Keyword "break" (t token.Semi ";" none)) none))))) (node kind.Case (t token.Keyword
    "case" (node kind.Number (t token.Int "0" none) (t token.Op ":" (node kind.Echo (t token.Keyword "echo" (node
    kind.Text (t token.Text "\"zero\"" none) (t token.Semi ";" none))) none)))) (t token.Keyword "endswitch" (t
    token.Semi ";" none))))))))) none))))

loops_with_colons : Comes 200 (file loops_with_colons_tree) (file loops_with_colons_tree) (codes "a.php")
    ((codes "01031410zero"), ended)
    ((codes "01031410zero"), ended)
unfolding builtin_rows named_constants word_constants is_same_name newer_functions newer_classes newer_constants beyond_functions beyond_classes beyond_constants
loops_with_colons = (refl, refl)

-- <?php interface I {} class A implements I {} class B extends A {} $b = new B; $n = "A"; $a = new A; echo $b
--  instanceof $n ? 1 : 2, $a instanceof $b ? 1 : 2, $b instanceof $a ? 1 : 2, 5 instanceof $a ? 1 : 2, $b instanceof
--  I ? 1 : 2, $b instanceof Missing ? 1 : 2; $m = "\\I"; echo $a instanceof $m ? 1 : 2;
abbrev instance_of_values_tree : Forest
instance_of_values_tree =
    (node kind.Interface (t token.Keyword "interface" (t token.Label "I" (t token.Op "{" (t token.Op "}" none))))
    (node kind.Class (t token.Keyword "class" (t token.Label "A" (t token.Keyword "implements" (t token.Label "I"
    (t token.Op "{" (t token.Op "}" none)))))) (node kind.Class (t token.Keyword "class" (t token.Label "B" (t
    token.Keyword "extends" (t token.Label "A" (t token.Op "{" (t token.Op "}" none)))))) (node kind.ExprStmt
    (node kind.Assign (node kind.Variable (t token.Variable "$b" none) (t token.Op "=" (node kind.New (t
    token.Keyword "new" (t token.Label "B" none)) none))) (t token.Semi ";" none)) (node kind.ExprStmt (node
    kind.Assign (node kind.Variable (t token.Variable "$n" none) (t token.Op "=" (node kind.Text (t token.Text
    "\"A\"" none) none))) (t token.Semi ";" none)) (node kind.ExprStmt (node kind.Assign (node kind.Variable (t
    token.Variable "$a" none) (t token.Op "=" (node kind.New (t token.Keyword "new" (t token.Label "A" none))
    none))) (t token.Semi ";" none)) (node kind.Echo (t token.Keyword "echo" (node kind.Ternary (node
    kind.InstanceOf (node kind.Variable (t token.Variable "$b" none) (t token.Keyword "instanceof" (node
    kind.Variable (t token.Variable "$n" none) none))) (t token.Op "?" (node kind.Number (t token.Int "1" none) (t
    token.Op ":" (node kind.Number (t token.Int "2" none) none))))) (t token.Op "," (node kind.Ternary (node
    kind.InstanceOf (node kind.Variable (t token.Variable "$a" none) (t token.Keyword "instanceof" (node
    kind.Variable (t token.Variable "$b" none) none))) (t token.Op "?" (node kind.Number (t token.Int "1" none) (t
    token.Op ":" (node kind.Number (t token.Int "2" none) none))))) (t token.Op "," (node kind.Ternary (node
    kind.InstanceOf (node kind.Variable (t token.Variable "$b" none) (t token.Keyword "instanceof" (node
    kind.Variable (t token.Variable "$a" none) none))) (t token.Op "?" (node kind.Number (t token.Int "1" none) (t
    token.Op ":" (node kind.Number (t token.Int "2" none) none))))) (t token.Op "," (node kind.Ternary (node
    kind.InstanceOf (node kind.Number (t token.Int "5" none) (t token.Keyword "instanceof" (node kind.Variable (t
    token.Variable "$a" none) none))) (t token.Op "?" (node kind.Number (t token.Int "1" none) (t token.Op ":"
    (node kind.Number (t token.Int "2" none) none))))) (t token.Op "," (node kind.Ternary (node kind.InstanceOf
    (node kind.Variable (t token.Variable "$b" none) (t token.Keyword "instanceof" (t token.Label "I" none))) (t
    token.Op "?" (node kind.Number (t token.Int "1" none) (t token.Op ":" (node kind.Number (t token.Int "2" none)
    none))))) (t token.Op "," (node kind.Ternary (node kind.InstanceOf (node kind.Variable (t token.Variable "$b"
    none) (t token.Keyword "instanceof" (t token.Label "Missing" none))) (t token.Op "?" (node kind.Number (t
    token.Int "1" none) (t token.Op ":" (node kind.Number (t token.Int "2" none) none))))) (t token.Semi ";"
    none))))))))))))) (node kind.ExprStmt (node kind.Assign (node kind.Variable (t token.Variable "$m" none) (t
    token.Op "=" (node kind.Text (t token.Text "\"\\\\I\"" none) none))) (t token.Semi ";" none)) (node kind.Echo
    (t token.Keyword "echo" (node kind.Ternary (node kind.InstanceOf (node kind.Variable (t token.Variable "$a"
    none) (t token.Keyword "instanceof" (node kind.Variable (t token.Variable "$m" none) none))) (t token.Op "?"
    (node kind.Number (t token.Int "1" none) (t token.Op ":" (node kind.Number (t token.Int "2" none) none))))) (t
    token.Semi ";" none))) none)))))))))

instance_of_values : Comes 200 (file instance_of_values_tree) (file instance_of_values_tree) (codes "a.php")
    ((codes "1212121"), ended)
    ((codes "1212121"), ended)
unfolding builtin_rows named_constants word_constants is_same_name newer_functions newer_classes newer_constants beyond_functions beyond_classes beyond_constants
instance_of_values = (refl, refl)

-- <?php class A {} $a = new A; $n = 5; try { echo $a instanceof $n; } catch (Error $e) { echo "error"; }
abbrev instance_of_an_int_throws_tree : Forest
instance_of_an_int_throws_tree =
    (node kind.Class (t token.Keyword "class" (t token.Label "A" (t token.Op "{" (t token.Op "}" none)))) (node
    kind.ExprStmt (node kind.Assign (node kind.Variable (t token.Variable "$a" none) (t token.Op "=" (node
    kind.New (t token.Keyword "new" (t token.Label "A" none)) none))) (t token.Semi ";" none)) (node kind.ExprStmt
    (node kind.Assign (node kind.Variable (t token.Variable "$n" none) (t token.Op "=" (node kind.Number (t
    token.Int "5" none) none))) (t token.Semi ";" none)) (node kind.Try (t token.Keyword "try" (node kind.Block (t
    token.Op "{" (node kind.Echo (t token.Keyword "echo" (node kind.InstanceOf (node kind.Variable (t
    token.Variable "$a" none) (t token.Keyword "instanceof" (node kind.Variable (t token.Variable "$n" none)
    none))) (t token.Semi ";" none))) (t token.Op "}" none))) (t token.Keyword "catch" (t token.Op "(" (t
    token.Label "Error" (t token.Variable "$e" (t token.Op ")" (node kind.Block (t token.Op "{" (node kind.Echo (t
    token.Keyword "echo" (node kind.Text (t token.Text "\"error\"" none) (t token.Semi ";" none))) (t token.Op "}"
    none))) none)))))))) none))))

instance_of_an_int_throws : Comes 200 (file instance_of_an_int_throws_tree) (file instance_of_an_int_throws_tree) (codes "a.php")
    ((codes "error"), ended)
    ((codes "error"), ended)
unfolding builtin_rows named_constants word_constants is_same_name newer_functions newer_classes newer_constants beyond_functions beyond_classes beyond_constants
instance_of_an_int_throws = (refl, refl)

-- <?php echo ~5, " ", ~-1, " ", ~"\xce";
abbrev bits_flipped_tree : Forest
bits_flipped_tree =
    (node kind.Echo (t token.Keyword "echo" (node kind.Prefix (t token.Op "~" (node kind.Number (t token.Int "5"
    none) none)) (t token.Op "," (node kind.Text (t token.Text "\" \"" none) (t token.Op "," (node kind.Prefix (t
    token.Op "~" (node kind.Prefix (t token.Op "-" (node kind.Number (t token.Int "1" none) none)) none)) (t
    token.Op "," (node kind.Text (t token.Text "\" \"" none) (t token.Op "," (node kind.Prefix (t token.Op "~"
    (node kind.Text (t token.Text "\"\\xce\"" none) none)) (t token.Semi ";" none))))))))))) none)

bits_flipped : Comes 200 (file bits_flipped_tree) (file bits_flipped_tree) (codes "a.php")
    ((codes "-6 0 1"), ended)
    ((codes "-6 0 1"), ended)
unfolding builtin_rows named_constants word_constants is_same_name newer_functions newer_classes newer_constants beyond_functions beyond_classes beyond_constants
bits_flipped = (refl, refl)

-- <?php function t($s, $b) { echo $s; return $b; } echo (t("a", true) xor t("b", false)) ? 1 : 2, (t("c", true) XOR
--  t("d", 7)) ? 1 : 2; $x = true xor true; echo $x ? "t" : "f";
abbrev one_alone_tree : Forest
one_alone_tree =
    (node kind.Function (t token.Keyword "function" (t token.Label "t" (t token.Op "(" (node kind.Param (t
    token.Variable "$s" none) (t token.Op "," (node kind.Param (t token.Variable "$b" none) (t token.Op ")" (node
    kind.Block (t token.Op "{" (node kind.Echo (t token.Keyword "echo" (node kind.Variable (t token.Variable "$s"
    none) (t token.Semi ";" none))) (node kind.Return (t token.Keyword "return" (node kind.Variable (t
    token.Variable "$b" none) (t token.Semi ";" none))) (t token.Op "}" none)))) none)))))))) (node kind.Echo (t
    token.Keyword "echo" (node kind.Ternary (node kind.Paren (t token.Op "(" (node kind.Binary (node kind.Call (t
    token.Label "t" (t token.Op "(" (node kind.Args (node kind.Text (t token.Text "\"a\"" none) (t token.Op ","
    (node kind.Constant (t token.Label "true" none) none))) (t token.Op ")" none)))) (t token.Keyword "xor" (node
    kind.Call (t token.Label "t" (t token.Op "(" (node kind.Args (node kind.Text (t token.Text "\"b\"" none) (t
    token.Op "," (node kind.Constant (t token.Label "false" none) none))) (t token.Op ")" none)))) none))) (t
    token.Op ")" none))) (t token.Op "?" (node kind.Number (t token.Int "1" none) (t token.Op ":" (node
    kind.Number (t token.Int "2" none) none))))) (t token.Op "," (node kind.Ternary (node kind.Paren (t token.Op
    "(" (node kind.Binary (node kind.Call (t token.Label "t" (t token.Op "(" (node kind.Args (node kind.Text (t
    token.Text "\"c\"" none) (t token.Op "," (node kind.Constant (t token.Label "true" none) none))) (t token.Op
    ")" none)))) (t token.Keyword "XOR" (node kind.Call (t token.Label "t" (t token.Op "(" (node kind.Args (node
    kind.Text (t token.Text "\"d\"" none) (t token.Op "," (node kind.Number (t token.Int "7" none) none))) (t
    token.Op ")" none)))) none))) (t token.Op ")" none))) (t token.Op "?" (node kind.Number (t token.Int "1" none)
    (t token.Op ":" (node kind.Number (t token.Int "2" none) none))))) (t token.Semi ";" none))))) (node
    kind.ExprStmt (node kind.Binary (node kind.Assign (node kind.Variable (t token.Variable "$x" none) (t token.Op
    "=" (node kind.Constant (t token.Label "true" none) none))) (t token.Keyword "xor" (node kind.Constant (t
    token.Label "true" none) none))) (t token.Semi ";" none)) (node kind.Echo (t token.Keyword "echo" (node
    kind.Ternary (node kind.Variable (t token.Variable "$x" none) (t token.Op "?" (node kind.Text (t token.Text
    "\"t\"" none) (t token.Op ":" (node kind.Text (t token.Text "\"f\"" none) none))))) (t token.Semi ";" none)))
    none))))

one_alone : Comes 200 (file one_alone_tree) (file one_alone_tree) (codes "a.php")
    ((codes "ab1cd2t"), ended)
    ((codes "ab1cd2t"), ended)
unfolding builtin_rows named_constants word_constants is_same_name newer_functions newer_classes newer_constants beyond_functions beyond_classes beyond_constants
one_alone = (refl, refl)

-- <?php $a = null; $a ??= "x"; $a ??= "y"; $b["k"] ??= 1; $b["k"] ??= 2; class C { public $p; static $s; } $o = new
--  C; $o->p ??= 3; $o->p ??= 4; $o->q[1]["z"] ??= 5; C::$s ??= 6; C::$s ??= 7; function f() { echo "f"; return 8; }
--  $o->p ??= f(); $c ??= f(); echo $a, $b["k"], $o->p, $o->q[1]["z"], C::$s, $c;
abbrev assigned_where_null_tree : Forest
assigned_where_null_tree =
    (node kind.ExprStmt (node kind.Assign (node kind.Variable (t token.Variable "$a" none) (t token.Op "=" (node
    kind.Constant (t token.Label "null" none) none))) (t token.Semi ";" none)) (node kind.ExprStmt (node
    kind.CompoundAssign (node kind.Variable (t token.Variable "$a" none) (t token.Op "??=" (node kind.Text (t
    token.Text "\"x\"" none) none))) (t token.Semi ";" none)) (node kind.ExprStmt (node kind.CompoundAssign (node
    kind.Variable (t token.Variable "$a" none) (t token.Op "??=" (node kind.Text (t token.Text "\"y\"" none)
    none))) (t token.Semi ";" none)) (node kind.ExprStmt (node kind.CompoundAssign (node kind.Offset (node
    kind.Variable (t token.Variable "$b" none) (t token.Op "[" (node kind.Text (t token.Text "\"k\"" none) (t
    token.Op "]" none)))) (t token.Op "??=" (node kind.Number (t token.Int "1" none) none))) (t token.Semi ";"
    none)) (node kind.ExprStmt (node kind.CompoundAssign (node kind.Offset (node kind.Variable (t token.Variable
    "$b" none) (t token.Op "[" (node kind.Text (t token.Text "\"k\"" none) (t token.Op "]" none)))) (t token.Op
    "??=" (node kind.Number (t token.Int "2" none) none))) (t token.Semi ";" none)) (node kind.Class (t
    token.Keyword "class" (t token.Label "C" (t token.Op "{" (node kind.Property (t token.Keyword "public" (t
    token.Variable "$p" (t token.Semi ";" none))) (node kind.Property (t token.Keyword "static" (t token.Variable
    "$s" (t token.Semi ";" none))) (t token.Op "}" none)))))) (node kind.ExprStmt (node kind.Assign (node
    kind.Variable (t token.Variable "$o" none) (t token.Op "=" (node kind.New (t token.Keyword "new" (t
    token.Label "C" none)) none))) (t token.Semi ";" none)) (node kind.ExprStmt (node kind.CompoundAssign (node
    kind.Prop (node kind.Variable (t token.Variable "$o" none) (t token.Op "->" (t token.Label "p" none))) (t
    token.Op "??=" (node kind.Number (t token.Int "3" none) none))) (t token.Semi ";" none)) (node kind.ExprStmt
    (node kind.CompoundAssign (node kind.Prop (node kind.Variable (t token.Variable "$o" none) (t token.Op "->" (t
    token.Label "p" none))) (t token.Op "??=" (node kind.Number (t token.Int "4" none) none))) (t token.Semi ";"
    none)) (node kind.ExprStmt (node kind.CompoundAssign (node kind.Offset (node kind.Offset (node kind.Prop (node
    kind.Variable (t token.Variable "$o" none) (t token.Op "->" (t token.Label "q" none))) (t token.Op "[" (node
    kind.Number (t token.Int "1" none) (t token.Op "]" none)))) (t token.Op "[" (node kind.Text (t token.Text
    "\"z\"" none) (t token.Op "]" none)))) (t token.Op "??=" (node kind.Number (t token.Int "5" none) none))) (t
    token.Semi ";" none)) (node kind.ExprStmt (node kind.CompoundAssign (node kind.StaticProp (t token.Label "C"
    (t token.Op "::" (t token.Variable "$s" none))) (t token.Op "??=" (node kind.Number (t token.Int "6" none)
    none))) (t token.Semi ";" none)) (node kind.ExprStmt (node kind.CompoundAssign (node kind.StaticProp (t
    token.Label "C" (t token.Op "::" (t token.Variable "$s" none))) (t token.Op "??=" (node kind.Number (t
    token.Int "7" none) none))) (t token.Semi ";" none)) (node kind.Function (t token.Keyword "function" (t
    token.Label "f" (t token.Op "(" (t token.Op ")" (node kind.Block (t token.Op "{" (node kind.Echo (t
    token.Keyword "echo" (node kind.Text (t token.Text "\"f\"" none) (t token.Semi ";" none))) (node kind.Return
    (t token.Keyword "return" (node kind.Number (t token.Int "8" none) (t token.Semi ";" none))) (t token.Op "}"
    none)))) none))))) (node kind.ExprStmt (node kind.CompoundAssign (node kind.Prop (node kind.Variable (t
    token.Variable "$o" none) (t token.Op "->" (t token.Label "p" none))) (t token.Op "??=" (node kind.Call (t
    token.Label "f" (t token.Op "(" (node kind.Args none (t token.Op ")" none)))) none))) (t token.Semi ";" none))
    (node kind.ExprStmt (node kind.CompoundAssign (node kind.Variable (t token.Variable "$c" none) (t token.Op
    "??=" (node kind.Call (t token.Label "f" (t token.Op "(" (node kind.Args none (t token.Op ")" none)))) none)))
    (t token.Semi ";" none)) (node kind.Echo (t token.Keyword "echo" (node kind.Variable (t token.Variable "$a"
    none) (t token.Op "," (node kind.Offset (node kind.Variable (t token.Variable "$b" none) (t token.Op "[" (node
    kind.Text (t token.Text "\"k\"" none) (t token.Op "]" none)))) (t token.Op "," (node kind.Prop (node
    kind.Variable (t token.Variable "$o" none) (t token.Op "->" (t token.Label "p" none))) (t token.Op "," (node
    kind.Offset (node kind.Offset (node kind.Prop (node kind.Variable (t token.Variable "$o" none) (t token.Op
    "->" (t token.Label "q" none))) (t token.Op "[" (node kind.Number (t token.Int "1" none) (t token.Op "]"
    none)))) (t token.Op "[" (node kind.Text (t token.Text "\"z\"" none) (t token.Op "]" none)))) (t token.Op ","
    (node kind.StaticProp (t token.Label "C" (t token.Op "::" (t token.Variable "$s" none))) (t token.Op "," (node
    kind.Variable (t token.Variable "$c" none) (t token.Semi ";" none))))))))))))) none))))))))))))))))

assigned_where_null : Comes 200 (file assigned_where_null_tree) (file assigned_where_null_tree) (codes "a.php")
    ((codes "fx13568"), ended)
    ((codes "fx13568"), ended)
unfolding builtin_rows named_constants word_constants is_same_name newer_functions newer_classes newer_constants beyond_functions beyond_classes beyond_constants
assigned_where_null = (refl, refl)

-- <?php $o = new stdClass; $o->a = 1; $o->b[] = 2; $p = new \STDCLASS; echo $o->a, $o->b[0], isset($o->c) ? 1 : 2, $o
--  instanceof stdClass ? 1 : 2; class A extends stdClass {} echo (new A) instanceof stdClass ? 1 : 2;
abbrev objects_without_a_class_tree : Forest
objects_without_a_class_tree =
    (node kind.ExprStmt (node kind.Assign (node kind.Variable (t token.Variable "$o" none) (t token.Op "=" (node
    kind.New (t token.Keyword "new" (t token.Label "stdClass" none)) none))) (t token.Semi ";" none)) (node
    kind.ExprStmt (node kind.Assign (node kind.Prop (node kind.Variable (t token.Variable "$o" none) (t token.Op
    "->" (t token.Label "a" none))) (t token.Op "=" (node kind.Number (t token.Int "1" none) none))) (t token.Semi
    ";" none)) (node kind.ExprStmt (node kind.Assign (node kind.Offset (node kind.Prop (node kind.Variable (t
    token.Variable "$o" none) (t token.Op "->" (t token.Label "b" none))) (t token.Op "[" (t token.Op "]" none)))
    (t token.Op "=" (node kind.Number (t token.Int "2" none) none))) (t token.Semi ";" none)) (node kind.ExprStmt
    (node kind.Assign (node kind.Variable (t token.Variable "$p" none) (t token.Op "=" (node kind.New (t
    token.Keyword "new" (t token.Op "\\" (t token.Label "STDCLASS" none))) none))) (t token.Semi ";" none)) (node
    kind.Echo (t token.Keyword "echo" (node kind.Prop (node kind.Variable (t token.Variable "$o" none) (t token.Op
    "->" (t token.Label "a" none))) (t token.Op "," (node kind.Offset (node kind.Prop (node kind.Variable (t
    token.Variable "$o" none) (t token.Op "->" (t token.Label "b" none))) (t token.Op "[" (node kind.Number (t
    token.Int "0" none) (t token.Op "]" none)))) (t token.Op "," (node kind.Ternary (node kind.Isset (t
    token.Keyword "isset" (t token.Op "(" (node kind.Prop (node kind.Variable (t token.Variable "$o" none) (t
    token.Op "->" (t token.Label "c" none))) (t token.Op ")" none)))) (t token.Op "?" (node kind.Number (t
    token.Int "1" none) (t token.Op ":" (node kind.Number (t token.Int "2" none) none))))) (t token.Op "," (node
    kind.Ternary (node kind.InstanceOf (node kind.Variable (t token.Variable "$o" none) (t token.Keyword
    "instanceof" (t token.Label "stdClass" none))) (t token.Op "?" (node kind.Number (t token.Int "1" none) (t
    token.Op ":" (node kind.Number (t token.Int "2" none) none))))) (t token.Semi ";" none))))))))) (node
    kind.Class (t token.Keyword "class" (t token.Label "A" (t token.Keyword "extends" (t token.Label "stdClass" (t
    token.Op "{" (t token.Op "}" none)))))) (node kind.Echo (t token.Keyword "echo" (node kind.Ternary (node
    kind.InstanceOf (node kind.Paren (t token.Op "(" (node kind.New (t token.Keyword "new" (t token.Label "A"
    none)) (t token.Op ")" none))) (t token.Keyword "instanceof" (t token.Label "stdClass" none))) (t token.Op "?"
    (node kind.Number (t token.Int "1" none) (t token.Op ":" (node kind.Number (t token.Int "2" none) none))))) (t
    token.Semi ";" none))) none)))))))

abbrev objects_without_a_class_new_tree : Forest
objects_without_a_class_new_tree =
    (node kind.ExprStmt (node kind.Assign (node kind.Variable (t token.Variable "$o" none) (t token.Op "=" (node
    kind.New (t token.Keyword "new" (t token.Label "stdClass" none)) none))) (t token.Semi ";" none)) (node
    kind.ExprStmt (node kind.Assign (node kind.Prop (node kind.Variable (t token.Variable "$o" none) (t token.Op
    "->" (t token.Label "a" none))) (t token.Op "=" (node kind.Number (t token.Int "1" none) none))) (t token.Semi
    ";" none)) (node kind.ExprStmt (node kind.Assign (node kind.Offset (node kind.Prop (node kind.Variable (t
    token.Variable "$o" none) (t token.Op "->" (t token.Label "b" none))) (t token.Op "[" (t token.Op "]" none)))
    (t token.Op "=" (node kind.Number (t token.Int "2" none) none))) (t token.Semi ";" none)) (node kind.ExprStmt
    (node kind.Assign (node kind.Variable (t token.Variable "$p" none) (t token.Op "=" (node kind.New (t
    token.Keyword "new" (t token.Name "\\STDCLASS" none)) none))) (t token.Semi ";" none)) (node kind.Echo (t
    token.Keyword "echo" (node kind.Prop (node kind.Variable (t token.Variable "$o" none) (t token.Op "->" (t
    token.Label "a" none))) (t token.Op "," (node kind.Offset (node kind.Prop (node kind.Variable (t
    token.Variable "$o" none) (t token.Op "->" (t token.Label "b" none))) (t token.Op "[" (node kind.Number (t
    token.Int "0" none) (t token.Op "]" none)))) (t token.Op "," (node kind.Ternary (node kind.Isset (t
    token.Keyword "isset" (t token.Op "(" (node kind.Prop (node kind.Variable (t token.Variable "$o" none) (t
    token.Op "->" (t token.Label "c" none))) (t token.Op ")" none)))) (t token.Op "?" (node kind.Number (t
    token.Int "1" none) (t token.Op ":" (node kind.Number (t token.Int "2" none) none))))) (t token.Op "," (node
    kind.Ternary (node kind.InstanceOf (node kind.Variable (t token.Variable "$o" none) (t token.Keyword
    "instanceof" (t token.Label "stdClass" none))) (t token.Op "?" (node kind.Number (t token.Int "1" none) (t
    token.Op ":" (node kind.Number (t token.Int "2" none) none))))) (t token.Semi ";" none))))))))) (node
    kind.Class (t token.Keyword "class" (t token.Label "A" (t token.Keyword "extends" (t token.Label "stdClass" (t
    token.Op "{" (t token.Op "}" none)))))) (node kind.Echo (t token.Keyword "echo" (node kind.Ternary (node
    kind.InstanceOf (node kind.Paren (t token.Op "(" (node kind.New (t token.Keyword "new" (t token.Label "A"
    none)) (t token.Op ")" none))) (t token.Keyword "instanceof" (t token.Label "stdClass" none))) (t token.Op "?"
    (node kind.Number (t token.Int "1" none) (t token.Op ":" (node kind.Number (t token.Int "2" none) none))))) (t
    token.Semi ";" none))) none)))))))

objects_without_a_class : Comes 200 (file objects_without_a_class_tree) (file objects_without_a_class_new_tree) (codes "a.php")
    ((codes "12211"), ended)
    ((codes "12211"), ended)
unfolding builtin_rows named_constants word_constants is_same_name newer_functions newer_classes newer_constants beyond_functions beyond_classes beyond_constants
objects_without_a_class = (refl, refl)

-- <?php declare(strict_types=1); function f(int $i): string { return "n" . $i; } echo f(3);
abbrev strictness_declared_tree : Forest
strictness_declared_tree =
    (node kind.Declare (t token.Keyword "declare" (t token.Op "(" (t token.Label "strict_types" (t token.Op "="
    (node kind.Number (t token.Int "1" none) (t token.Op ")" (node kind.Empty (t token.Semi ";" none) none)))))))
    (node kind.Function (t token.Keyword "function" (t token.Label "f" (t token.Op "(" (node kind.Param (node
    kind.TypeName (t token.Label "int" none) (t token.Variable "$i" none)) (t token.Op ")" (t token.Op ":" (node
    kind.TypeName (t token.Label "string" none) (node kind.Block (t token.Op "{" (node kind.Return (t
    token.Keyword "return" (node kind.Binary (node kind.Text (t token.Text "\"n\"" none) (t token.Op "." (node
    kind.Variable (t token.Variable "$i" none) none))) (t token.Semi ";" none))) (t token.Op "}" none)))
    none)))))))) (node kind.Echo (t token.Keyword "echo" (node kind.Call (t token.Label "f" (t token.Op "(" (node
    kind.Args (node kind.Number (t token.Int "3" none) none) (t token.Op ")" none)))) (t token.Semi ";" none)))
    none)))

strictness_declared : Comes 200 (file strictness_declared_tree) (file strictness_declared_tree) (codes "a.php")
    ((codes "n3"), ended)
    ((codes "n3"), ended)
unfolding builtin_rows named_constants word_constants is_same_name newer_functions newer_classes newer_constants beyond_functions beyond_classes beyond_constants
strictness_declared = (refl, refl)

-- <?php echo 1; declare(ticks=1) { echo 2; }
abbrev ticks_declared_tree : Forest
ticks_declared_tree =
    (node kind.Echo (t token.Keyword "echo" (node kind.Number (t token.Int "1" none) (t token.Semi ";" none)))
    (node kind.Declare (t token.Keyword "declare" (t token.Op "(" (t token.Label "ticks" (t token.Op "=" (node
    kind.Number (t token.Int "1" none) (t token.Op ")" (node kind.Block (t token.Op "{" (node kind.Echo (t
    token.Keyword "echo" (node kind.Number (t token.Int "2" none) (t token.Semi ";" none))) (t token.Op "}"
    none))) none))))))) none))

ticks_declared : Comes 200 (file ticks_declared_tree) (file ticks_declared_tree) (codes "a.php")
    ((codes "1"), outside NoRule)
    ((codes "1"), outside NoRule)
unfolding builtin_rows named_constants word_constants is_same_name newer_functions newer_classes newer_constants beyond_functions beyond_classes beyond_constants
ticks_declared = (refl, refl)

-- <?php interface I { const A = 1, B = self::A + 1; } interface J extends I { const C = I::B + 1; } abstract class P
--  implements J { abstract function m(); } class Q extends P { function m() { return self::A . static::B . parent::C
--  . J::A . Q::C; } } echo (new Q)->m();
abbrev interfaces_constants_tree : Forest
interfaces_constants_tree =
    (node kind.Interface (t token.Keyword "interface" (t token.Label "I" (t token.Op "{" (node kind.ClassConst (t
    token.Keyword "const" (t token.Label "A" (t token.Op "=" (node kind.Number (t token.Int "1" none) (t token.Op
    "," (t token.Label "B" (t token.Op "=" (node kind.Binary (node kind.ClassConstant (t token.Label "self" (t
    token.Op "::" (t token.Label "A" none))) (t token.Op "+" (node kind.Number (t token.Int "1" none) none))) (t
    token.Semi ";" none))))))))) (t token.Op "}" none))))) (node kind.Interface (t token.Keyword "interface" (t
    token.Label "J" (t token.Keyword "extends" (t token.Label "I" (t token.Op "{" (node kind.ClassConst (t
    token.Keyword "const" (t token.Label "C" (t token.Op "=" (node kind.Binary (node kind.ClassConstant (t
    token.Label "I" (t token.Op "::" (t token.Label "B" none))) (t token.Op "+" (node kind.Number (t token.Int "1"
    none) none))) (t token.Semi ";" none))))) (t token.Op "}" none))))))) (node kind.Class (t token.Keyword
    "abstract" (t token.Keyword "class" (t token.Label "P" (t token.Keyword "implements" (t token.Label "J" (t
    token.Op "{" (node kind.Method (t token.Keyword "abstract" (t token.Keyword "function" (t token.Label "m" (t
    token.Op "(" (t token.Op ")" (t token.Semi ";" none)))))) (t token.Op "}" none)))))))) (node kind.Class (t
    token.Keyword "class" (t token.Label "Q" (t token.Keyword "extends" (t token.Label "P" (t token.Op "{" (node
    kind.Method (t token.Keyword "function" (t token.Label "m" (t token.Op "(" (t token.Op ")" (node kind.Block (t
    token.Op "{" (node kind.Return (t token.Keyword "return" (node kind.Binary (node kind.Binary (node kind.Binary
    (node kind.Binary (node kind.ClassConstant (t token.Label "self" (t token.Op "::" (t token.Label "A" none)))
    (t token.Op "." (node kind.ClassConstant (t token.Keyword "static" (t token.Op "::" (t token.Label "B" none)))
    none))) (t token.Op "." (node kind.ClassConstant (t token.Label "parent" (t token.Op "::" (t token.Label "C"
    none))) none))) (t token.Op "." (node kind.ClassConstant (t token.Label "J" (t token.Op "::" (t token.Label
    "A" none))) none))) (t token.Op "." (node kind.ClassConstant (t token.Label "Q" (t token.Op "::" (t
    token.Label "C" none))) none))) (t token.Semi ";" none))) (t token.Op "}" none))) none))))) (t token.Op "}"
    none))))))) (node kind.Echo (t token.Keyword "echo" (node kind.MethodCall (node kind.Paren (t token.Op "("
    (node kind.New (t token.Keyword "new" (t token.Label "Q" none)) (t token.Op ")" none))) (t token.Op "->" (t
    token.Label "m" (t token.Op "(" (node kind.Args none (t token.Op ")" none)))))) (t token.Semi ";" none)))
    none)))))

interfaces_constants : Comes 200 (file interfaces_constants_tree) (file interfaces_constants_tree) (codes "a.php")
    ((codes "12313"), ended)
    ((codes "12313"), ended)
unfolding builtin_rows named_constants word_constants is_same_name newer_functions newer_classes newer_constants beyond_functions beyond_classes beyond_constants
interfaces_constants = (refl, refl)

-- <?php interface I {} interface J {} interface K extends I, J {} class A implements K {} class B extends A {}
--  function f(J $j) { return $j instanceof I ? 1 : 2; } echo f(new B), (new B) instanceof K ? 1 : 2; class E extends
--  Exception implements I {} try { throw new E("m"); } catch (I $e) { echo $e->getMessage(); }
abbrev interfaces_by_interfaces_tree : Forest
interfaces_by_interfaces_tree =
    (node kind.Interface (t token.Keyword "interface" (t token.Label "I" (t token.Op "{" (t token.Op "}" none))))
    (node kind.Interface (t token.Keyword "interface" (t token.Label "J" (t token.Op "{" (t token.Op "}" none))))
    (node kind.Interface (t token.Keyword "interface" (t token.Label "K" (t token.Keyword "extends" (t token.Label
    "I" (t token.Op "," (t token.Label "J" (t token.Op "{" (t token.Op "}" none)))))))) (node kind.Class (t
    token.Keyword "class" (t token.Label "A" (t token.Keyword "implements" (t token.Label "K" (t token.Op "{" (t
    token.Op "}" none)))))) (node kind.Class (t token.Keyword "class" (t token.Label "B" (t token.Keyword
    "extends" (t token.Label "A" (t token.Op "{" (t token.Op "}" none)))))) (node kind.Function (t token.Keyword
    "function" (t token.Label "f" (t token.Op "(" (node kind.Param (node kind.TypeName (t token.Label "J" none) (t
    token.Variable "$j" none)) (t token.Op ")" (node kind.Block (t token.Op "{" (node kind.Return (t token.Keyword
    "return" (node kind.Ternary (node kind.InstanceOf (node kind.Variable (t token.Variable "$j" none) (t
    token.Keyword "instanceof" (t token.Label "I" none))) (t token.Op "?" (node kind.Number (t token.Int "1" none)
    (t token.Op ":" (node kind.Number (t token.Int "2" none) none))))) (t token.Semi ";" none))) (t token.Op "}"
    none))) none)))))) (node kind.Echo (t token.Keyword "echo" (node kind.Call (t token.Label "f" (t token.Op "("
    (node kind.Args (node kind.New (t token.Keyword "new" (t token.Label "B" none)) none) (t token.Op ")" none))))
    (t token.Op "," (node kind.Ternary (node kind.InstanceOf (node kind.Paren (t token.Op "(" (node kind.New (t
    token.Keyword "new" (t token.Label "B" none)) (t token.Op ")" none))) (t token.Keyword "instanceof" (t
    token.Label "K" none))) (t token.Op "?" (node kind.Number (t token.Int "1" none) (t token.Op ":" (node
    kind.Number (t token.Int "2" none) none))))) (t token.Semi ";" none))))) (node kind.Class (t token.Keyword
    "class" (t token.Label "E" (t token.Keyword "extends" (t token.Label "Exception" (t token.Keyword "implements"
    (t token.Label "I" (t token.Op "{" (t token.Op "}" none)))))))) (node kind.Try (t token.Keyword "try" (node
    kind.Block (t token.Op "{" (node kind.Throw (t token.Keyword "throw" (node kind.New (t token.Keyword "new" (t
    token.Label "E" (t token.Op "(" (node kind.Args (node kind.Text (t token.Text "\"m\"" none) none) (t token.Op
    ")" none))))) (t token.Semi ";" none))) (t token.Op "}" none))) (t token.Keyword "catch" (t token.Op "(" (t
    token.Label "I" (t token.Variable "$e" (t token.Op ")" (node kind.Block (t token.Op "{" (node kind.Echo (t
    token.Keyword "echo" (node kind.MethodCall (node kind.Variable (t token.Variable "$e" none) (t token.Op "->"
    (t token.Label "getMessage" (t token.Op "(" (node kind.Args none (t token.Op ")" none)))))) (t token.Semi ";"
    none))) (t token.Op "}" none))) none)))))))) none)))))))))

interfaces_by_interfaces : Comes 200 (file interfaces_by_interfaces_tree) (file interfaces_by_interfaces_tree) (codes "a.php")
    ((codes "11m"), ended)
    ((codes "11m"), ended)
unfolding builtin_rows named_constants word_constants is_same_name newer_functions newer_classes newer_constants beyond_functions beyond_classes beyond_constants
interfaces_by_interfaces = (refl, refl)

-- <?php abstract class Shape { abstract protected function area(); final public function show() { echo $this->area(),
--  ";"; } } final class Square extends Shape { private $n; function __construct($n) { $this->n = $n; } protected
--  function area() { return $this->n * $this->n; } } (new Square(3))->show(); try { new Shape; } catch (Error $e) {
--  echo "error"; } interface I {} try { new I; } catch (Error $e) { echo "error"; }
abbrev abstract_and_final_tree : Forest
abstract_and_final_tree =
    (node kind.Class (t token.Keyword "abstract" (t token.Keyword "class" (t token.Label "Shape" (t token.Op "{"
    (node kind.Method (t token.Keyword "abstract" (t token.Keyword "protected" (t token.Keyword "function" (t
    token.Label "area" (t token.Op "(" (t token.Op ")" (t token.Semi ";" none))))))) (node kind.Method (t
    token.Keyword "final" (t token.Keyword "public" (t token.Keyword "function" (t token.Label "show" (t token.Op
    "(" (t token.Op ")" (node kind.Block (t token.Op "{" (node kind.Echo (t token.Keyword "echo" (node
    kind.MethodCall (node kind.Variable (t token.Variable "$this" none) (t token.Op "->" (t token.Label "area" (t
    token.Op "(" (node kind.Args none (t token.Op ")" none)))))) (t token.Op "," (node kind.Text (t token.Text
    "\";\"" none) (t token.Semi ";" none))))) (t token.Op "}" none))) none))))))) (t token.Op "}" none)))))))
    (node kind.Class (t token.Keyword "final" (t token.Keyword "class" (t token.Label "Square" (t token.Keyword
    "extends" (t token.Label "Shape" (t token.Op "{" (node kind.Property (t token.Keyword "private" (t
    token.Variable "$n" (t token.Semi ";" none))) (node kind.Method (t token.Keyword "function" (t token.Label
    "__construct" (t token.Op "(" (node kind.Param (t token.Variable "$n" none) (t token.Op ")" (node kind.Block
    (t token.Op "{" (node kind.ExprStmt (node kind.Assign (node kind.Prop (node kind.Variable (t token.Variable
    "$this" none) (t token.Op "->" (t token.Label "n" none))) (t token.Op "=" (node kind.Variable (t
    token.Variable "$n" none) none))) (t token.Semi ";" none)) (t token.Op "}" none))) none)))))) (node
    kind.Method (t token.Keyword "protected" (t token.Keyword "function" (t token.Label "area" (t token.Op "(" (t
    token.Op ")" (node kind.Block (t token.Op "{" (node kind.Return (t token.Keyword "return" (node kind.Binary
    (node kind.Prop (node kind.Variable (t token.Variable "$this" none) (t token.Op "->" (t token.Label "n"
    none))) (t token.Op "*" (node kind.Prop (node kind.Variable (t token.Variable "$this" none) (t token.Op "->"
    (t token.Label "n" none))) none))) (t token.Semi ";" none))) (t token.Op "}" none))) none)))))) (t token.Op
    "}" none)))))))))) (node kind.ExprStmt (node kind.MethodCall (node kind.Paren (t token.Op "(" (node kind.New
    (t token.Keyword "new" (t token.Label "Square" (t token.Op "(" (node kind.Args (node kind.Number (t token.Int
    "3" none) none) (t token.Op ")" none))))) (t token.Op ")" none))) (t token.Op "->" (t token.Label "show" (t
    token.Op "(" (node kind.Args none (t token.Op ")" none)))))) (t token.Semi ";" none)) (node kind.Try (t
    token.Keyword "try" (node kind.Block (t token.Op "{" (node kind.ExprStmt (node kind.New (t token.Keyword "new"
    (t token.Label "Shape" none)) (t token.Semi ";" none)) (t token.Op "}" none))) (t token.Keyword "catch" (t
    token.Op "(" (t token.Label "Error" (t token.Variable "$e" (t token.Op ")" (node kind.Block (t token.Op "{"
    (node kind.Echo (t token.Keyword "echo" (node kind.Text (t token.Text "\"error\"" none) (t token.Semi ";"
    none))) (t token.Op "}" none))) none)))))))) (node kind.Interface (t token.Keyword "interface" (t token.Label
    "I" (t token.Op "{" (t token.Op "}" none)))) (node kind.Try (t token.Keyword "try" (node kind.Block (t
    token.Op "{" (node kind.ExprStmt (node kind.New (t token.Keyword "new" (t token.Label "I" none)) (t token.Semi
    ";" none)) (t token.Op "}" none))) (t token.Keyword "catch" (t token.Op "(" (t token.Label "Error" (t
    token.Variable "$e" (t token.Op ")" (node kind.Block (t token.Op "{" (node kind.Echo (t token.Keyword "echo"
    (node kind.Text (t token.Text "\"error\"" none) (t token.Semi ";" none))) (t token.Op "}" none))) none))))))))
    none))))))

abstract_and_final : Comes 200 (file abstract_and_final_tree) (file abstract_and_final_tree) (codes "a.php")
    ((codes "9;errorerror"), ended)
    ((codes "9;errorerror"), ended)
unfolding builtin_rows named_constants word_constants is_same_name newer_functions newer_classes newer_constants beyond_functions beyond_classes beyond_constants
abstract_and_final = (refl, refl)

-- <?php final class A {} if (true) { class B extends A {} }
abbrev final_class_extended_tree : Forest
final_class_extended_tree =
    (node kind.Class (t token.Keyword "final" (t token.Keyword "class" (t token.Label "A" (t token.Op "{" (t
    token.Op "}" none))))) (node kind.If (t token.Keyword "if" (t token.Op "(" (node kind.Constant (t token.Label
    "true" none) (t token.Op ")" (node kind.Block (t token.Op "{" (node kind.Class (t token.Keyword "class" (t
    token.Label "B" (t token.Keyword "extends" (t token.Label "A" (t token.Op "{" (t token.Op "}" none)))))) (t
    token.Op "}" none))) none))))) none))

final_class_extended : Comes 200 (file final_class_extended_tree) (file final_class_extended_tree) (codes "a.php")
    ((codes ""), outside Declaration)
    ((codes ""), outside Declaration)
unfolding builtin_rows named_constants word_constants is_same_name newer_functions newer_classes newer_constants beyond_functions beyond_classes beyond_constants
final_class_extended = (refl, refl)

-- <?php class A { final function m() {} } if (true) { class B extends A { function m() {} } }
abbrev final_method_overridden_tree : Forest
final_method_overridden_tree =
    (node kind.Class (t token.Keyword "class" (t token.Label "A" (t token.Op "{" (node kind.Method (t
    token.Keyword "final" (t token.Keyword "function" (t token.Label "m" (t token.Op "(" (t token.Op ")" (node
    kind.Block (t token.Op "{" (t token.Op "}" none)) none)))))) (t token.Op "}" none))))) (node kind.If (t
    token.Keyword "if" (t token.Op "(" (node kind.Constant (t token.Label "true" none) (t token.Op ")" (node
    kind.Block (t token.Op "{" (node kind.Class (t token.Keyword "class" (t token.Label "B" (t token.Keyword
    "extends" (t token.Label "A" (t token.Op "{" (node kind.Method (t token.Keyword "function" (t token.Label "m"
    (t token.Op "(" (t token.Op ")" (node kind.Block (t token.Op "{" (t token.Op "}" none)) none))))) (t token.Op
    "}" none))))))) (t token.Op "}" none))) none))))) none))

final_method_overridden : Comes 200 (file final_method_overridden_tree) (file final_method_overridden_tree) (codes "a.php")
    ((codes ""), outside Declaration)
    ((codes ""), outside Declaration)
unfolding builtin_rows named_constants word_constants is_same_name newer_functions newer_classes newer_constants beyond_functions beyond_classes beyond_constants
final_method_overridden = (refl, refl)

-- <?php class A { function m() {} } if (true) { class B extends A { protected function m() {} } }
abbrev less_visible_tree : Forest
less_visible_tree =
    (node kind.Class (t token.Keyword "class" (t token.Label "A" (t token.Op "{" (node kind.Method (t
    token.Keyword "function" (t token.Label "m" (t token.Op "(" (t token.Op ")" (node kind.Block (t token.Op "{"
    (t token.Op "}" none)) none))))) (t token.Op "}" none))))) (node kind.If (t token.Keyword "if" (t token.Op "("
    (node kind.Constant (t token.Label "true" none) (t token.Op ")" (node kind.Block (t token.Op "{" (node
    kind.Class (t token.Keyword "class" (t token.Label "B" (t token.Keyword "extends" (t token.Label "A" (t
    token.Op "{" (node kind.Method (t token.Keyword "protected" (t token.Keyword "function" (t token.Label "m" (t
    token.Op "(" (t token.Op ")" (node kind.Block (t token.Op "{" (t token.Op "}" none)) none)))))) (t token.Op
    "}" none))))))) (t token.Op "}" none))) none))))) none))

less_visible : Comes 200 (file less_visible_tree) (file less_visible_tree) (codes "a.php")
    ((codes ""), outside Declaration)
    ((codes ""), outside Declaration)
unfolding builtin_rows named_constants word_constants is_same_name newer_functions newer_classes newer_constants beyond_functions beyond_classes beyond_constants
less_visible = (refl, refl)

-- <?php class A { public $p; } if (true) { class B extends A { private $p; } }
abbrev property_less_visible_tree : Forest
property_less_visible_tree =
    (node kind.Class (t token.Keyword "class" (t token.Label "A" (t token.Op "{" (node kind.Property (t
    token.Keyword "public" (t token.Variable "$p" (t token.Semi ";" none))) (t token.Op "}" none))))) (node
    kind.If (t token.Keyword "if" (t token.Op "(" (node kind.Constant (t token.Label "true" none) (t token.Op ")"
    (node kind.Block (t token.Op "{" (node kind.Class (t token.Keyword "class" (t token.Label "B" (t token.Keyword
    "extends" (t token.Label "A" (t token.Op "{" (node kind.Property (t token.Keyword "private" (t token.Variable
    "$p" (t token.Semi ";" none))) (t token.Op "}" none))))))) (t token.Op "}" none))) none))))) none))

property_less_visible : Comes 200 (file property_less_visible_tree) (file property_less_visible_tree) (codes "a.php")
    ((codes ""), outside Declaration)
    ((codes ""), outside Declaration)
unfolding builtin_rows named_constants word_constants is_same_name newer_functions newer_classes newer_constants beyond_functions beyond_classes beyond_constants
property_less_visible = (refl, refl)

-- <?php abstract class A { abstract function m(); } if (true) { class B extends A {} }
abbrev abstract_method_missing_tree : Forest
abstract_method_missing_tree =
    (node kind.Class (t token.Keyword "abstract" (t token.Keyword "class" (t token.Label "A" (t token.Op "{" (node
    kind.Method (t token.Keyword "abstract" (t token.Keyword "function" (t token.Label "m" (t token.Op "(" (t
    token.Op ")" (t token.Semi ";" none)))))) (t token.Op "}" none)))))) (node kind.If (t token.Keyword "if" (t
    token.Op "(" (node kind.Constant (t token.Label "true" none) (t token.Op ")" (node kind.Block (t token.Op "{"
    (node kind.Class (t token.Keyword "class" (t token.Label "B" (t token.Keyword "extends" (t token.Label "A" (t
    token.Op "{" (t token.Op "}" none)))))) (t token.Op "}" none))) none))))) none))

abstract_method_missing : Comes 200 (file abstract_method_missing_tree) (file abstract_method_missing_tree) (codes "a.php")
    ((codes ""), outside Declaration)
    ((codes ""), outside Declaration)
unfolding builtin_rows named_constants word_constants is_same_name newer_functions newer_classes newer_constants beyond_functions beyond_classes beyond_constants
abstract_method_missing = (refl, refl)

-- <?php interface I { function m(); } if (true) { class B implements I {} }
abbrev interface_method_missing_tree : Forest
interface_method_missing_tree =
    (node kind.Interface (t token.Keyword "interface" (t token.Label "I" (t token.Op "{" (node kind.Method (t
    token.Keyword "function" (t token.Label "m" (t token.Op "(" (t token.Op ")" (t token.Semi ";" none))))) (t
    token.Op "}" none))))) (node kind.If (t token.Keyword "if" (t token.Op "(" (node kind.Constant (t token.Label
    "true" none) (t token.Op ")" (node kind.Block (t token.Op "{" (node kind.Class (t token.Keyword "class" (t
    token.Label "B" (t token.Keyword "implements" (t token.Label "I" (t token.Op "{" (t token.Op "}" none)))))) (t
    token.Op "}" none))) none))))) none))

interface_method_missing : Comes 200 (file interface_method_missing_tree) (file interface_method_missing_tree) (codes "a.php")
    ((codes ""), outside Declaration)
    ((codes ""), outside Declaration)
unfolding builtin_rows named_constants word_constants is_same_name newer_functions newer_classes newer_constants beyond_functions beyond_classes beyond_constants
interface_method_missing = (refl, refl)

-- <?php if (true) { class B implements Missing {} }
abbrev interface_missing_tree : Forest
interface_missing_tree =
    (node kind.If (t token.Keyword "if" (t token.Op "(" (node kind.Constant (t token.Label "true" none) (t
    token.Op ")" (node kind.Block (t token.Op "{" (node kind.Class (t token.Keyword "class" (t token.Label "B" (t
    token.Keyword "implements" (t token.Label "Missing" (t token.Op "{" (t token.Op "}" none)))))) (t token.Op "}"
    none))) none))))) none)

interface_missing : Comes 200 (file interface_missing_tree) (file interface_missing_tree) (codes "a.php")
    ((codes ""), outside Declaration)
    ((codes ""), outside Declaration)
unfolding builtin_rows named_constants word_constants is_same_name newer_functions newer_classes newer_constants beyond_functions beyond_classes beyond_constants
interface_missing = (refl, refl)

-- <?php class A {} if (true) { class B implements A {} }
abbrev class_as_interface_tree : Forest
class_as_interface_tree =
    (node kind.Class (t token.Keyword "class" (t token.Label "A" (t token.Op "{" (t token.Op "}" none)))) (node
    kind.If (t token.Keyword "if" (t token.Op "(" (node kind.Constant (t token.Label "true" none) (t token.Op ")"
    (node kind.Block (t token.Op "{" (node kind.Class (t token.Keyword "class" (t token.Label "B" (t token.Keyword
    "implements" (t token.Label "A" (t token.Op "{" (t token.Op "}" none)))))) (t token.Op "}" none))) none)))))
    none))

class_as_interface : Comes 200 (file class_as_interface_tree) (file class_as_interface_tree) (codes "a.php")
    ((codes ""), outside Declaration)
    ((codes ""), outside Declaration)
unfolding builtin_rows named_constants word_constants is_same_name newer_functions newer_classes newer_constants beyond_functions beyond_classes beyond_constants
class_as_interface = (refl, refl)

-- <?php if (true) { class B { abstract function m(); } }
abbrev abstract_in_a_plain_class_tree : Forest
abstract_in_a_plain_class_tree =
    (node kind.If (t token.Keyword "if" (t token.Op "(" (node kind.Constant (t token.Label "true" none) (t
    token.Op ")" (node kind.Block (t token.Op "{" (node kind.Class (t token.Keyword "class" (t token.Label "B" (t
    token.Op "{" (node kind.Method (t token.Keyword "abstract" (t token.Keyword "function" (t token.Label "m" (t
    token.Op "(" (t token.Op ")" (t token.Semi ";" none)))))) (t token.Op "}" none))))) (t token.Op "}" none)))
    none))))) none)

abstract_in_a_plain_class : Comes 200 (file abstract_in_a_plain_class_tree) (file abstract_in_a_plain_class_tree) (codes "a.php")
    ((codes ""), outside Declaration)
    ((codes ""), outside Declaration)
unfolding builtin_rows named_constants word_constants is_same_name newer_functions newer_classes newer_constants beyond_functions beyond_classes beyond_constants
abstract_in_a_plain_class = (refl, refl)

-- <?php interface I { const C = 1; } if (true) { class B implements I { const C = 2; } }
abbrev interface_constant_overridden_tree : Forest
interface_constant_overridden_tree =
    (node kind.Interface (t token.Keyword "interface" (t token.Label "I" (t token.Op "{" (node kind.ClassConst (t
    token.Keyword "const" (t token.Label "C" (t token.Op "=" (node kind.Number (t token.Int "1" none) (t
    token.Semi ";" none))))) (t token.Op "}" none))))) (node kind.If (t token.Keyword "if" (t token.Op "(" (node
    kind.Constant (t token.Label "true" none) (t token.Op ")" (node kind.Block (t token.Op "{" (node kind.Class (t
    token.Keyword "class" (t token.Label "B" (t token.Keyword "implements" (t token.Label "I" (t token.Op "{"
    (node kind.ClassConst (t token.Keyword "const" (t token.Label "C" (t token.Op "=" (node kind.Number (t
    token.Int "2" none) (t token.Semi ";" none))))) (t token.Op "}" none))))))) (t token.Op "}" none))) none)))))
    none))

interface_constant_overridden : Comes 200 (file interface_constant_overridden_tree) (file interface_constant_overridden_tree) (codes "a.php")
    ((codes ""), outside Declaration)
    ((codes ""), outside Declaration)
unfolding builtin_rows named_constants word_constants is_same_name newer_functions newer_classes newer_constants beyond_functions beyond_classes beyond_constants
interface_constant_overridden = (refl, refl)

-- <?php if (true) { class B { function m() {} function M() {} } }
abbrev member_twice_tree : Forest
member_twice_tree =
    (node kind.If (t token.Keyword "if" (t token.Op "(" (node kind.Constant (t token.Label "true" none) (t
    token.Op ")" (node kind.Block (t token.Op "{" (node kind.Class (t token.Keyword "class" (t token.Label "B" (t
    token.Op "{" (node kind.Method (t token.Keyword "function" (t token.Label "m" (t token.Op "(" (t token.Op ")"
    (node kind.Block (t token.Op "{" (t token.Op "}" none)) none))))) (node kind.Method (t token.Keyword
    "function" (t token.Label "M" (t token.Op "(" (t token.Op ")" (node kind.Block (t token.Op "{" (t token.Op "}"
    none)) none))))) (t token.Op "}" none)))))) (t token.Op "}" none))) none))))) none)

member_twice : Comes 200 (file member_twice_tree) (file member_twice_tree) (codes "a.php")
    ((codes ""), outside Declaration)
    ((codes ""), outside Declaration)
unfolding builtin_rows named_constants word_constants is_same_name newer_functions newer_classes newer_constants beyond_functions beyond_classes beyond_constants
member_twice = (refl, refl)

-- <?php if (true) { class B implements Throwable {} }
abbrev throwable_implemented_tree : Forest
throwable_implemented_tree =
    (node kind.If (t token.Keyword "if" (t token.Op "(" (node kind.Constant (t token.Label "true" none) (t
    token.Op ")" (node kind.Block (t token.Op "{" (node kind.Class (t token.Keyword "class" (t token.Label "B" (t
    token.Keyword "implements" (t token.Label "Throwable" (t token.Op "{" (t token.Op "}" none)))))) (t token.Op
    "}" none))) none))))) none)

throwable_implemented : Comes 200 (file throwable_implemented_tree) (file throwable_implemented_tree) (codes "a.php")
    ((codes ""), outside Declaration)
    ((codes ""), outside Declaration)
unfolding builtin_rows named_constants word_constants is_same_name newer_functions newer_classes newer_constants beyond_functions beyond_classes beyond_constants
throwable_implemented = (refl, refl)

-- <?php echo 1; new B; class A {} class B extends A {}
abbrev class_before_its_declaration_tree : Forest
class_before_its_declaration_tree =
    (node kind.Echo (t token.Keyword "echo" (node kind.Number (t token.Int "1" none) (t token.Semi ";" none)))
    (node kind.ExprStmt (node kind.New (t token.Keyword "new" (t token.Label "B" none)) (t token.Semi ";" none))
    (node kind.Class (t token.Keyword "class" (t token.Label "A" (t token.Op "{" (t token.Op "}" none)))) (node
    kind.Class (t token.Keyword "class" (t token.Label "B" (t token.Keyword "extends" (t token.Label "A" (t
    token.Op "{" (t token.Op "}" none)))))) none))))

class_before_its_declaration : Comes 200 (file class_before_its_declaration_tree) (file class_before_its_declaration_tree) (codes "a.php")
    ((codes "1"), outside Declaration)
    ((codes "1"), outside Declaration)
unfolding builtin_rows named_constants word_constants is_same_name newer_functions newer_classes newer_constants beyond_functions beyond_classes beyond_constants
class_before_its_declaration = (refl, refl)

-- <?php class A { public int $n = 1; public ?string $s = null; public array $a; private static int $c = 0; public
--  self $next; function __construct() { $this->a = [1]; self::$c++; } static function c() { return self::$c; } } $o =
--  new A; $o->n += 5; $o->s = "x"; $o->s .= "y"; $o->a[] = 2; $o->s ??= "z"; $o->next = new A; echo $o->n, $o->s,
--  $o->a[1], A::c(), isset($o->next->next) ? 1 : 2; $o->s = null; echo $o->s ?? "none"; unset($o->n); $o->n = 4; echo
--  $o->n;
abbrev typed_properties_tree : Forest
typed_properties_tree =
    (node kind.Class (t token.Keyword "class" (t token.Label "A" (t token.Op "{" (node kind.Property (t
    token.Keyword "public" (node kind.TypeName (t token.Label "int" none) (t token.Variable "$n" (t token.Op "="
    (node kind.Number (t token.Int "1" none) (t token.Semi ";" none)))))) (node kind.Property (t token.Keyword
    "public" (node kind.TypeName (t token.Op "?" (t token.Label "string" none)) (t token.Variable "$s" (t token.Op
    "=" (node kind.Constant (t token.Label "null" none) (t token.Semi ";" none)))))) (node kind.Property (t
    token.Keyword "public" (node kind.TypeName (t token.Keyword "array" none) (t token.Variable "$a" (t token.Semi
    ";" none)))) (node kind.Property (t token.Keyword "private" (t token.Keyword "static" (node kind.TypeName (t
    token.Label "int" none) (t token.Variable "$c" (t token.Op "=" (node kind.Number (t token.Int "0" none) (t
    token.Semi ";" none))))))) (node kind.Property (t token.Keyword "public" (node kind.TypeName (t token.Label
    "self" none) (t token.Variable "$next" (t token.Semi ";" none)))) (node kind.Method (t token.Keyword
    "function" (t token.Label "__construct" (t token.Op "(" (t token.Op ")" (node kind.Block (t token.Op "{" (node
    kind.ExprStmt (node kind.Assign (node kind.Prop (node kind.Variable (t token.Variable "$this" none) (t
    token.Op "->" (t token.Label "a" none))) (t token.Op "=" (node kind.Array (t token.Op "[" (node kind.Item
    (node kind.Number (t token.Int "1" none) none) (t token.Op "]" none))) none))) (t token.Semi ";" none)) (node
    kind.ExprStmt (node kind.Postfix (node kind.StaticProp (t token.Label "self" (t token.Op "::" (t
    token.Variable "$c" none))) (t token.Op "++" none)) (t token.Semi ";" none)) (t token.Op "}" none))))
    none))))) (node kind.Method (t token.Keyword "static" (t token.Keyword "function" (t token.Label "c" (t
    token.Op "(" (t token.Op ")" (node kind.Block (t token.Op "{" (node kind.Return (t token.Keyword "return"
    (node kind.StaticProp (t token.Label "self" (t token.Op "::" (t token.Variable "$c" none))) (t token.Semi ";"
    none))) (t token.Op "}" none))) none)))))) (t token.Op "}" none))))))))))) (node kind.ExprStmt (node
    kind.Assign (node kind.Variable (t token.Variable "$o" none) (t token.Op "=" (node kind.New (t token.Keyword
    "new" (t token.Label "A" none)) none))) (t token.Semi ";" none)) (node kind.ExprStmt (node kind.CompoundAssign
    (node kind.Prop (node kind.Variable (t token.Variable "$o" none) (t token.Op "->" (t token.Label "n" none)))
    (t token.Op "+=" (node kind.Number (t token.Int "5" none) none))) (t token.Semi ";" none)) (node kind.ExprStmt
    (node kind.Assign (node kind.Prop (node kind.Variable (t token.Variable "$o" none) (t token.Op "->" (t
    token.Label "s" none))) (t token.Op "=" (node kind.Text (t token.Text "\"x\"" none) none))) (t token.Semi ";"
    none)) (node kind.ExprStmt (node kind.CompoundAssign (node kind.Prop (node kind.Variable (t token.Variable
    "$o" none) (t token.Op "->" (t token.Label "s" none))) (t token.Op ".=" (node kind.Text (t token.Text "\"y\""
    none) none))) (t token.Semi ";" none)) (node kind.ExprStmt (node kind.Assign (node kind.Offset (node kind.Prop
    (node kind.Variable (t token.Variable "$o" none) (t token.Op "->" (t token.Label "a" none))) (t token.Op "["
    (t token.Op "]" none))) (t token.Op "=" (node kind.Number (t token.Int "2" none) none))) (t token.Semi ";"
    none)) (node kind.ExprStmt (node kind.CompoundAssign (node kind.Prop (node kind.Variable (t token.Variable
    "$o" none) (t token.Op "->" (t token.Label "s" none))) (t token.Op "??=" (node kind.Text (t token.Text "\"z\""
    none) none))) (t token.Semi ";" none)) (node kind.ExprStmt (node kind.Assign (node kind.Prop (node
    kind.Variable (t token.Variable "$o" none) (t token.Op "->" (t token.Label "next" none))) (t token.Op "="
    (node kind.New (t token.Keyword "new" (t token.Label "A" none)) none))) (t token.Semi ";" none)) (node
    kind.Echo (t token.Keyword "echo" (node kind.Prop (node kind.Variable (t token.Variable "$o" none) (t token.Op
    "->" (t token.Label "n" none))) (t token.Op "," (node kind.Prop (node kind.Variable (t token.Variable "$o"
    none) (t token.Op "->" (t token.Label "s" none))) (t token.Op "," (node kind.Offset (node kind.Prop (node
    kind.Variable (t token.Variable "$o" none) (t token.Op "->" (t token.Label "a" none))) (t token.Op "[" (node
    kind.Number (t token.Int "1" none) (t token.Op "]" none)))) (t token.Op "," (node kind.StaticCall (t
    token.Label "A" (t token.Op "::" (t token.Label "c" (t token.Op "(" (node kind.Args none (t token.Op ")"
    none)))))) (t token.Op "," (node kind.Ternary (node kind.Isset (t token.Keyword "isset" (t token.Op "(" (node
    kind.Prop (node kind.Prop (node kind.Variable (t token.Variable "$o" none) (t token.Op "->" (t token.Label
    "next" none))) (t token.Op "->" (t token.Label "next" none))) (t token.Op ")" none)))) (t token.Op "?" (node
    kind.Number (t token.Int "1" none) (t token.Op ":" (node kind.Number (t token.Int "2" none) none))))) (t
    token.Semi ";" none))))))))))) (node kind.ExprStmt (node kind.Assign (node kind.Prop (node kind.Variable (t
    token.Variable "$o" none) (t token.Op "->" (t token.Label "s" none))) (t token.Op "=" (node kind.Constant (t
    token.Label "null" none) none))) (t token.Semi ";" none)) (node kind.Echo (t token.Keyword "echo" (node
    kind.Binary (node kind.Prop (node kind.Variable (t token.Variable "$o" none) (t token.Op "->" (t token.Label
    "s" none))) (t token.Op "??" (node kind.Text (t token.Text "\"none\"" none) none))) (t token.Semi ";" none)))
    (node kind.Unset (t token.Keyword "unset" (t token.Op "(" (node kind.Prop (node kind.Variable (t
    token.Variable "$o" none) (t token.Op "->" (t token.Label "n" none))) (t token.Op ")" (t token.Semi ";"
    none))))) (node kind.ExprStmt (node kind.Assign (node kind.Prop (node kind.Variable (t token.Variable "$o"
    none) (t token.Op "->" (t token.Label "n" none))) (t token.Op "=" (node kind.Number (t token.Int "4" none)
    none))) (t token.Semi ";" none)) (node kind.Echo (t token.Keyword "echo" (node kind.Prop (node kind.Variable
    (t token.Variable "$o" none) (t token.Op "->" (t token.Label "n" none))) (t token.Semi ";" none)))
    none))))))))))))))

typed_properties : Comes 200 (file typed_properties_tree) (file typed_properties_tree) (codes "a.php")
    ((codes "6xy222none4"), ended)
    ((codes "6xy222none4"), ended)
unfolding builtin_rows named_constants word_constants is_same_name newer_functions newer_classes newer_constants beyond_functions beyond_classes beyond_constants
typed_properties = (refl, refl)

-- <?php class A { public int $n = 1; } $o = new A; echo $o->n; $o->n = "5";
abbrev typed_property_of_another_type_tree : Forest
typed_property_of_another_type_tree =
    (node kind.Class (t token.Keyword "class" (t token.Label "A" (t token.Op "{" (node kind.Property (t
    token.Keyword "public" (node kind.TypeName (t token.Label "int" none) (t token.Variable "$n" (t token.Op "="
    (node kind.Number (t token.Int "1" none) (t token.Semi ";" none)))))) (t token.Op "}" none))))) (node
    kind.ExprStmt (node kind.Assign (node kind.Variable (t token.Variable "$o" none) (t token.Op "=" (node
    kind.New (t token.Keyword "new" (t token.Label "A" none)) none))) (t token.Semi ";" none)) (node kind.Echo (t
    token.Keyword "echo" (node kind.Prop (node kind.Variable (t token.Variable "$o" none) (t token.Op "->" (t
    token.Label "n" none))) (t token.Semi ";" none))) (node kind.ExprStmt (node kind.Assign (node kind.Prop (node
    kind.Variable (t token.Variable "$o" none) (t token.Op "->" (t token.Label "n" none))) (t token.Op "=" (node
    kind.Text (t token.Text "\"5\"" none) none))) (t token.Semi ";" none)) none))))

typed_property_of_another_type : Comes 200 (file typed_property_of_another_type_tree) (file typed_property_of_another_type_tree) (codes "a.php")
    ((codes "1"), outside Conversion)
    ((codes "1"), outside Conversion)
unfolding builtin_rows named_constants word_constants is_same_name newer_functions newer_classes newer_constants beyond_functions beyond_classes beyond_constants
typed_property_of_another_type = (refl, refl)

-- <?php class A { static ?int $n; } A::$n = 3; echo A::$n; A::$n = false;
abbrev typed_static_of_another_type_tree : Forest
typed_static_of_another_type_tree =
    (node kind.Class (t token.Keyword "class" (t token.Label "A" (t token.Op "{" (node kind.Property (t
    token.Keyword "static" (node kind.TypeName (t token.Op "?" (t token.Label "int" none)) (t token.Variable "$n"
    (t token.Semi ";" none)))) (t token.Op "}" none))))) (node kind.ExprStmt (node kind.Assign (node
    kind.StaticProp (t token.Label "A" (t token.Op "::" (t token.Variable "$n" none))) (t token.Op "=" (node
    kind.Number (t token.Int "3" none) none))) (t token.Semi ";" none)) (node kind.Echo (t token.Keyword "echo"
    (node kind.StaticProp (t token.Label "A" (t token.Op "::" (t token.Variable "$n" none))) (t token.Semi ";"
    none))) (node kind.ExprStmt (node kind.Assign (node kind.StaticProp (t token.Label "A" (t token.Op "::" (t
    token.Variable "$n" none))) (t token.Op "=" (node kind.Constant (t token.Label "false" none) none))) (t
    token.Semi ";" none)) none))))

typed_static_of_another_type : Comes 200 (file typed_static_of_another_type_tree) (file typed_static_of_another_type_tree) (codes "a.php")
    ((codes "3"), outside Conversion)
    ((codes "3"), outside Conversion)
unfolding builtin_rows named_constants word_constants is_same_name newer_functions newer_classes newer_constants beyond_functions beyond_classes beyond_constants
typed_static_of_another_type = (refl, refl)

-- <?php class A { public int $n; } $o = new A; echo isset($o->n) ? 1 : 2; echo $o->n;
abbrev typed_property_read_before_a_write_tree : Forest
typed_property_read_before_a_write_tree =
    (node kind.Class (t token.Keyword "class" (t token.Label "A" (t token.Op "{" (node kind.Property (t
    token.Keyword "public" (node kind.TypeName (t token.Label "int" none) (t token.Variable "$n" (t token.Semi ";"
    none)))) (t token.Op "}" none))))) (node kind.ExprStmt (node kind.Assign (node kind.Variable (t token.Variable
    "$o" none) (t token.Op "=" (node kind.New (t token.Keyword "new" (t token.Label "A" none)) none))) (t
    token.Semi ";" none)) (node kind.Echo (t token.Keyword "echo" (node kind.Ternary (node kind.Isset (t
    token.Keyword "isset" (t token.Op "(" (node kind.Prop (node kind.Variable (t token.Variable "$o" none) (t
    token.Op "->" (t token.Label "n" none))) (t token.Op ")" none)))) (t token.Op "?" (node kind.Number (t
    token.Int "1" none) (t token.Op ":" (node kind.Number (t token.Int "2" none) none))))) (t token.Semi ";"
    none))) (node kind.Echo (t token.Keyword "echo" (node kind.Prop (node kind.Variable (t token.Variable "$o"
    none) (t token.Op "->" (t token.Label "n" none))) (t token.Semi ";" none))) none))))

typed_property_read_before_a_write : Comes 200 (file typed_property_read_before_a_write_tree) (file typed_property_read_before_a_write_tree) (codes "a.php")
    ((codes "2"), outside Reference)
    ((codes "2"), outside Reference)
unfolding builtin_rows named_constants word_constants is_same_name newer_functions newer_classes newer_constants beyond_functions beyond_classes beyond_constants
typed_property_read_before_a_write = (refl, refl)

-- <?php class A { public int $n = 1; } $o = new A; echo 1; $r = &$o->n;
abbrev typed_property_referred_to_tree : Forest
typed_property_referred_to_tree =
    (node kind.Class (t token.Keyword "class" (t token.Label "A" (t token.Op "{" (node kind.Property (t
    token.Keyword "public" (node kind.TypeName (t token.Label "int" none) (t token.Variable "$n" (t token.Op "="
    (node kind.Number (t token.Int "1" none) (t token.Semi ";" none)))))) (t token.Op "}" none))))) (node
    kind.ExprStmt (node kind.Assign (node kind.Variable (t token.Variable "$o" none) (t token.Op "=" (node
    kind.New (t token.Keyword "new" (t token.Label "A" none)) none))) (t token.Semi ";" none)) (node kind.Echo (t
    token.Keyword "echo" (node kind.Number (t token.Int "1" none) (t token.Semi ";" none))) (node kind.ExprStmt
    (node kind.AssignRef (node kind.Variable (t token.Variable "$r" none) (t token.Op "=" (t token.Op "&" (node
    kind.Prop (node kind.Variable (t token.Variable "$o" none) (t token.Op "->" (t token.Label "n" none)))
    none)))) (t token.Semi ";" none)) none))))

typed_property_referred_to : Comes 200 (file typed_property_referred_to_tree) (file typed_property_referred_to_tree) (codes "a.php")
    ((codes "1"), outside Reference)
    ((codes "1"), outside Reference)
unfolding builtin_rows named_constants word_constants is_same_name newer_functions newer_classes newer_constants beyond_functions beyond_classes beyond_constants
typed_property_referred_to = (refl, refl)

-- <?php echo 1; { const A = 1; }
abbrev constant_in_a_block_tree : Forest
constant_in_a_block_tree =
    (node kind.Echo (t token.Keyword "echo" (node kind.Number (t token.Int "1" none) (t token.Semi ";" none)))
    (node kind.Block (t token.Op "{" (node kind.Const (t token.Keyword "const" (t token.Label "A" (t token.Op "="
    (node kind.Number (t token.Int "1" none) (t token.Semi ";" none))))) (t token.Op "}" none))) none))

constant_in_a_block : Comes 200 (file constant_in_a_block_tree) (file constant_in_a_block_tree) (codes "a.php")
    ((codes "1"), outside NoRule)
    ((codes "1"), outside NoRule)
unfolding builtin_rows named_constants word_constants is_same_name newer_functions newer_classes newer_constants beyond_functions beyond_classes beyond_constants
constant_in_a_block = (refl, refl)

-- <?php namespace N { const A = "a"; function f() { return A . \N\A; } } namespace { use function N\f; const A = "b"; echo f(), A, \N\A; }
abbrev constants_in_braces_tree : Forest
constants_in_braces_tree =
    (node kind.Namespace (t token.Keyword "namespace" (t token.Label "N" (t token.Op "{" (node kind.Const (t
    token.Keyword "const" (t token.Label "A" (t token.Op "=" (node kind.Text (t token.Text "\"a\"" none) (t
    token.Semi ";" none))))) (node kind.Function (t token.Keyword "function" (t token.Label "f" (t token.Op "(" (t
    token.Op ")" (node kind.Block (t token.Op "{" (node kind.Return (t token.Keyword "return" (node kind.Binary
    (node kind.Constant (t token.Label "A" none) (t token.Op "." (node kind.Constant (t token.Op "\\" (t
    token.Label "N" (t token.Op "\\" (t token.Label "A" none)))) none))) (t token.Semi ";" none))) (t token.Op "}"
    none))) none))))) (t token.Op "}" none)))))) (node kind.Namespace (t token.Keyword "namespace" (t token.Op "{"
    (node kind.Use (t token.Keyword "use" (t token.Keyword "function" (t token.Label "N" (t token.Op "\\" (t
    token.Label "f" (t token.Semi ";" none)))))) (node kind.Const (t token.Keyword "const" (t token.Label "A" (t
    token.Op "=" (node kind.Text (t token.Text "\"b\"" none) (t token.Semi ";" none))))) (node kind.Echo (t
    token.Keyword "echo" (node kind.Call (t token.Label "f" (t token.Op "(" (node kind.Args none (t token.Op ")"
    none)))) (t token.Op "," (node kind.Constant (t token.Label "A" none) (t token.Op "," (node kind.Constant (t
    token.Op "\\" (t token.Label "N" (t token.Op "\\" (t token.Label "A" none)))) (t token.Semi ";" none))))))) (t
    token.Op "}" none)))))) none))

abbrev constants_in_braces_new_tree : Forest
constants_in_braces_new_tree =
    (node kind.Namespace (t token.Keyword "namespace" (t token.Label "N" (t token.Op "{" (node kind.Const (t
    token.Keyword "const" (t token.Label "A" (t token.Op "=" (node kind.Text (t token.Text "\"a\"" none) (t
    token.Semi ";" none))))) (node kind.Function (t token.Keyword "function" (t token.Label "f" (t token.Op "(" (t
    token.Op ")" (node kind.Block (t token.Op "{" (node kind.Return (t token.Keyword "return" (node kind.Binary
    (node kind.Constant (t token.Label "A" none) (t token.Op "." (node kind.Constant (t token.Name "\\N\\A" none)
    none))) (t token.Semi ";" none))) (t token.Op "}" none))) none))))) (t token.Op "}" none)))))) (node
    kind.Namespace (t token.Keyword "namespace" (t token.Op "{" (node kind.Use (t token.Keyword "use" (t
    token.Keyword "function" (t token.Name "N\\f" (t token.Semi ";" none)))) (node kind.Const (t token.Keyword
    "const" (t token.Label "A" (t token.Op "=" (node kind.Text (t token.Text "\"b\"" none) (t token.Semi ";"
    none))))) (node kind.Echo (t token.Keyword "echo" (node kind.Call (t token.Label "f" (t token.Op "(" (node
    kind.Args none (t token.Op ")" none)))) (t token.Op "," (node kind.Constant (t token.Label "A" none) (t
    token.Op "," (node kind.Constant (t token.Name "\\N\\A" none) (t token.Semi ";" none))))))) (t token.Op "}"
    none)))))) none))

constants_in_braces : Comes 200 (file constants_in_braces_tree) (file constants_in_braces_new_tree) (codes "a.php")
    ((codes "aaba"), ended)
    ((codes "aaba"), ended)
unfolding builtin_rows named_constants word_constants is_same_name newer_functions newer_classes newer_constants beyond_functions beyond_classes beyond_constants
constants_in_braces = (refl, refl)

-- <?php class A { public $x = 1; protected $y = 2; private $z = 3; function az() { return $this->z; } } class B
--  extends A { public $x = 4; protected $y = 5; private $z = 6; function y() { return $this->y . $this->z; } } $b =
--  new B; echo $b->x, $b->y(), $b->az();
abbrev default_that_is_overridden_tree : Forest
default_that_is_overridden_tree =
    (node kind.Class (t token.Keyword "class" (t token.Label "A" (t token.Op "{" (node kind.Property (t
    token.Keyword "public" (t token.Variable "$x" (t token.Op "=" (node kind.Number (t token.Int "1" none) (t
    token.Semi ";" none))))) (node kind.Property (t token.Keyword "protected" (t token.Variable "$y" (t token.Op
    "=" (node kind.Number (t token.Int "2" none) (t token.Semi ";" none))))) (node kind.Property (t token.Keyword
    "private" (t token.Variable "$z" (t token.Op "=" (node kind.Number (t token.Int "3" none) (t token.Semi ";"
    none))))) (node kind.Method (t token.Keyword "function" (t token.Label "az" (t token.Op "(" (t token.Op ")"
    (node kind.Block (t token.Op "{" (node kind.Return (t token.Keyword "return" (node kind.Prop (node
    kind.Variable (t token.Variable "$this" none) (t token.Op "->" (t token.Label "z" none))) (t token.Semi ";"
    none))) (t token.Op "}" none))) none))))) (t token.Op "}" none)))))))) (node kind.Class (t token.Keyword
    "class" (t token.Label "B" (t token.Keyword "extends" (t token.Label "A" (t token.Op "{" (node kind.Property
    (t token.Keyword "public" (t token.Variable "$x" (t token.Op "=" (node kind.Number (t token.Int "4" none) (t
    token.Semi ";" none))))) (node kind.Property (t token.Keyword "protected" (t token.Variable "$y" (t token.Op
    "=" (node kind.Number (t token.Int "5" none) (t token.Semi ";" none))))) (node kind.Property (t token.Keyword
    "private" (t token.Variable "$z" (t token.Op "=" (node kind.Number (t token.Int "6" none) (t token.Semi ";"
    none))))) (node kind.Method (t token.Keyword "function" (t token.Label "y" (t token.Op "(" (t token.Op ")"
    (node kind.Block (t token.Op "{" (node kind.Return (t token.Keyword "return" (node kind.Binary (node kind.Prop
    (node kind.Variable (t token.Variable "$this" none) (t token.Op "->" (t token.Label "y" none))) (t token.Op
    "." (node kind.Prop (node kind.Variable (t token.Variable "$this" none) (t token.Op "->" (t token.Label "z"
    none))) none))) (t token.Semi ";" none))) (t token.Op "}" none))) none))))) (t token.Op "}" none))))))))))
    (node kind.ExprStmt (node kind.Assign (node kind.Variable (t token.Variable "$b" none) (t token.Op "=" (node
    kind.New (t token.Keyword "new" (t token.Label "B" none)) none))) (t token.Semi ";" none)) (node kind.Echo (t
    token.Keyword "echo" (node kind.Prop (node kind.Variable (t token.Variable "$b" none) (t token.Op "->" (t
    token.Label "x" none))) (t token.Op "," (node kind.MethodCall (node kind.Variable (t token.Variable "$b" none)
    (t token.Op "->" (t token.Label "y" (t token.Op "(" (node kind.Args none (t token.Op ")" none)))))) (t
    token.Op "," (node kind.MethodCall (node kind.Variable (t token.Variable "$b" none) (t token.Op "->" (t
    token.Label "az" (t token.Op "(" (node kind.Args none (t token.Op ")" none)))))) (t token.Semi ";" none)))))))
    none))))

default_that_is_overridden : Comes 200 (file default_that_is_overridden_tree) (file default_that_is_overridden_tree) (codes "a.php")
    ((codes "4563"), ended)
    ((codes "4563"), ended)
unfolding builtin_rows named_constants word_constants is_same_name newer_functions newer_classes newer_constants beyond_functions beyond_classes beyond_constants
default_that_is_overridden = (refl, refl)

-- <?php class A { private function m() { return "a"; } function t() { return $this->m(); } } class B extends A {
--  function m() { return "b"; } } class C extends A { private function m() { return "c"; } } echo (new B)->t(), (new
--  B)->m(), (new C)->t();
abbrev private_methods_of_the_class_tree : Forest
private_methods_of_the_class_tree =
    (node kind.Class (t token.Keyword "class" (t token.Label "A" (t token.Op "{" (node kind.Method (t
    token.Keyword "private" (t token.Keyword "function" (t token.Label "m" (t token.Op "(" (t token.Op ")" (node
    kind.Block (t token.Op "{" (node kind.Return (t token.Keyword "return" (node kind.Text (t token.Text "\"a\""
    none) (t token.Semi ";" none))) (t token.Op "}" none))) none)))))) (node kind.Method (t token.Keyword
    "function" (t token.Label "t" (t token.Op "(" (t token.Op ")" (node kind.Block (t token.Op "{" (node
    kind.Return (t token.Keyword "return" (node kind.MethodCall (node kind.Variable (t token.Variable "$this"
    none) (t token.Op "->" (t token.Label "m" (t token.Op "(" (node kind.Args none (t token.Op ")" none)))))) (t
    token.Semi ";" none))) (t token.Op "}" none))) none))))) (t token.Op "}" none)))))) (node kind.Class (t
    token.Keyword "class" (t token.Label "B" (t token.Keyword "extends" (t token.Label "A" (t token.Op "{" (node
    kind.Method (t token.Keyword "function" (t token.Label "m" (t token.Op "(" (t token.Op ")" (node kind.Block (t
    token.Op "{" (node kind.Return (t token.Keyword "return" (node kind.Text (t token.Text "\"b\"" none) (t
    token.Semi ";" none))) (t token.Op "}" none))) none))))) (t token.Op "}" none))))))) (node kind.Class (t
    token.Keyword "class" (t token.Label "C" (t token.Keyword "extends" (t token.Label "A" (t token.Op "{" (node
    kind.Method (t token.Keyword "private" (t token.Keyword "function" (t token.Label "m" (t token.Op "(" (t
    token.Op ")" (node kind.Block (t token.Op "{" (node kind.Return (t token.Keyword "return" (node kind.Text (t
    token.Text "\"c\"" none) (t token.Semi ";" none))) (t token.Op "}" none))) none)))))) (t token.Op "}"
    none))))))) (node kind.Echo (t token.Keyword "echo" (node kind.MethodCall (node kind.Paren (t token.Op "("
    (node kind.New (t token.Keyword "new" (t token.Label "B" none)) (t token.Op ")" none))) (t token.Op "->" (t
    token.Label "t" (t token.Op "(" (node kind.Args none (t token.Op ")" none)))))) (t token.Op "," (node
    kind.MethodCall (node kind.Paren (t token.Op "(" (node kind.New (t token.Keyword "new" (t token.Label "B"
    none)) (t token.Op ")" none))) (t token.Op "->" (t token.Label "m" (t token.Op "(" (node kind.Args none (t
    token.Op ")" none)))))) (t token.Op "," (node kind.MethodCall (node kind.Paren (t token.Op "(" (node kind.New
    (t token.Keyword "new" (t token.Label "C" none)) (t token.Op ")" none))) (t token.Op "->" (t token.Label "t"
    (t token.Op "(" (node kind.Args none (t token.Op ")" none)))))) (t token.Semi ";" none))))))) none))))

private_methods_of_the_class : Comes 200 (file private_methods_of_the_class_tree) (file private_methods_of_the_class_tree) (codes "a.php")
    ((codes "aba"), ended)
    ((codes "aba"), ended)
unfolding builtin_rows named_constants word_constants is_same_name newer_functions newer_classes newer_constants beyond_functions beyond_classes beyond_constants
private_methods_of_the_class = (refl, refl)

-- <?php class A { private function __construct() { echo "made"; } static function make() { return new self; } }
--  A::make(); try { new A(print "x"); } catch (Error $e) { echo "error"; }
abbrev private_constructor_tree : Forest
private_constructor_tree =
    (node kind.Class (t token.Keyword "class" (t token.Label "A" (t token.Op "{" (node kind.Method (t
    token.Keyword "private" (t token.Keyword "function" (t token.Label "__construct" (t token.Op "(" (t token.Op
    ")" (node kind.Block (t token.Op "{" (node kind.Echo (t token.Keyword "echo" (node kind.Text (t token.Text
    "\"made\"" none) (t token.Semi ";" none))) (t token.Op "}" none))) none)))))) (node kind.Method (t
    token.Keyword "static" (t token.Keyword "function" (t token.Label "make" (t token.Op "(" (t token.Op ")" (node
    kind.Block (t token.Op "{" (node kind.Return (t token.Keyword "return" (node kind.New (t token.Keyword "new"
    (t token.Label "self" none)) (t token.Semi ";" none))) (t token.Op "}" none))) none)))))) (t token.Op "}"
    none)))))) (node kind.ExprStmt (node kind.StaticCall (t token.Label "A" (t token.Op "::" (t token.Label "make"
    (t token.Op "(" (node kind.Args none (t token.Op ")" none)))))) (t token.Semi ";" none)) (node kind.Try (t
    token.Keyword "try" (node kind.Block (t token.Op "{" (node kind.ExprStmt (node kind.New (t token.Keyword "new"
    (t token.Label "A" (t token.Op "(" (node kind.Args (node kind.Print (t token.Keyword "print" (node kind.Text
    (t token.Text "\"x\"" none) none)) none) (t token.Op ")" none))))) (t token.Semi ";" none)) (t token.Op "}"
    none))) (t token.Keyword "catch" (t token.Op "(" (t token.Label "Error" (t token.Variable "$e" (t token.Op ")"
    (node kind.Block (t token.Op "{" (node kind.Echo (t token.Keyword "echo" (node kind.Text (t token.Text
    "\"error\"" none) (t token.Semi ";" none))) (t token.Op "}" none))) none)))))))) none)))

private_constructor : Comes 200 (file private_constructor_tree) (file private_constructor_tree) (codes "a.php")
    ((codes "madeerror"), ended)
    ((codes "madeerror"), ended)
unfolding builtin_rows named_constants word_constants is_same_name newer_functions newer_classes newer_constants beyond_functions beyond_classes beyond_constants
private_constructor = (refl, refl)

-- <?php class A { public $n; function __construct($n) { $this->n = $n; } } class B extends A { function __construct()
--  { parent::__construct(7); A::__construct($this->n + 1); } } echo (new B)->n; class E extends Exception { function
--  __construct($m) { echo $this->getMessage(), $this->getCode(); parent::__construct("<" . $m . ">", 5); } } try {
--  throw new E("m"); } catch (E $e) { echo $e->getMessage(), $e->getCode(); }
abbrev constructors_of_parents_tree : Forest
constructors_of_parents_tree =
    (node kind.Class (t token.Keyword "class" (t token.Label "A" (t token.Op "{" (node kind.Property (t
    token.Keyword "public" (t token.Variable "$n" (t token.Semi ";" none))) (node kind.Method (t token.Keyword
    "function" (t token.Label "__construct" (t token.Op "(" (node kind.Param (t token.Variable "$n" none) (t
    token.Op ")" (node kind.Block (t token.Op "{" (node kind.ExprStmt (node kind.Assign (node kind.Prop (node
    kind.Variable (t token.Variable "$this" none) (t token.Op "->" (t token.Label "n" none))) (t token.Op "="
    (node kind.Variable (t token.Variable "$n" none) none))) (t token.Semi ";" none)) (t token.Op "}" none)))
    none)))))) (t token.Op "}" none)))))) (node kind.Class (t token.Keyword "class" (t token.Label "B" (t
    token.Keyword "extends" (t token.Label "A" (t token.Op "{" (node kind.Method (t token.Keyword "function" (t
    token.Label "__construct" (t token.Op "(" (t token.Op ")" (node kind.Block (t token.Op "{" (node kind.ExprStmt
    (node kind.StaticCall (t token.Label "parent" (t token.Op "::" (t token.Label "__construct" (t token.Op "("
    (node kind.Args (node kind.Number (t token.Int "7" none) none) (t token.Op ")" none)))))) (t token.Semi ";"
    none)) (node kind.ExprStmt (node kind.StaticCall (t token.Label "A" (t token.Op "::" (t token.Label
    "__construct" (t token.Op "(" (node kind.Args (node kind.Binary (node kind.Prop (node kind.Variable (t
    token.Variable "$this" none) (t token.Op "->" (t token.Label "n" none))) (t token.Op "+" (node kind.Number (t
    token.Int "1" none) none))) none) (t token.Op ")" none)))))) (t token.Semi ";" none)) (t token.Op "}" none))))
    none))))) (t token.Op "}" none))))))) (node kind.Echo (t token.Keyword "echo" (node kind.Prop (node kind.Paren
    (t token.Op "(" (node kind.New (t token.Keyword "new" (t token.Label "B" none)) (t token.Op ")" none))) (t
    token.Op "->" (t token.Label "n" none))) (t token.Semi ";" none))) (node kind.Class (t token.Keyword "class"
    (t token.Label "E" (t token.Keyword "extends" (t token.Label "Exception" (t token.Op "{" (node kind.Method (t
    token.Keyword "function" (t token.Label "__construct" (t token.Op "(" (node kind.Param (t token.Variable "$m"
    none) (t token.Op ")" (node kind.Block (t token.Op "{" (node kind.Echo (t token.Keyword "echo" (node
    kind.MethodCall (node kind.Variable (t token.Variable "$this" none) (t token.Op "->" (t token.Label
    "getMessage" (t token.Op "(" (node kind.Args none (t token.Op ")" none)))))) (t token.Op "," (node
    kind.MethodCall (node kind.Variable (t token.Variable "$this" none) (t token.Op "->" (t token.Label "getCode"
    (t token.Op "(" (node kind.Args none (t token.Op ")" none)))))) (t token.Semi ";" none))))) (node
    kind.ExprStmt (node kind.StaticCall (t token.Label "parent" (t token.Op "::" (t token.Label "__construct" (t
    token.Op "(" (node kind.Args (node kind.Binary (node kind.Binary (node kind.Text (t token.Text "\"<\"" none)
    (t token.Op "." (node kind.Variable (t token.Variable "$m" none) none))) (t token.Op "." (node kind.Text (t
    token.Text "\">\"" none) none))) (t token.Op "," (node kind.Number (t token.Int "5" none) none))) (t token.Op
    ")" none)))))) (t token.Semi ";" none)) (t token.Op "}" none)))) none)))))) (t token.Op "}" none))))))) (node
    kind.Try (t token.Keyword "try" (node kind.Block (t token.Op "{" (node kind.Throw (t token.Keyword "throw"
    (node kind.New (t token.Keyword "new" (t token.Label "E" (t token.Op "(" (node kind.Args (node kind.Text (t
    token.Text "\"m\"" none) none) (t token.Op ")" none))))) (t token.Semi ";" none))) (t token.Op "}" none))) (t
    token.Keyword "catch" (t token.Op "(" (t token.Label "E" (t token.Variable "$e" (t token.Op ")" (node
    kind.Block (t token.Op "{" (node kind.Echo (t token.Keyword "echo" (node kind.MethodCall (node kind.Variable
    (t token.Variable "$e" none) (t token.Op "->" (t token.Label "getMessage" (t token.Op "(" (node kind.Args none
    (t token.Op ")" none)))))) (t token.Op "," (node kind.MethodCall (node kind.Variable (t token.Variable "$e"
    none) (t token.Op "->" (t token.Label "getCode" (t token.Op "(" (node kind.Args none (t token.Op ")"
    none)))))) (t token.Semi ";" none))))) (t token.Op "}" none))) none)))))))) none)))))

constructors_of_parents : Comes 200 (file constructors_of_parents_tree) (file constructors_of_parents_tree) (codes "a.php")
    ((codes "80<m>5"), ended)
    ((codes "80<m>5"), ended)
unfolding builtin_rows named_constants word_constants is_same_name newer_functions newer_classes newer_constants beyond_functions beyond_classes beyond_constants
constructors_of_parents = (refl, refl)

-- <?php class A { public $p = 1; private $q = 2; function q() { unset($this->q); return isset($this->q) ? 1 : 2; } }
--  $a = new A; unset($a->p); echo isset($a->p) ? 1 : 2; $a->p = 3; echo $a->p, $a->q(); try { unset($a->q); } catch
--  (Error $e) { echo "error"; }
abbrev property_unset_tree : Forest
property_unset_tree =
    (node kind.Class (t token.Keyword "class" (t token.Label "A" (t token.Op "{" (node kind.Property (t
    token.Keyword "public" (t token.Variable "$p" (t token.Op "=" (node kind.Number (t token.Int "1" none) (t
    token.Semi ";" none))))) (node kind.Property (t token.Keyword "private" (t token.Variable "$q" (t token.Op "="
    (node kind.Number (t token.Int "2" none) (t token.Semi ";" none))))) (node kind.Method (t token.Keyword
    "function" (t token.Label "q" (t token.Op "(" (t token.Op ")" (node kind.Block (t token.Op "{" (node
    kind.Unset (t token.Keyword "unset" (t token.Op "(" (node kind.Prop (node kind.Variable (t token.Variable
    "$this" none) (t token.Op "->" (t token.Label "q" none))) (t token.Op ")" (t token.Semi ";" none))))) (node
    kind.Return (t token.Keyword "return" (node kind.Ternary (node kind.Isset (t token.Keyword "isset" (t token.Op
    "(" (node kind.Prop (node kind.Variable (t token.Variable "$this" none) (t token.Op "->" (t token.Label "q"
    none))) (t token.Op ")" none)))) (t token.Op "?" (node kind.Number (t token.Int "1" none) (t token.Op ":"
    (node kind.Number (t token.Int "2" none) none))))) (t token.Semi ";" none))) (t token.Op "}" none))))
    none))))) (t token.Op "}" none))))))) (node kind.ExprStmt (node kind.Assign (node kind.Variable (t
    token.Variable "$a" none) (t token.Op "=" (node kind.New (t token.Keyword "new" (t token.Label "A" none))
    none))) (t token.Semi ";" none)) (node kind.Unset (t token.Keyword "unset" (t token.Op "(" (node kind.Prop
    (node kind.Variable (t token.Variable "$a" none) (t token.Op "->" (t token.Label "p" none))) (t token.Op ")"
    (t token.Semi ";" none))))) (node kind.Echo (t token.Keyword "echo" (node kind.Ternary (node kind.Isset (t
    token.Keyword "isset" (t token.Op "(" (node kind.Prop (node kind.Variable (t token.Variable "$a" none) (t
    token.Op "->" (t token.Label "p" none))) (t token.Op ")" none)))) (t token.Op "?" (node kind.Number (t
    token.Int "1" none) (t token.Op ":" (node kind.Number (t token.Int "2" none) none))))) (t token.Semi ";"
    none))) (node kind.ExprStmt (node kind.Assign (node kind.Prop (node kind.Variable (t token.Variable "$a" none)
    (t token.Op "->" (t token.Label "p" none))) (t token.Op "=" (node kind.Number (t token.Int "3" none) none)))
    (t token.Semi ";" none)) (node kind.Echo (t token.Keyword "echo" (node kind.Prop (node kind.Variable (t
    token.Variable "$a" none) (t token.Op "->" (t token.Label "p" none))) (t token.Op "," (node kind.MethodCall
    (node kind.Variable (t token.Variable "$a" none) (t token.Op "->" (t token.Label "q" (t token.Op "(" (node
    kind.Args none (t token.Op ")" none)))))) (t token.Semi ";" none))))) (node kind.Try (t token.Keyword "try"
    (node kind.Block (t token.Op "{" (node kind.Unset (t token.Keyword "unset" (t token.Op "(" (node kind.Prop
    (node kind.Variable (t token.Variable "$a" none) (t token.Op "->" (t token.Label "q" none))) (t token.Op ")"
    (t token.Semi ";" none))))) (t token.Op "}" none))) (t token.Keyword "catch" (t token.Op "(" (t token.Label
    "Error" (t token.Variable "$e" (t token.Op ")" (node kind.Block (t token.Op "{" (node kind.Echo (t
    token.Keyword "echo" (node kind.Text (t token.Text "\"error\"" none) (t token.Semi ";" none))) (t token.Op "}"
    none))) none)))))))) none)))))))

property_unset : Comes 200 (file property_unset_tree) (file property_unset_tree) (codes "a.php")
    ((codes "232error"), ended)
    ((codes "232error"), ended)
unfolding builtin_rows named_constants word_constants is_same_name newer_functions newer_classes newer_constants beyond_functions beyond_classes beyond_constants
property_unset = (refl, refl)

-- <?php class A {} $c = "A"; echo 1; new $c;
abbrev class_by_expression_tree : Forest
class_by_expression_tree =
    (node kind.Class (t token.Keyword "class" (t token.Label "A" (t token.Op "{" (t token.Op "}" none)))) (node
    kind.ExprStmt (node kind.Assign (node kind.Variable (t token.Variable "$c" none) (t token.Op "=" (node
    kind.Text (t token.Text "\"A\"" none) none))) (t token.Semi ";" none)) (node kind.Echo (t token.Keyword "echo"
    (node kind.Number (t token.Int "1" none) (t token.Semi ";" none))) (node kind.ExprStmt (node kind.New (t
    token.Keyword "new" (node kind.Variable (t token.Variable "$c" none) none)) (t token.Semi ";" none)) none))))

class_by_expression : Comes 200 (file class_by_expression_tree) (file class_by_expression_tree) (codes "a.php")
    ((codes "1"), outside NoRule)
    ((codes "1"), outside NoRule)
unfolding builtin_rows named_constants word_constants is_same_name newer_functions newer_classes newer_constants beyond_functions beyond_classes beyond_constants
class_by_expression = (refl, refl)

-- <?php class A { static function f() {} } $c = "A"; echo 1; $c::f();
abbrev static_call_by_expression_tree : Forest
static_call_by_expression_tree =
    (node kind.Class (t token.Keyword "class" (t token.Label "A" (t token.Op "{" (node kind.Method (t
    token.Keyword "static" (t token.Keyword "function" (t token.Label "f" (t token.Op "(" (t token.Op ")" (node
    kind.Block (t token.Op "{" (t token.Op "}" none)) none)))))) (t token.Op "}" none))))) (node kind.ExprStmt
    (node kind.Assign (node kind.Variable (t token.Variable "$c" none) (t token.Op "=" (node kind.Text (t
    token.Text "\"A\"" none) none))) (t token.Semi ";" none)) (node kind.Echo (t token.Keyword "echo" (node
    kind.Number (t token.Int "1" none) (t token.Semi ";" none))) (node kind.ExprStmt (node kind.StaticCall (node
    kind.Variable (t token.Variable "$c" none) (t token.Op "::" (t token.Label "f" (t token.Op "(" (node kind.Args
    none (t token.Op ")" none)))))) (t token.Semi ";" none)) none))))

static_call_by_expression : Comes 200 (file static_call_by_expression_tree) (file static_call_by_expression_tree) (codes "a.php")
    ((codes "1"), outside NoRule)
    ((codes "1"), outside NoRule)
unfolding builtin_rows named_constants word_constants is_same_name newer_functions newer_classes newer_constants beyond_functions beyond_classes beyond_constants
static_call_by_expression = (refl, refl)

-- <?php class A { public $p = 1; } $a = new A; $n = "p"; echo 1, $a->$n;
abbrev property_by_expression_tree : Forest
property_by_expression_tree =
    (node kind.Class (t token.Keyword "class" (t token.Label "A" (t token.Op "{" (node kind.Property (t
    token.Keyword "public" (t token.Variable "$p" (t token.Op "=" (node kind.Number (t token.Int "1" none) (t
    token.Semi ";" none))))) (t token.Op "}" none))))) (node kind.ExprStmt (node kind.Assign (node kind.Variable
    (t token.Variable "$a" none) (t token.Op "=" (node kind.New (t token.Keyword "new" (t token.Label "A" none))
    none))) (t token.Semi ";" none)) (node kind.ExprStmt (node kind.Assign (node kind.Variable (t token.Variable
    "$n" none) (t token.Op "=" (node kind.Text (t token.Text "\"p\"" none) none))) (t token.Semi ";" none)) (node
    kind.Echo (t token.Keyword "echo" (node kind.Number (t token.Int "1" none) (t token.Op "," (node kind.Prop
    (node kind.Variable (t token.Variable "$a" none) (t token.Op "->" (node kind.Variable (t token.Variable "$n"
    none) none))) (t token.Semi ";" none))))) none))))

property_by_expression : Comes 200 (file property_by_expression_tree) (file property_by_expression_tree) (codes "a.php")
    ((codes "1"), outside NoRule)
    ((codes "1"), outside NoRule)
unfolding builtin_rows named_constants word_constants is_same_name newer_functions newer_classes newer_constants beyond_functions beyond_classes beyond_constants
property_by_expression = (refl, refl)

-- <?php class A { function p() {} } $a = new A; $n = "p"; echo 1; $a->$n();
abbrev method_by_expression_tree : Forest
method_by_expression_tree =
    (node kind.Class (t token.Keyword "class" (t token.Label "A" (t token.Op "{" (node kind.Method (t
    token.Keyword "function" (t token.Label "p" (t token.Op "(" (t token.Op ")" (node kind.Block (t token.Op "{"
    (t token.Op "}" none)) none))))) (t token.Op "}" none))))) (node kind.ExprStmt (node kind.Assign (node
    kind.Variable (t token.Variable "$a" none) (t token.Op "=" (node kind.New (t token.Keyword "new" (t
    token.Label "A" none)) none))) (t token.Semi ";" none)) (node kind.ExprStmt (node kind.Assign (node
    kind.Variable (t token.Variable "$n" none) (t token.Op "=" (node kind.Text (t token.Text "\"p\"" none) none)))
    (t token.Semi ";" none)) (node kind.Echo (t token.Keyword "echo" (node kind.Number (t token.Int "1" none) (t
    token.Semi ";" none))) (node kind.ExprStmt (node kind.MethodCall (node kind.Variable (t token.Variable "$a"
    none) (t token.Op "->" (node kind.Variable (t token.Variable "$n" none) (t token.Op "(" (node kind.Args none
    (t token.Op ")" none)))))) (t token.Semi ";" none)) none)))))

method_by_expression : Comes 200 (file method_by_expression_tree) (file method_by_expression_tree) (codes "a.php")
    ((codes "1"), outside Call)
    ((codes "1"), outside Call)
unfolding builtin_rows named_constants word_constants is_same_name newer_functions newer_classes newer_constants beyond_functions beyond_classes beyond_constants
method_by_expression = (refl, refl)

-- <?php echo 1; $a = new class { public $p = 1; };
abbrev anonymous_class_tree : Forest
anonymous_class_tree =
    (node kind.Echo (t token.Keyword "echo" (node kind.Number (t token.Int "1" none) (t token.Semi ";" none)))
    (node kind.ExprStmt (node kind.Assign (node kind.Variable (t token.Variable "$a" none) (t token.Op "=" (node
    kind.New (t token.Keyword "new" (t token.Keyword "class" (t token.Op "{" (node kind.Property (t token.Keyword
    "public" (t token.Variable "$p" (t token.Op "=" (node kind.Number (t token.Int "1" none) (t token.Semi ";"
    none))))) (t token.Op "}" none))))) none))) (t token.Semi ";" none)) none))

anonymous_class : Comes 200 (file anonymous_class_tree) (file anonymous_class_tree) (codes "a.php")
    ((codes "1"), outside NoRule)
    ((codes "1"), outside NoRule)
unfolding builtin_rows named_constants word_constants is_same_name newer_functions newer_classes newer_constants beyond_functions beyond_classes beyond_constants
anonymous_class = (refl, refl)
