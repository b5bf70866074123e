-- Rows of whole programs: exceptions. The 8.3 side is what PHP 8.2 echoes, where it has a meaning here.
use Rattle.std.proofs.Common.{refl, codes}
use Rattle.php_tree.specs.declared.token.TokenKind.TheVariants as token
use Rattle.php_tree.specs.declared.kind.NodeKind.TheVariants as kind
use Rattle.php_tree.specs.Tree.{Forest, none, node}
use Rattle.builtin_tables.specs.Beyond.{beyond_functions, beyond_classes, beyond_constants}
use Rattle.builtin_tables.specs.Builtins.{builtin_rows}
use Rattle.builtin_tables.specs.Constants.{named_constants, word_constants}
use Rattle.builtin_tables.specs.Named.{is_same_name}
use Rattle.builtin_tables.specs.Newer.{newer_functions, newer_classes, newer_constants}
use Rattle.php_meaning.specs.runs.World.{Threw}
use Rattle.meaning_rows.specs.Words.{t, b, file, ended, Comes}

-- <?php function f($n) { if ($n > 1) throw new LogicException('big', 7); return $n; } try { echo f(1), f(2), 'no'; }
--  catch (RuntimeException $e) { echo 'R'; } catch (LogicException $e) { echo $e->getMessage(), $e->getCode(); }
abbrev caught_tree : Forest
caught_tree =
    (node kind.Function (t token.Keyword "function" (t token.Label "f" (t token.Op "(" (node kind.Param (t
    token.Variable "$n" none) (t token.Op ")" (node kind.Block (t token.Op "{" (node kind.If (t token.Keyword "if" (t
    token.Op "(" (node kind.Binary (node kind.Variable (t token.Variable "$n" none) (t token.Op ">" (node kind.Number
    (t token.Int "1" none) none))) (t token.Op ")" (node kind.Throw (t token.Keyword "throw" (node kind.New (t
    token.Keyword "new" (t token.Label "LogicException" (t token.Op "(" (node kind.Args (node kind.Text (t token.Text
    "'big'" none) (t token.Op "," (node kind.Number (t token.Int "7" none) none))) (t token.Op ")" none))))) (t
    token.Semi ";" none))) none))))) (node kind.Return (t token.Keyword "return" (node kind.Variable (t token.Variable
    "$n" none) (t token.Semi ";" none))) (t token.Op "}" none)))) none)))))) (node kind.Try (t token.Keyword "try"
    (node kind.Block (t token.Op "{" (node kind.Echo (t token.Keyword "echo" (node kind.Call (t token.Label "f" (t
    token.Op "(" (node kind.Args (node kind.Number (t token.Int "1" none) none) (t token.Op ")" none)))) (t token.Op
    "," (node kind.Call (t token.Label "f" (t token.Op "(" (node kind.Args (node kind.Number (t token.Int "2" none)
    none) (t token.Op ")" none)))) (t token.Op "," (node kind.Text (t token.Text "'no'" none) (t token.Semi ";"
    none))))))) (t token.Op "}" none))) (t token.Keyword "catch" (t token.Op "(" (t token.Label "RuntimeException" (t
    token.Variable "$e" (t token.Op ")" (node kind.Block (t token.Op "{" (node kind.Echo (t token.Keyword "echo" (node
    kind.Text (t token.Text "'R'" none) (t token.Semi ";" none))) (t token.Op "}" none))) (t token.Keyword "catch" (t
    token.Op "(" (t token.Label "LogicException" (t token.Variable "$e" (t token.Op ")" (node kind.Block (t token.Op
    "{" (node kind.Echo (t token.Keyword "echo" (node kind.MethodCall (node kind.Variable (t token.Variable "$e" none)
    (t token.Op "->" (t token.Label "getMessage" (t token.Op "(" (node kind.Args none (t token.Op ")" none)))))) (t
    token.Op "," (node kind.MethodCall (node kind.Variable (t token.Variable "$e" none) (t token.Op "->" (t
    token.Label "getCode" (t token.Op "(" (node kind.Args none (t token.Op ")" none)))))) (t token.Semi ";" none)))))
    (t token.Op "}" none))) none)))))))))))))) none))

caught : Comes 200 (file caught_tree) (file caught_tree) (codes "a.php")
    ((codes "1big7"), ended)
    ((codes "1big7"), ended)
unfolding builtin_rows named_constants word_constants is_same_name newer_functions newer_classes newer_constants beyond_functions beyond_classes beyond_constants
caught = (refl, refl)

-- <?php function f() { try { return 'r'; } finally { echo 'f'; } } echo f(); try { try { throw new Exception('x'); }
--  finally { echo 'g'; } } catch (Exception $e) { echo $e->getMessage(); }
abbrev finally_runs_tree : Forest
finally_runs_tree =
    (node kind.Function (t token.Keyword "function" (t token.Label "f" (t token.Op "(" (t token.Op ")" (node
    kind.Block (t token.Op "{" (node kind.Try (t token.Keyword "try" (node kind.Block (t token.Op "{" (node
    kind.Return (t token.Keyword "return" (node kind.Text (t token.Text "'r'" none) (t token.Semi ";" none))) (t
    token.Op "}" none))) (t token.Keyword "finally" (node kind.Block (t token.Op "{" (node kind.Echo (t token.Keyword
    "echo" (node kind.Text (t token.Text "'f'" none) (t token.Semi ";" none))) (t token.Op "}" none))) none)))) (t
    token.Op "}" none))) none))))) (node kind.Echo (t token.Keyword "echo" (node kind.Call (t token.Label "f" (t
    token.Op "(" (node kind.Args none (t token.Op ")" none)))) (t token.Semi ";" none))) (node kind.Try (t
    token.Keyword "try" (node kind.Block (t token.Op "{" (node kind.Try (t token.Keyword "try" (node kind.Block (t
    token.Op "{" (node kind.Throw (t token.Keyword "throw" (node kind.New (t token.Keyword "new" (t token.Label
    "Exception" (t token.Op "(" (node kind.Args (node kind.Text (t token.Text "'x'" none) none) (t token.Op ")"
    none))))) (t token.Semi ";" none))) (t token.Op "}" none))) (t token.Keyword "finally" (node kind.Block (t
    token.Op "{" (node kind.Echo (t token.Keyword "echo" (node kind.Text (t token.Text "'g'" none) (t token.Semi ";"
    none))) (t token.Op "}" none))) none)))) (t token.Op "}" none))) (t token.Keyword "catch" (t token.Op "(" (t
    token.Label "Exception" (t token.Variable "$e" (t token.Op ")" (node kind.Block (t token.Op "{" (node kind.Echo (t
    token.Keyword "echo" (node kind.MethodCall (node kind.Variable (t token.Variable "$e" none) (t token.Op "->" (t
    token.Label "getMessage" (t token.Op "(" (node kind.Args none (t token.Op ")" none)))))) (t token.Semi ";" none)))
    (t token.Op "}" none))) none)))))))) none)))

finally_runs : Comes 200 (file finally_runs_tree) (file finally_runs_tree) (codes "a.php")
    ((codes "frgx"), ended)
    ((codes "frgx"), ended)
unfolding builtin_rows named_constants word_constants is_same_name newer_functions newer_classes newer_constants beyond_functions beyond_classes beyond_constants
finally_runs = (refl, refl)

-- <?php echo 'a'; throw new RuntimeException('x'); echo 'b';
abbrev uncaught_tree : Forest
uncaught_tree =
    (node kind.Echo (t token.Keyword "echo" (node kind.Text (t token.Text "'a'" none) (t token.Semi ";" none))) (node
    kind.Throw (t token.Keyword "throw" (node kind.New (t token.Keyword "new" (t token.Label "RuntimeException" (t
    token.Op "(" (node kind.Args (node kind.Text (t token.Text "'x'" none) none) (t token.Op ")" none))))) (t
    token.Semi ";" none))) (node kind.Echo (t token.Keyword "echo" (node kind.Text (t token.Text "'b'" none) (t
    token.Semi ";" none))) none)))

uncaught : Comes 200 (file uncaught_tree) (file uncaught_tree) (codes "a.php")
    ((codes "a"), Threw (codes "RuntimeException"))
    ((codes "a"), Threw (codes "RuntimeException"))
unfolding builtin_rows named_constants word_constants is_same_name newer_functions newer_classes newer_constants beyond_functions beyond_classes beyond_constants
uncaught = (refl, refl)

-- <?php class MyError extends Exception {} try { throw new MyError('m'); } catch (Exception $e) { echo $e->getMessage(), $e instanceof MyError ? 't' : 'f'; }
abbrev own_exception_tree : Forest
own_exception_tree =
    (node kind.Class (t token.Keyword "class" (t token.Label "MyError" (t token.Keyword "extends" (t token.Label
    "Exception" (t token.Op "{" (t token.Op "}" none)))))) (node kind.Try (t token.Keyword "try" (node kind.Block (t
    token.Op "{" (node kind.Throw (t token.Keyword "throw" (node kind.New (t token.Keyword "new" (t token.Label
    "MyError" (t token.Op "(" (node kind.Args (node kind.Text (t token.Text "'m'" none) none) (t token.Op ")"
    none))))) (t token.Semi ";" none))) (t token.Op "}" none))) (t token.Keyword "catch" (t token.Op "(" (t
    token.Label "Exception" (t token.Variable "$e" (t token.Op ")" (node kind.Block (t token.Op "{" (node kind.Echo (t
    token.Keyword "echo" (node kind.MethodCall (node kind.Variable (t token.Variable "$e" none) (t token.Op "->" (t
    token.Label "getMessage" (t token.Op "(" (node kind.Args none (t token.Op ")" none)))))) (t token.Op "," (node
    kind.Ternary (node kind.InstanceOf (node kind.Variable (t token.Variable "$e" none) (t token.Keyword "instanceof"
    (t token.Label "MyError" none))) (t token.Op "?" (node kind.Text (t token.Text "'t'" none) (t token.Op ":" (node
    kind.Text (t token.Text "'f'" none) none))))) (t token.Semi ";" none))))) (t token.Op "}" none))) none))))))))
    none))

own_exception : Comes 200 (file own_exception_tree) (file own_exception_tree) (codes "a.php")
    ((codes "mt"), ended)
    ((codes "mt"), ended)
unfolding builtin_rows named_constants word_constants is_same_name newer_functions newer_classes newer_constants beyond_functions beyond_classes beyond_constants
own_exception = (refl, refl)

-- <?php foreach ([new TypeError, new ArgumentCountError, new DivisionByZeroError, new ErrorException, new Exception]
--  as $e) { echo $e instanceof Error ? 'E' : '-', $e instanceof TypeError ? 'T' : '-', $e instanceof ArithmeticError
--  ? 'A' : '-', $e instanceof Throwable ? 't' : '-', ' '; }
abbrev parents_of_exceptions_tree : Forest
parents_of_exceptions_tree =
    (node kind.Foreach (t token.Keyword "foreach" (t token.Op "(" (node kind.Array (t token.Op "[" (node kind.Item
    (node kind.New (t token.Keyword "new" (t token.Label "TypeError" none)) none) (t token.Op "," (node kind.Item
    (node kind.New (t token.Keyword "new" (t token.Label "ArgumentCountError" none)) none) (t token.Op "," (node
    kind.Item (node kind.New (t token.Keyword "new" (t token.Label "DivisionByZeroError" none)) none) (t token.Op ","
    (node kind.Item (node kind.New (t token.Keyword "new" (t token.Label "ErrorException" none)) none) (t token.Op ","
    (node kind.Item (node kind.New (t token.Keyword "new" (t token.Label "Exception" none)) none) (t token.Op "]"
    none))))))))))) (t token.Keyword "as" (node kind.Variable (t token.Variable "$e" none) (t token.Op ")" (node
    kind.Block (t token.Op "{" (node kind.Echo (t token.Keyword "echo" (node kind.Ternary (node kind.InstanceOf (node
    kind.Variable (t token.Variable "$e" none) (t token.Keyword "instanceof" (t token.Label "Error" none))) (t
    token.Op "?" (node kind.Text (t token.Text "'E'" none) (t token.Op ":" (node kind.Text (t token.Text "'-'" none)
    none))))) (t token.Op "," (node kind.Ternary (node kind.InstanceOf (node kind.Variable (t token.Variable "$e"
    none) (t token.Keyword "instanceof" (t token.Label "TypeError" none))) (t token.Op "?" (node kind.Text (t
    token.Text "'T'" none) (t token.Op ":" (node kind.Text (t token.Text "'-'" none) none))))) (t token.Op "," (node
    kind.Ternary (node kind.InstanceOf (node kind.Variable (t token.Variable "$e" none) (t token.Keyword "instanceof"
    (t token.Label "ArithmeticError" none))) (t token.Op "?" (node kind.Text (t token.Text "'A'" none) (t token.Op ":"
    (node kind.Text (t token.Text "'-'" none) none))))) (t token.Op "," (node kind.Ternary (node kind.InstanceOf (node
    kind.Variable (t token.Variable "$e" none) (t token.Keyword "instanceof" (t token.Label "Throwable" none))) (t
    token.Op "?" (node kind.Text (t token.Text "'t'" none) (t token.Op ":" (node kind.Text (t token.Text "'-'" none)
    none))))) (t token.Op "," (node kind.Text (t token.Text "' '" none) (t token.Semi ";" none))))))))))) (t token.Op
    "}" none))) none))))))) none)

parents_of_exceptions : Comes 200 (file parents_of_exceptions_tree) (file parents_of_exceptions_tree) (codes "a.php")
    ((codes "ET-t ET-t E-At ---t ---t "), ended)
    ((codes "ET-t ET-t E-At ---t ---t "), ended)
unfolding builtin_rows named_constants word_constants is_same_name newer_functions newer_classes newer_constants beyond_functions beyond_classes beyond_constants
parents_of_exceptions = (refl, refl)

-- <?php try { try { throw new Exception('one'); } catch (Exception $e) { throw new LogicException('two'); } } catch
--  (LogicException $e) { echo $e->getMessage(); }
abbrev rethrown_tree : Forest
rethrown_tree =
    (node kind.Try (t token.Keyword "try" (node kind.Block (t token.Op "{" (node kind.Try (t token.Keyword "try" (node
    kind.Block (t token.Op "{" (node kind.Throw (t token.Keyword "throw" (node kind.New (t token.Keyword "new" (t
    token.Label "Exception" (t token.Op "(" (node kind.Args (node kind.Text (t token.Text "'one'" none) none) (t
    token.Op ")" none))))) (t token.Semi ";" none))) (t token.Op "}" none))) (t token.Keyword "catch" (t token.Op "("
    (t token.Label "Exception" (t token.Variable "$e" (t token.Op ")" (node kind.Block (t token.Op "{" (node
    kind.Throw (t token.Keyword "throw" (node kind.New (t token.Keyword "new" (t token.Label "LogicException" (t
    token.Op "(" (node kind.Args (node kind.Text (t token.Text "'two'" none) none) (t token.Op ")" none))))) (t
    token.Semi ";" none))) (t token.Op "}" none))) none)))))))) (t token.Op "}" none))) (t token.Keyword "catch" (t
    token.Op "(" (t token.Label "LogicException" (t token.Variable "$e" (t token.Op ")" (node kind.Block (t token.Op
    "{" (node kind.Echo (t token.Keyword "echo" (node kind.MethodCall (node kind.Variable (t token.Variable "$e" none)
    (t token.Op "->" (t token.Label "getMessage" (t token.Op "(" (node kind.Args none (t token.Op ")" none)))))) (t
    token.Semi ";" none))) (t token.Op "}" none))) none)))))))) none)

rethrown : Comes 200 (file rethrown_tree) (file rethrown_tree) (codes "a.php")
    ((codes "two"), ended)
    ((codes "two"), ended)
unfolding builtin_rows named_constants word_constants is_same_name newer_functions newer_classes newer_constants beyond_functions beyond_classes beyond_constants
rethrown = (refl, refl)

-- <?php function f() { foreach ([1, 2] as $x) { try { if ($x == 1) continue; return 'r' . $x; } finally { echo 'f', $x; } } } echo f();
abbrev nested_finally_tree : Forest
nested_finally_tree =
    (node kind.Function (t token.Keyword "function" (t token.Label "f" (t token.Op "(" (t token.Op ")" (node
    kind.Block (t token.Op "{" (node kind.Foreach (t token.Keyword "foreach" (t token.Op "(" (node kind.Array (t
    token.Op "[" (node kind.Item (node kind.Number (t token.Int "1" none) none) (t token.Op "," (node kind.Item (node
    kind.Number (t token.Int "2" none) none) (t token.Op "]" none))))) (t token.Keyword "as" (node kind.Variable (t
    token.Variable "$x" none) (t token.Op ")" (node kind.Block (t token.Op "{" (node kind.Try (t token.Keyword "try"
    (node kind.Block (t token.Op "{" (node kind.If (t token.Keyword "if" (t token.Op "(" (node kind.Binary (node
    kind.Variable (t token.Variable "$x" none) (t token.Op "==" (node kind.Number (t token.Int "1" none) none))) (t
    token.Op ")" (node kind.Continue (t token.Keyword "continue" (t token.Semi ";" none)) none))))) (node kind.Return
    (t token.Keyword "return" (node kind.Binary (node kind.Text (t token.Text "'r'" none) (t token.Op "." (node
    kind.Variable (t token.Variable "$x" none) none))) (t token.Semi ";" none))) (t token.Op "}" none)))) (t
    token.Keyword "finally" (node kind.Block (t token.Op "{" (node kind.Echo (t token.Keyword "echo" (node kind.Text
    (t token.Text "'f'" none) (t token.Op "," (node kind.Variable (t token.Variable "$x" none) (t token.Semi ";"
    none))))) (t token.Op "}" none))) none)))) (t token.Op "}" none))) none))))))) (t token.Op "}" none))) none)))))
    (node kind.Echo (t token.Keyword "echo" (node kind.Call (t token.Label "f" (t token.Op "(" (node kind.Args none (t
    token.Op ")" none)))) (t token.Semi ";" none))) none))

nested_finally : Comes 200 (file nested_finally_tree) (file nested_finally_tree) (codes "a.php")
    ((codes "f1f2r2"), ended)
    ((codes "f1f2r2"), ended)
unfolding builtin_rows named_constants word_constants is_same_name newer_functions newer_classes newer_constants beyond_functions beyond_classes beyond_constants
nested_finally = (refl, refl)
