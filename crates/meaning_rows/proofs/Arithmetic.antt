-- Rows of whole programs: arithmetic and operators. The 8.3 side is what PHP 8.2 echoes, where it has a meaning here.
use Rattle.std.proofs.Common.{refl, codes}
use Rattle.php_tree.specs.declared.token.TokenKind.TheVariants as token
use Rattle.php_tree.specs.declared.kind.NodeKind.TheVariants as kind
use Rattle.php_tree.specs.Tree.{Forest, none, node}
use Rattle.builtin_tables.specs.Beyond.{beyond_functions, beyond_classes, beyond_constants}
use Rattle.builtin_tables.specs.Builtins.{builtin_rows}
use Rattle.builtin_tables.specs.Constants.{named_constants, word_constants}
use Rattle.builtin_tables.specs.Named.{is_same_name}
use Rattle.builtin_tables.specs.Newer.{newer_functions, newer_classes, newer_constants}
use Rattle.php_meaning.specs.Cause.{Conversion, Overflow}
use Rattle.php_meaning.specs.runs.World.{Going}
use Rattle.meaning_rows.specs.Words.{t, b, file, ended, outside, Comes}

-- <?php echo 1 + 2 * 3, 7 - 10, 10 / 5, 17 % 5, -17 % 5, 2 - -2, +'5', -'6';
abbrev operators_tree : Forest
operators_tree =
    (node kind.Echo (t token.Keyword "echo" (node kind.Binary (node kind.Number (t token.Int "1" none) (t token.Op "+"
    (node kind.Binary (node kind.Number (t token.Int "2" none) (t token.Op "*" (node kind.Number (t token.Int "3"
    none) none))) none))) (t token.Op "," (node kind.Binary (node kind.Number (t token.Int "7" none) (t token.Op "-"
    (node kind.Number (t token.Int "10" none) none))) (t token.Op "," (node kind.Binary (node kind.Number (t token.Int
    "10" none) (t token.Op "/" (node kind.Number (t token.Int "5" none) none))) (t token.Op "," (node kind.Binary
    (node kind.Number (t token.Int "17" none) (t token.Op "%" (node kind.Number (t token.Int "5" none) none))) (t
    token.Op "," (node kind.Binary (node kind.Prefix (t token.Op "-" (node kind.Number (t token.Int "17" none) none))
    (t token.Op "%" (node kind.Number (t token.Int "5" none) none))) (t token.Op "," (node kind.Binary (node
    kind.Number (t token.Int "2" none) (t token.Op "-" (node kind.Prefix (t token.Op "-" (node kind.Number (t
    token.Int "2" none) none)) none))) (t token.Op "," (node kind.Prefix (t token.Op "+" (node kind.Text (t token.Text
    "'5'" none) none)) (t token.Op "," (node kind.Prefix (t token.Op "-" (node kind.Text (t token.Text "'6'" none)
    none)) (t token.Semi ";" none))))))))))))))))) none)

operators : Comes 200 (file operators_tree) (file operators_tree) (codes "a.php")
    ((codes "7-322-245-6"), ended)
    ((codes "7-322-245-6"), ended)
unfolding builtin_rows named_constants word_constants is_same_name newer_functions newer_classes newer_constants beyond_functions beyond_classes beyond_constants
operators = (refl, refl)

-- <?php echo 'ab' | '  ', 'AB' ^ '  ', 'abc' & 'ab', 'a' | 'bcd';
abbrev bits_of_texts_tree : Forest
bits_of_texts_tree =
    (node kind.Echo (t token.Keyword "echo" (node kind.Binary (node kind.Text (t token.Text "'ab'" none) (t token.Op
    "|" (node kind.Text (t token.Text "'  '" none) none))) (t token.Op "," (node kind.Binary (node kind.Text (t
    token.Text "'AB'" none) (t token.Op "^" (node kind.Text (t token.Text "'  '" none) none))) (t token.Op "," (node
    kind.Binary (node kind.Text (t token.Text "'abc'" none) (t token.Op "&" (node kind.Text (t token.Text "'ab'" none)
    none))) (t token.Op "," (node kind.Binary (node kind.Text (t token.Text "'a'" none) (t token.Op "|" (node
    kind.Text (t token.Text "'bcd'" none) none))) (t token.Semi ";" none))))))))) none)

bits_of_texts : Comes 200 (file bits_of_texts_tree) (file bits_of_texts_tree) (codes "a.php")
    ((codes "abababccd"), ended)
    ((codes "abababccd"), ended)
unfolding builtin_rows named_constants word_constants is_same_name newer_functions newer_classes newer_constants beyond_functions beyond_classes beyond_constants
bits_of_texts = (refl, refl)

-- <?php try { echo 1 << -1; } catch (ArithmeticError $e) { echo 'A'; }
abbrev negative_shift_tree : Forest
negative_shift_tree =
    (node kind.Try (t token.Keyword "try" (node kind.Block (t token.Op "{" (node kind.Echo (t token.Keyword "echo"
    (node kind.Binary (node kind.Number (t token.Int "1" none) (t token.Op "<<" (node kind.Prefix (t token.Op "-"
    (node kind.Number (t token.Int "1" none) none)) none))) (t token.Semi ";" none))) (t token.Op "}" none))) (t
    token.Keyword "catch" (t token.Op "(" (t token.Label "ArithmeticError" (t token.Variable "$e" (t token.Op ")"
    (node kind.Block (t token.Op "{" (node kind.Echo (t token.Keyword "echo" (node kind.Text (t token.Text "'A'" none)
    (t token.Semi ";" none))) (t token.Op "}" none))) none)))))))) none)

negative_shift : Comes 200 (file negative_shift_tree) (file negative_shift_tree) (codes "a.php")
    ((codes "A"), ended)
    ((codes "A"), ended)
unfolding builtin_rows named_constants word_constants is_same_name newer_functions newer_classes newer_constants beyond_functions beyond_classes beyond_constants
negative_shift = (refl, refl)

-- <?php try { echo 1 % 0; } catch (DivisionByZeroError $e) { echo 'D'; }
abbrev remainder_by_zero_tree : Forest
remainder_by_zero_tree =
    (node kind.Try (t token.Keyword "try" (node kind.Block (t token.Op "{" (node kind.Echo (t token.Keyword "echo"
    (node kind.Binary (node kind.Number (t token.Int "1" none) (t token.Op "%" (node kind.Number (t token.Int "0"
    none) none))) (t token.Semi ";" none))) (t token.Op "}" none))) (t token.Keyword "catch" (t token.Op "(" (t
    token.Label "DivisionByZeroError" (t token.Variable "$e" (t token.Op ")" (node kind.Block (t token.Op "{" (node
    kind.Echo (t token.Keyword "echo" (node kind.Text (t token.Text "'D'" none) (t token.Semi ";" none))) (t token.Op
    "}" none))) none)))))))) none)

remainder_by_zero : Comes 200 (file remainder_by_zero_tree) (file remainder_by_zero_tree) (codes "a.php")
    ((codes "D"), ended)
    ((codes "D"), ended)
unfolding builtin_rows named_constants word_constants is_same_name newer_functions newer_classes newer_constants beyond_functions beyond_classes beyond_constants
remainder_by_zero = (refl, refl)

-- <?php echo 'a', 1 / 0;
abbrev quotient_by_zero_tree : Forest
quotient_by_zero_tree =
    (node kind.Echo (t token.Keyword "echo" (node kind.Text (t token.Text "'a'" none) (t token.Op "," (node
    kind.Binary (node kind.Number (t token.Int "1" none) (t token.Op "/" (node kind.Number (t token.Int "0" none)
    none))) (t token.Semi ";" none))))) none)

quotient_by_zero : Comes 200 (file quotient_by_zero_tree) (file quotient_by_zero_tree) (codes "a.php")
    ((codes "a"), outside Overflow)
    ((codes "a"), outside Overflow)
unfolding builtin_rows named_constants word_constants is_same_name newer_functions newer_classes newer_constants beyond_functions beyond_classes beyond_constants
quotient_by_zero = (refl, refl)

-- <?php echo 'a', 7 / 2;
abbrev quotient_that_is_no_int_tree : Forest
quotient_that_is_no_int_tree =
    (node kind.Echo (t token.Keyword "echo" (node kind.Text (t token.Text "'a'" none) (t token.Op "," (node
    kind.Binary (node kind.Number (t token.Int "7" none) (t token.Op "/" (node kind.Number (t token.Int "2" none)
    none))) (t token.Semi ";" none))))) none)

quotient_that_is_no_int : Comes 200 (file quotient_that_is_no_int_tree) (file quotient_that_is_no_int_tree) (codes "a.php")
    ((codes "a"), outside Overflow)
    ((codes "a"), outside Overflow)
unfolding builtin_rows named_constants word_constants is_same_name newer_functions newer_classes newer_constants beyond_functions beyond_classes beyond_constants
quotient_that_is_no_int = (refl, refl)

-- <?php echo 'a' . 'b'; echo 1 + 'abc';
abbrev word_in_a_sum_tree : Forest
word_in_a_sum_tree =
    (node kind.Echo (t token.Keyword "echo" (node kind.Binary (node kind.Text (t token.Text "'a'" none) (t token.Op
    "." (node kind.Text (t token.Text "'b'" none) none))) (t token.Semi ";" none))) (node kind.Echo (t token.Keyword
    "echo" (node kind.Binary (node kind.Number (t token.Int "1" none) (t token.Op "+" (node kind.Text (t token.Text
    "'abc'" none) none))) (t token.Semi ";" none))) none))

word_in_a_sum : Comes 200 (file word_in_a_sum_tree) (file word_in_a_sum_tree) (codes "a.php")
    ((codes "ab1"), ended)
    ((codes "ab"), outside Conversion)
unfolding builtin_rows named_constants word_constants is_same_name newer_functions newer_classes newer_constants beyond_functions beyond_classes beyond_constants
word_in_a_sum = (refl, refl)

-- <?php $s = 'abc'; echo 1 + $s;
-- rewritten:
-- <?php $s = 'abc'; echo 1 + (int)$s;
abbrev word_in_a_sum_rewritten_tree : Forest
word_in_a_sum_rewritten_tree =
    (node kind.ExprStmt (node kind.Assign (node kind.Variable (t token.Variable "$s" none) (t token.Op "=" (node
    kind.Text (t token.Text "'abc'" none) none))) (t token.Semi ";" none)) (node kind.Echo (t token.Keyword "echo"
    (node kind.Binary (node kind.Number (t token.Int "1" none) (t token.Op "+" (node kind.Variable (t token.Variable
    "$s" none) none))) (t token.Semi ";" none))) none))

abbrev word_in_a_sum_rewritten_new_tree : Forest
word_in_a_sum_rewritten_new_tree =
    (node kind.ExprStmt (node kind.Assign (node kind.Variable (t token.Variable "$s" none) (t token.Op "=" (node
    kind.Text (t token.Text "'abc'" none) none))) (t token.Semi ";" none)) (node kind.Echo (t token.Keyword "echo"
    (node kind.Binary (node kind.Number (t token.Int "1" none) (t token.Op "+" (node kind.Cast (t token.Cast "(int)"
    (node kind.Variable (t token.Variable "$s" none) none)) none))) (t token.Semi ";" none))) none))

word_in_a_sum_rewritten : Comes 200 (file word_in_a_sum_rewritten_tree) (file word_in_a_sum_rewritten_new_tree) (codes "a.php")
    ((codes "1"), ended)
    ((codes "1"), ended)
unfolding builtin_rows named_constants word_constants is_same_name newer_functions newer_classes newer_constants beyond_functions beyond_classes beyond_constants
word_in_a_sum_rewritten = (refl, refl)

-- <?php echo 1 + '12abc', '3 apples' * 2, ' 4' + '5 ';
abbrev lead_in_a_sum_tree : Forest
lead_in_a_sum_tree =
    (node kind.Echo (t token.Keyword "echo" (node kind.Binary (node kind.Number (t token.Int "1" none) (t token.Op "+"
    (node kind.Text (t token.Text "'12abc'" none) none))) (t token.Op "," (node kind.Binary (node kind.Text (t
    token.Text "'3 apples'" none) (t token.Op "*" (node kind.Number (t token.Int "2" none) none))) (t token.Op ","
    (node kind.Binary (node kind.Text (t token.Text "' 4'" none) (t token.Op "+" (node kind.Text (t token.Text "'5 '"
    none) none))) (t token.Semi ";" none))))))) none)

lead_in_a_sum : Comes 200 (file lead_in_a_sum_tree) (file lead_in_a_sum_tree) (codes "a.php")
    ((codes "1369"), ended)
    ((codes "1369"), ended)
unfolding builtin_rows named_constants word_constants is_same_name newer_functions newer_classes newer_constants beyond_functions beyond_classes beyond_constants
lead_in_a_sum = (refl, refl)

-- <?php echo 'x'; echo 1 + '1.5';
abbrev fraction_in_a_sum_tree : Forest
fraction_in_a_sum_tree =
    (node kind.Echo (t token.Keyword "echo" (node kind.Text (t token.Text "'x'" none) (t token.Semi ";" none))) (node
    kind.Echo (t token.Keyword "echo" (node kind.Binary (node kind.Number (t token.Int "1" none) (t token.Op "+" (node
    kind.Text (t token.Text "'1.5'" none) none))) (t token.Semi ";" none))) none))

fraction_in_a_sum : Comes 200 (file fraction_in_a_sum_tree) (file fraction_in_a_sum_tree) (codes "a.php")
    ((codes "x"), outside Conversion)
    ((codes "x"), outside Conversion)
unfolding builtin_rows named_constants word_constants is_same_name newer_functions newer_classes newer_constants beyond_functions beyond_classes beyond_constants
fraction_in_a_sum = (refl, refl)

-- <?php $i = PHP_INT_MAX; echo 'a'; $i = $i + 1; echo 'b';
abbrev past_64_bits_tree : Forest
past_64_bits_tree =
    (node kind.ExprStmt (node kind.Assign (node kind.Variable (t token.Variable "$i" none) (t token.Op "=" (node
    kind.Constant (t token.Label "PHP_INT_MAX" none) none))) (t token.Semi ";" none)) (node kind.Echo (t token.Keyword
    "echo" (node kind.Text (t token.Text "'a'" none) (t token.Semi ";" none))) (node kind.ExprStmt (node kind.Assign
    (node kind.Variable (t token.Variable "$i" none) (t token.Op "=" (node kind.Binary (node kind.Variable (t
    token.Variable "$i" none) (t token.Op "+" (node kind.Number (t token.Int "1" none) none))) none))) (t token.Semi
    ";" none)) (node kind.Echo (t token.Keyword "echo" (node kind.Text (t token.Text "'b'" none) (t token.Semi ";"
    none))) none))))

past_64_bits : Comes 200 (file past_64_bits_tree) (file past_64_bits_tree) (codes "a.php")
    ((codes "a"), outside Overflow)
    ((codes "a"), outside Overflow)
unfolding builtin_rows named_constants word_constants is_same_name newer_functions newer_classes newer_constants beyond_functions beyond_classes beyond_constants
past_64_bits = (refl, refl)

-- <?php $i = PHP_INT_MAX; echo 'a'; $i = $i + 1; echo 'b';
abbrev past_64_bits_two_turns_tree : Forest
past_64_bits_two_turns_tree =
    (node kind.ExprStmt (node kind.Assign (node kind.Variable (t token.Variable "$i" none) (t token.Op "=" (node
    kind.Constant (t token.Label "PHP_INT_MAX" none) none))) (t token.Semi ";" none)) (node kind.Echo (t token.Keyword
    "echo" (node kind.Text (t token.Text "'a'" none) (t token.Semi ";" none))) (node kind.ExprStmt (node kind.Assign
    (node kind.Variable (t token.Variable "$i" none) (t token.Op "=" (node kind.Binary (node kind.Variable (t
    token.Variable "$i" none) (t token.Op "+" (node kind.Number (t token.Int "1" none) none))) none))) (t token.Semi
    ";" none)) (node kind.Echo (t token.Keyword "echo" (node kind.Text (t token.Text "'b'" none) (t token.Semi ";"
    none))) none))))

past_64_bits_two_turns : Comes 2 (file past_64_bits_two_turns_tree) (file past_64_bits_two_turns_tree) (codes "a.php")
    ((codes "a"), Going)
    ((codes "a"), Going)
unfolding builtin_rows named_constants word_constants is_same_name newer_functions newer_classes newer_constants beyond_functions beyond_classes beyond_constants
past_64_bits_two_turns = (refl, refl)

-- <?php foreach ([0, 1, '', '0', '00', 'a', null, [], [0], -1] as $v) { echo $v ? 't' : 'f'; }
abbrev truths_of_values_tree : Forest
truths_of_values_tree =
    (node kind.Foreach (t token.Keyword "foreach" (t token.Op "(" (node kind.Array (t token.Op "[" (node kind.Item
    (node kind.Number (t token.Int "0" none) none) (t token.Op "," (node kind.Item (node kind.Number (t token.Int "1"
    none) none) (t token.Op "," (node kind.Item (node kind.Text (t token.Text "''" none) none) (t token.Op "," (node
    kind.Item (node kind.Text (t token.Text "'0'" none) none) (t token.Op "," (node kind.Item (node kind.Text (t
    token.Text "'00'" none) none) (t token.Op "," (node kind.Item (node kind.Text (t token.Text "'a'" none) none) (t
    token.Op "," (node kind.Item (node kind.Constant (t token.Label "null" none) none) (t token.Op "," (node kind.Item
    (node kind.Array (t token.Op "[" (t token.Op "]" none)) none) (t token.Op "," (node kind.Item (node kind.Array (t
    token.Op "[" (node kind.Item (node kind.Number (t token.Int "0" none) none) (t token.Op "]" none))) none) (t
    token.Op "," (node kind.Item (node kind.Prefix (t token.Op "-" (node kind.Number (t token.Int "1" none) none))
    none) (t token.Op "]" none))))))))))))))))))))) (t token.Keyword "as" (node kind.Variable (t token.Variable "$v"
    none) (t token.Op ")" (node kind.Block (t token.Op "{" (node kind.Echo (t token.Keyword "echo" (node kind.Ternary
    (node kind.Variable (t token.Variable "$v" none) (t token.Op "?" (node kind.Text (t token.Text "'t'" none) (t
    token.Op ":" (node kind.Text (t token.Text "'f'" none) none))))) (t token.Semi ";" none))) (t token.Op "}" none)))
    none))))))) none)

truths_of_values : Comes 200 (file truths_of_values_tree) (file truths_of_values_tree) (codes "a.php")
    ((codes "ftffttfftt"), ended)
    ((codes "ftffttfftt"), ended)
unfolding builtin_rows named_constants word_constants is_same_name newer_functions newer_classes newer_constants beyond_functions beyond_classes beyond_constants
truths_of_values = (refl, refl)

-- <?php echo (int)'12', (int)' 9x', (int)true, (int)null, (int)[], (int)[0], (int)'abc', (int)"5\n";
abbrev ints_of_casts_tree : Forest
ints_of_casts_tree =
    (node kind.Echo (t token.Keyword "echo" (node kind.Cast (t token.Cast "(int)" (node kind.Text (t token.Text "'12'"
    none) none)) (t token.Op "," (node kind.Cast (t token.Cast "(int)" (node kind.Text (t token.Text "' 9x'" none)
    none)) (t token.Op "," (node kind.Cast (t token.Cast "(int)" (node kind.Constant (t token.Label "true" none)
    none)) (t token.Op "," (node kind.Cast (t token.Cast "(int)" (node kind.Constant (t token.Label "null" none)
    none)) (t token.Op "," (node kind.Cast (t token.Cast "(int)" (node kind.Array (t token.Op "[" (t token.Op "]"
    none)) none)) (t token.Op "," (node kind.Cast (t token.Cast "(int)" (node kind.Array (t token.Op "[" (node
    kind.Item (node kind.Number (t token.Int "0" none) none) (t token.Op "]" none))) none)) (t token.Op "," (node
    kind.Cast (t token.Cast "(int)" (node kind.Text (t token.Text "'abc'" none) none)) (t token.Op "," (node kind.Cast
    (t token.Cast "(int)" (node kind.Text (t token.Text "\"5\\n\"" none) none)) (t token.Semi ";"
    none))))))))))))))))) none)

ints_of_casts : Comes 200 (file ints_of_casts_tree) (file ints_of_casts_tree) (codes "a.php")
    ((codes "129100105"), ended)
    ((codes "129100105"), ended)
unfolding builtin_rows named_constants word_constants is_same_name newer_functions newer_classes newer_constants beyond_functions beyond_classes beyond_constants
ints_of_casts = (refl, refl)

-- <?php echo (string)12, (string)true, '[', (string)false, (string)null, ']', (string)-5;
abbrev texts_of_casts_tree : Forest
texts_of_casts_tree =
    (node kind.Echo (t token.Keyword "echo" (node kind.Cast (t token.Cast "(string)" (node kind.Number (t token.Int
    "12" none) none)) (t token.Op "," (node kind.Cast (t token.Cast "(string)" (node kind.Constant (t token.Label
    "true" none) none)) (t token.Op "," (node kind.Text (t token.Text "'['" none) (t token.Op "," (node kind.Cast (t
    token.Cast "(string)" (node kind.Constant (t token.Label "false" none) none)) (t token.Op "," (node kind.Cast (t
    token.Cast "(string)" (node kind.Constant (t token.Label "null" none) none)) (t token.Op "," (node kind.Text (t
    token.Text "']'" none) (t token.Op "," (node kind.Cast (t token.Cast "(string)" (node kind.Prefix (t token.Op "-"
    (node kind.Number (t token.Int "5" none) none)) none)) (t token.Semi ";" none))))))))))))))) none)

texts_of_casts : Comes 200 (file texts_of_casts_tree) (file texts_of_casts_tree) (codes "a.php")
    ((codes "121[]-5"), ended)
    ((codes "121[]-5"), ended)
unfolding builtin_rows named_constants word_constants is_same_name newer_functions newer_classes newer_constants beyond_functions beyond_classes beyond_constants
texts_of_casts = (refl, refl)

-- <?php echo count((array)null), count((array)'a'), ((array)5)[0], count((array)[1, 2]), (bool)'0' ? 't' : 'f';
abbrev arrays_of_casts_tree : Forest
arrays_of_casts_tree =
    (node kind.Echo (t token.Keyword "echo" (node kind.Call (t token.Label "count" (t token.Op "(" (node kind.Args
    (node kind.Cast (t token.Cast "(array)" (node kind.Constant (t token.Label "null" none) none)) none) (t token.Op
    ")" none)))) (t token.Op "," (node kind.Call (t token.Label "count" (t token.Op "(" (node kind.Args (node
    kind.Cast (t token.Cast "(array)" (node kind.Text (t token.Text "'a'" none) none)) none) (t token.Op ")" none))))
    (t token.Op "," (node kind.Offset (node kind.Paren (t token.Op "(" (node kind.Cast (t token.Cast "(array)" (node
    kind.Number (t token.Int "5" none) none)) (t token.Op ")" none))) (t token.Op "[" (node kind.Number (t token.Int
    "0" none) (t token.Op "]" none)))) (t token.Op "," (node kind.Call (t token.Label "count" (t token.Op "(" (node
    kind.Args (node kind.Cast (t token.Cast "(array)" (node kind.Array (t token.Op "[" (node kind.Item (node
    kind.Number (t token.Int "1" none) none) (t token.Op "," (node kind.Item (node kind.Number (t token.Int "2" none)
    none) (t token.Op "]" none))))) none)) none) (t token.Op ")" none)))) (t token.Op "," (node kind.Ternary (node
    kind.Cast (t token.Cast "(bool)" (node kind.Text (t token.Text "'0'" none) none)) (t token.Op "?" (node kind.Text
    (t token.Text "'t'" none) (t token.Op ":" (node kind.Text (t token.Text "'f'" none) none))))) (t token.Semi ";"
    none))))))))))) none)

arrays_of_casts : Comes 200 (file arrays_of_casts_tree) (file arrays_of_casts_tree) (codes "a.php")
    ((codes "0152f"), ended)
    ((codes "0152f"), ended)
unfolding builtin_rows named_constants word_constants is_same_name newer_functions newer_classes newer_constants beyond_functions beyond_classes beyond_constants
arrays_of_casts = (refl, refl)

-- <?php $n = null; $n++; echo $n; $m = null; $m--; echo is_null($m) ? 'n' : 'x'; $b = true; $b++; echo $b; $i = 5; echo $i++ + $i, --$i;
abbrev steps_of_values_tree : Forest
steps_of_values_tree =
    (node kind.ExprStmt (node kind.Assign (node kind.Variable (t token.Variable "$n" none) (t token.Op "=" (node
    kind.Constant (t token.Label "null" none) none))) (t token.Semi ";" none)) (node kind.ExprStmt (node kind.Postfix
    (node kind.Variable (t token.Variable "$n" none) (t token.Op "++" none)) (t token.Semi ";" none)) (node kind.Echo
    (t token.Keyword "echo" (node kind.Variable (t token.Variable "$n" none) (t token.Semi ";" none))) (node
    kind.ExprStmt (node kind.Assign (node kind.Variable (t token.Variable "$m" none) (t token.Op "=" (node
    kind.Constant (t token.Label "null" none) none))) (t token.Semi ";" none)) (node kind.ExprStmt (node kind.Postfix
    (node kind.Variable (t token.Variable "$m" none) (t token.Op "--" none)) (t token.Semi ";" none)) (node kind.Echo
    (t token.Keyword "echo" (node kind.Ternary (node kind.Call (t token.Label "is_null" (t token.Op "(" (node
    kind.Args (node kind.Variable (t token.Variable "$m" none) none) (t token.Op ")" none)))) (t token.Op "?" (node
    kind.Text (t token.Text "'n'" none) (t token.Op ":" (node kind.Text (t token.Text "'x'" none) none))))) (t
    token.Semi ";" none))) (node kind.ExprStmt (node kind.Assign (node kind.Variable (t token.Variable "$b" none) (t
    token.Op "=" (node kind.Constant (t token.Label "true" none) none))) (t token.Semi ";" none)) (node kind.ExprStmt
    (node kind.Postfix (node kind.Variable (t token.Variable "$b" none) (t token.Op "++" none)) (t token.Semi ";"
    none)) (node kind.Echo (t token.Keyword "echo" (node kind.Variable (t token.Variable "$b" none) (t token.Semi ";"
    none))) (node kind.ExprStmt (node kind.Assign (node kind.Variable (t token.Variable "$i" none) (t token.Op "="
    (node kind.Number (t token.Int "5" none) none))) (t token.Semi ";" none)) (node kind.Echo (t token.Keyword "echo"
    (node kind.Binary (node kind.Postfix (node kind.Variable (t token.Variable "$i" none) (t token.Op "++" none)) (t
    token.Op "+" (node kind.Variable (t token.Variable "$i" none) none))) (t token.Op "," (node kind.Prefix (t
    token.Op "--" (node kind.Variable (t token.Variable "$i" none) none)) (t token.Semi ";" none))))) none)))))))))))

steps_of_values : Comes 200 (file steps_of_values_tree) (file steps_of_values_tree) (codes "a.php")
    ((codes "1n1115"), ended)
    ((codes "1n1115"), ended)
unfolding builtin_rows named_constants word_constants is_same_name newer_functions newer_classes newer_constants beyond_functions beyond_classes beyond_constants
steps_of_values = (refl, refl)

-- <?php echo true ? 'a' : 'b', null ?: 'c', 0 ?: 'd', 'e' ?: 'f', $u ?? 'g', null ?? 'h';
abbrev ternaries_tree : Forest
ternaries_tree =
    (node kind.Echo (t token.Keyword "echo" (node kind.Ternary (node kind.Constant (t token.Label "true" none) (t
    token.Op "?" (node kind.Text (t token.Text "'a'" none) (t token.Op ":" (node kind.Text (t token.Text "'b'" none)
    none))))) (t token.Op "," (node kind.ShortTernary (node kind.Constant (t token.Label "null" none) (t token.Op "?"
    (t token.Op ":" (node kind.Text (t token.Text "'c'" none) none)))) (t token.Op "," (node kind.ShortTernary (node
    kind.Number (t token.Int "0" none) (t token.Op "?" (t token.Op ":" (node kind.Text (t token.Text "'d'" none)
    none)))) (t token.Op "," (node kind.ShortTernary (node kind.Text (t token.Text "'e'" none) (t token.Op "?" (t
    token.Op ":" (node kind.Text (t token.Text "'f'" none) none)))) (t token.Op "," (node kind.Binary (node
    kind.Variable (t token.Variable "$u" none) (t token.Op "??" (node kind.Text (t token.Text "'g'" none) none))) (t
    token.Op "," (node kind.Binary (node kind.Constant (t token.Label "null" none) (t token.Op "??" (node kind.Text (t
    token.Text "'h'" none) none))) (t token.Semi ";" none))))))))))))) none)

ternaries : Comes 200 (file ternaries_tree) (file ternaries_tree) (codes "a.php")
    ((codes "acdegh"), ended)
    ((codes "acdegh"), ended)
unfolding builtin_rows named_constants word_constants is_same_name newer_functions newer_classes newer_constants beyond_functions beyond_classes beyond_constants
ternaries = (refl, refl)

-- <?php echo true ? 'a' : false ? 'b' : 'c';
-- rewritten:
-- <?php echo (true ? 'a' : false) ? 'b' : 'c';
abbrev nested_ternaries_tree : Forest
nested_ternaries_tree =
    (node kind.Echo (t token.Keyword "echo" (node kind.Ternary (node kind.Ternary (node kind.Constant (t token.Label
    "true" none) (t token.Op "?" (node kind.Text (t token.Text "'a'" none) (t token.Op ":" (node kind.Constant (t
    token.Label "false" none) none))))) (t token.Op "?" (node kind.Text (t token.Text "'b'" none) (t token.Op ":"
    (node kind.Text (t token.Text "'c'" none) none))))) (t token.Semi ";" none))) none)

abbrev nested_ternaries_new_tree : Forest
nested_ternaries_new_tree =
    (node kind.Echo (t token.Keyword "echo" (node kind.Ternary (node kind.Paren (t token.Op "(" (node kind.Ternary
    (node kind.Constant (t token.Label "true" none) (t token.Op "?" (node kind.Text (t token.Text "'a'" none) (t
    token.Op ":" (node kind.Constant (t token.Label "false" none) none))))) (t token.Op ")" none))) (t token.Op "?"
    (node kind.Text (t token.Text "'b'" none) (t token.Op ":" (node kind.Text (t token.Text "'c'" none) none))))) (t
    token.Semi ";" none))) none)

nested_ternaries : Comes 200 (file nested_ternaries_tree) (file nested_ternaries_new_tree) (codes "a.php")
    ((codes "b"), ended)
    ((codes "b"), ended)
unfolding builtin_rows named_constants word_constants is_same_name newer_functions newer_classes newer_constants beyond_functions beyond_classes beyond_constants
nested_ternaries = (refl, refl)

-- <?php echo "sum: " . 1 + 2;
-- rewritten:
-- <?php echo (int)("sum: " . 1) + 2;
abbrev sum_behind_a_concatenation_tree : Forest
sum_behind_a_concatenation_tree =
    (node kind.Echo (t token.Keyword "echo" (node kind.Binary (node kind.Binary (node kind.Text (t token.Text
    "\"sum: \"" none) (t token.Op "." (node kind.Number (t token.Int "1" none) none))) (t token.Op "+" (node
    kind.Number (t token.Int "2" none) none))) (t token.Semi ";" none))) none)

abbrev sum_behind_a_concatenation_new_tree : Forest
sum_behind_a_concatenation_new_tree =
    (node kind.Echo (t token.Keyword "echo" (node kind.Binary (node kind.Cast (t token.Cast "(int)" (node kind.Paren
    (t token.Op "(" (node kind.Binary (node kind.Text (t token.Text "\"sum: \"" none) (t token.Op "." (node
    kind.Number (t token.Int "1" none) none))) (t token.Op ")" none))) none)) (t token.Op "+" (node kind.Number (t
    token.Int "2" none) none))) (t token.Semi ";" none))) none)

sum_behind_a_concatenation : Comes 200 (file sum_behind_a_concatenation_tree) (file sum_behind_a_concatenation_new_tree) (codes "a.php")
    ((codes "2"), ended)
    ((codes "2"), ended)
unfolding builtin_rows named_constants word_constants is_same_name newer_functions newer_classes newer_constants beyond_functions beyond_classes beyond_constants
sum_behind_a_concatenation = (refl, refl)

-- <?php function f($n) { echo $n; return $n; } echo f(1) + f(2) * f(3), f(4) . f(5), [f(6), f(7)][f(0)];
abbrev left_to_right_tree : Forest
left_to_right_tree =
    (node kind.Function (t token.Keyword "function" (t token.Label "f" (t token.Op "(" (node kind.Param (t
    token.Variable "$n" none) (t token.Op ")" (node kind.Block (t token.Op "{" (node kind.Echo (t token.Keyword "echo"
    (node kind.Variable (t token.Variable "$n" none) (t token.Semi ";" none))) (node kind.Return (t token.Keyword
    "return" (node kind.Variable (t token.Variable "$n" none) (t token.Semi ";" none))) (t token.Op "}" none))))
    none)))))) (node kind.Echo (t token.Keyword "echo" (node kind.Binary (node kind.Call (t token.Label "f" (t
    token.Op "(" (node kind.Args (node kind.Number (t token.Int "1" none) none) (t token.Op ")" none)))) (t token.Op
    "+" (node kind.Binary (node kind.Call (t token.Label "f" (t token.Op "(" (node kind.Args (node kind.Number (t
    token.Int "2" none) none) (t token.Op ")" none)))) (t token.Op "*" (node kind.Call (t token.Label "f" (t token.Op
    "(" (node kind.Args (node kind.Number (t token.Int "3" none) none) (t token.Op ")" none)))) none))) none))) (t
    token.Op "," (node kind.Binary (node kind.Call (t token.Label "f" (t token.Op "(" (node kind.Args (node
    kind.Number (t token.Int "4" none) none) (t token.Op ")" none)))) (t token.Op "." (node kind.Call (t token.Label
    "f" (t token.Op "(" (node kind.Args (node kind.Number (t token.Int "5" none) none) (t token.Op ")" none))))
    none))) (t token.Op "," (node kind.Offset (node kind.Array (t token.Op "[" (node kind.Item (node kind.Call (t
    token.Label "f" (t token.Op "(" (node kind.Args (node kind.Number (t token.Int "6" none) none) (t token.Op ")"
    none)))) none) (t token.Op "," (node kind.Item (node kind.Call (t token.Label "f" (t token.Op "(" (node kind.Args
    (node kind.Number (t token.Int "7" none) none) (t token.Op ")" none)))) none) (t token.Op "]" none))))) (t
    token.Op "[" (node kind.Call (t token.Label "f" (t token.Op "(" (node kind.Args (node kind.Number (t token.Int "0"
    none) none) (t token.Op ")" none)))) (t token.Op "]" none)))) (t token.Semi ";" none))))))) none))

left_to_right : Comes 200 (file left_to_right_tree) (file left_to_right_tree) (codes "a.php")
    ((codes "123745456706"), ended)
    ((codes "123745456706"), ended)
unfolding builtin_rows named_constants word_constants is_same_name newer_functions newer_classes newer_constants beyond_functions beyond_classes beyond_constants
left_to_right = (refl, refl)

-- <?php echo print 'a'; print('b') && print 'c'; echo 'd', 'e', @$nope, -1;
abbrev printing_tree : Forest
printing_tree =
    (node kind.Echo (t token.Keyword "echo" (node kind.Print (t token.Keyword "print" (node kind.Text (t token.Text
    "'a'" none) none)) (t token.Semi ";" none))) (node kind.ExprStmt (node kind.Print (t token.Keyword "print" (node
    kind.Binary (node kind.Paren (t token.Op "(" (node kind.Text (t token.Text "'b'" none) (t token.Op ")" none))) (t
    token.Op "&&" (node kind.Print (t token.Keyword "print" (node kind.Text (t token.Text "'c'" none) none)) none)))
    none)) (t token.Semi ";" none)) (node kind.Echo (t token.Keyword "echo" (node kind.Text (t token.Text "'d'" none)
    (t token.Op "," (node kind.Text (t token.Text "'e'" none) (t token.Op "," (node kind.Prefix (t token.Op "@" (node
    kind.Variable (t token.Variable "$nope" none) none)) (t token.Op "," (node kind.Prefix (t token.Op "-" (node
    kind.Number (t token.Int "1" none) none)) (t token.Semi ";" none))))))))) none)))

printing : Comes 200 (file printing_tree) (file printing_tree) (codes "a.php")
    ((codes "a1c1de-1"), ended)
    ((codes "a1c1de-1"), ended)
unfolding builtin_rows named_constants word_constants is_same_name newer_functions newer_classes newer_constants beyond_functions beyond_classes beyond_constants
printing = (refl, refl)
