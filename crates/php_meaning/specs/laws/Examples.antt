-- Files, and what their runs echo.
use Rattle.std.specs.Prelude.{◌≡◌, ℕ, suc, [], ◌∷◌, codes, Some, None, pos}
use Prim.Native.String.{String}
use Rattle.php_tree.specs.declared.token.Token.{Token}
use Rattle.php_tree.specs.declared.token.TokenKind.{TokenKind}
use Rattle.php_tree.specs.declared.token.TokenKind.TheVariants as token
use Rattle.php_tree.specs.declared.kind.NodeKind.TheVariants as kind
use Rattle.php_tree.specs.declared.kind.NodeKind.TheVariants.{Echo, Number, Text, Constant, Binary, Ternary}
use Rattle.php_tree.specs.declared.version.Version.{Version}
use Rattle.php_tree.specs.Tree.{Forest, none, leaf, node, Tree}
use Rattle.php_meaning.specs.runs.World.{Bytes, Place, Going, Ended, Outside}
use Rattle.php_meaning.specs.Cause.{Overflow}
use Rattle.php_meaning.specs.runs.Input.{Input}
use Rattle.php_meaning.specs.runs.Run.{Program, run}

-- a token without trivia
abbrev pub bare : TokenKind → Bytes → Token
bare kind text = record { kind = kind; lead = []; text = text; start = 0 }

abbrev pub text : Bytes → Tree
text bytes = (Text, leaf (bare token.Text bytes) none)

abbrev pub number : Bytes → Tree
number bytes = (Number, leaf (bare token.Int bytes) none)

abbrev pub constant : Bytes → Tree
constant bytes = (Constant, leaf (bare token.Label bytes) none)

abbrev pub binary : Bytes → Tree → Tree → Tree
binary op a b = (Binary, node a.0 a.1 (leaf (bare token.Op op) (node b.0 b.1 none)))

abbrev pub ternary : Tree → Tree → Tree → Tree
ternary c m l =
    (Ternary, node c.0 c.1 (leaf (bare token.Op (codes "?")) (node m.0 m.1 (leaf (bare token.Op (codes ":")) (node l.0 l.1 none)))))

abbrev pub echo : Tree → Forest
echo t = node Echo (leaf (bare token.Keyword (codes "echo")) (node t.0 t.1 (leaf (bare token.Semi (codes ";")) none))) none

-- one file
abbrev pub program : Forest → Program
program f = record { files = (codes "a.php", f) ∷ []; prepend = None }

-- `echo true ? 'a' : false ? 'b' : 'c';`, as 7.4 groups it
abbrev pub two_ternaries : Forest
two_ternaries = echo (ternary (ternary (constant (codes "true")) (text (codes "'a'")) (constant (codes "false"))) (text (codes "'b'")) (text (codes "'c'")))

-- `echo true?1:false?2:3?4:5;`, as 7.4 groups it
abbrev pub three_ternaries : Forest
three_ternaries =
    echo (ternary (ternary (ternary (constant (codes "true")) (number (codes "1")) (constant (codes "false")))
    (number (codes "2")) (number (codes "3"))) (number (codes "4")) (number (codes "5")))

-- `echo 1 . 2 + 3;`, as 7.4 groups it
abbrev pub concatenation_and_sum : Forest
concatenation_and_sum =
    echo (binary (codes "+") (binary (codes ".") (number (codes "1")) (number (codes "2"))) (number (codes "3")))

-- A file's run from this entry ends with 0 for every bound from one turn on, with this echo; without a turn it goes on,
-- with no echo.
pub record Echoes (v : Version) (f : Forest) (bytes : Bytes) : Type 0 where
  pub echo : (input : Input) (n : ℕ) → (run v (program f) [] (codes "a.php") input (suc n)).echo ≡ bytes
  pub end : (input : Input) (n : ℕ) → (run v (program f) [] (codes "a.php") input (suc n)).end ≡ Ended (pos 0)
  pub before : (input : Input) → (run v (program f) [] (codes "a.php") input 0).end ≡ Going
  pub silent : (input : Input) → (run v (program f) [] (codes "a.php") input 0).echo ≡ []

-- ---- files as the parser reads them

abbrev pub t : TokenKind → String → Forest → Forest
t kind text rest = leaf (bare kind (codes text)) rest

-- `$s = "abc"; echo $s{0}, "$s{0}";`
abbrev pub braces_in_text : Forest
braces_in_text =
    (node kind.ExprStmt (node kind.Assign (node kind.Variable (t token.Variable "$s" none)
    (t token.Op "=" (node kind.Text (t token.Text "\"abc\"" none) none))) (t token.Semi ";" none))
    (node kind.Echo (t token.Keyword "echo"
    (node kind.BraceOffset (node kind.Variable (t token.Variable "$s" none)
    (t token.Op "{" (node kind.Number (t token.Int "0" none) (t token.Op "}" none))))
    (t token.Op "," (node kind.Quoted (t token.Quote "\""
    (node kind.Variable (t token.Variable "$s" none) (t token.Piece "{0}" (t token.QuotedEnd "\"" none))))
    (t token.Semi ";" none))))) none))

-- `$i = PHP_INT_MAX; echo "a"; $i = $i + 1; echo "b";`
abbrev pub sum_past_the_largest : Forest
sum_past_the_largest =
    (node kind.ExprStmt (node kind.Assign (node kind.Variable (t token.Variable "$i" none)
    (t token.Op "=" (node kind.Constant (t token.Label "PHP_INT_MAX" none) none))) (t token.Semi ";" none))
    (node kind.Echo (t token.Keyword "echo" (node kind.Text (t token.Text "\"a\"" none) (t token.Semi ";" none)))
    (node kind.ExprStmt (node kind.Assign
    (node kind.Variable (t token.Variable "$i" none)
    (t token.Op "=" (node kind.Binary (node kind.Variable (t token.Variable "$i" none)
    (t token.Op "+" (node kind.Number (t token.Int "1" none) none))) none))) (t token.Semi ";" none))
    (node kind.Echo (t token.Keyword "echo" (node kind.Text (t token.Text "\"b\"" none) (t token.Semi ";" none)))
    none))))

-- from two turns on, an echo and the end with 0
abbrev pub EchoesFromTwo : Version → Forest → Bytes → Type 0
EchoesFromTwo v f bytes =
    (input : Input) (n : ℕ) →
    ((run v (program f) [] (codes "a.php") input (suc (suc n))).echo ≡ bytes) × ((run v (program f) [] (codes "a.php") input (suc (suc n))).end ≡ Ended (pos 0))

abbrev pub place_of_node : ℕ → Place
place_of_node id = record { file = codes "a.php"; node = Some id }

-- with two turns a run goes on, with this echo; with the third one it leaves the profile
abbrev pub LeavesAtThird : Version → Forest → Bytes → Type 0
LeavesAtThird v f bytes =
    (input : Input) → ((run v (program f) [] (codes "a.php") input 2).echo ≡ bytes) × ((run v (program f) [] (codes "a.php") input 2).end ≡ Going)
    × ((run v (program f) [] (codes "a.php") input 3).end ≡ Outside (place_of_node 9) Overflow)
