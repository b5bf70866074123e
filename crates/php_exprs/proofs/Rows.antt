-- Documented rows: the trees of small texts, by the definitions.
use Rattle.std.proofs.Common.{◌≡◌, ℕ, List, [], ◌∷◌, Option, Some, None, refl}
use Rattle.std.specs.Prelude.{codes}
use Rattle.php_tree.specs.declared.kind.NodeKind.{NodeKind}
use Rattle.php_tree.specs.declared.kind.NodeKind.TheVariants as k
use Rattle.php_tree.specs.declared.token.Token.{Token}
use Rattle.php_tree.specs.declared.token.TokenKind.{TokenKind}
use Rattle.php_tree.specs.declared.token.TokenKind.TheVariants as kind
use Rattle.php_tree.specs.declared.version.Version.{Version}
use Rattle.php_tree.specs.declared.version.Version.TheVariants.{V74, V83}
use Rattle.php_tree.specs.Tree.{Forest, Tree, none, leaf, node}
use Rattle.php_forms.specs.declared.item.Sort.{Sort}
use Rattle.php_forms.specs.declared.item.Sort.TheVariants.{Statement, Operand}
use Rattle.php_grammar.specs.Edges.{edge}
use Rattle.php_terminals.specs.Indents.{is_misindented}
use Rattle.php_grammar.specs.Tables.{php}
use Rattle.php_terminals.specs.Words.{keywords, operators, labels}
use Rattle.php_exprs.specs.Parsing.{Read, parse}

-- ---- tokens and trees

abbrev token : TokenKind → List ℕ → Token
token kind text = record { kind = kind; lead = []; text = text; start = 0 }

abbrev op : List ℕ → Token
op text = token kind.Op text

abbrev key : List ℕ → Token
key text = token kind.Keyword text

abbrev one : Token
one = token kind.Int (codes "1")

abbrev a : Token
a = token kind.Variable (codes "$a")

abbrev name : Token
name = token kind.Label (codes "B")

abbrev semi : Token
semi = token kind.Semi (codes ";")

abbrev number : Tree
number = (k.Number, leaf one none)

abbrev variable : Tree
variable = (k.Variable, leaf a none)

-- a node before other parts
abbrev before : Tree → Forest → Forest
before x f = node x.0 x.1 f

-- an operator between two operands
abbrev between : NodeKind → Tree → Token → Tree → Tree
between kind x o y = (kind, before x (leaf o (before y none)))

abbrev binary : Tree → Token → Tree → Tree
binary = between k.Binary

-- an operator before an operand
abbrev prefix : NodeKind → Token → Tree → Tree
prefix kind o x = (kind, leaf o (before x none))

abbrev ternary : Tree → Tree → Tree → Tree
ternary x y z = (k.Ternary, before x (leaf (op (codes "?")) (before y (leaf (op (codes ":")) (before z none)))))

abbrev short_ternary : Tree → Tree → Tree
short_ternary x y = (k.ShortTernary, before x (leaf (op (codes "?")) (leaf (op (codes ":")) (before y none))))

abbrev statement : Tree → Tree
statement x = (k.ExprStmt, before x (leaf semi none))

-- the tree of the tokens, as a statement at most 10 deep
abbrev tree_of : Read Tree → Option Tree
tree_of None = None
tree_of (Some (x, [])) = Some x
tree_of (Some (x, t ∷ ts)) = None

abbrev statement_of : Version → List Token → Option Tree
statement_of v ts = tree_of (parse (php v) 7 10 Statement ts)

-- ---- levels

abbrev dot_plus : List Token
dot_plus = one ∷ op (codes ".") ∷ one ∷ op (codes "+") ∷ one ∷ semi ∷ []

-- `1 . 2 + 3`: 7.4 has `.` and `+` at one level
pub dot_plus_74 : statement_of V74 dot_plus ≡ Some (statement (binary (binary number (op (codes ".")) number) (op (codes "+")) number))
unfolding keywords operators labels is_misindented edge
dot_plus_74 = refl

-- 8.3 has `+` tighter
pub dot_plus_83 : statement_of V83 dot_plus ≡ Some (statement (binary number (op (codes ".")) (binary number (op (codes "+")) number)))
unfolding keywords operators labels is_misindented edge
dot_plus_83 = refl

abbrev shift_dot : List Token
shift_dot = one ∷ op (codes "<<") ∷ one ∷ op (codes ".") ∷ one ∷ semi ∷ []

-- `1 << 2 . 3`
pub shift_dot_74 : statement_of V74 shift_dot ≡ Some (statement (binary number (op (codes "<<")) (binary number (op (codes ".")) number)))
unfolding keywords operators labels is_misindented edge
shift_dot_74 = refl

pub shift_dot_83 : statement_of V83 shift_dot ≡ Some (statement (binary (binary number (op (codes "<<")) number) (op (codes ".")) number))
unfolding keywords operators labels is_misindented edge
shift_dot_83 = refl

-- `1 ** 2 ** 3` groups to the right
pub powers : statement_of V83 (one ∷ op (codes "**") ∷ one ∷ op (codes "**") ∷ one ∷ semi ∷ []) ≡ Some
    (statement (binary number (op (codes "**")) (binary number (op (codes "**")) number)))
unfolding keywords operators labels is_misindented edge
powers = refl

-- `1 < 2 < 3` groups neither way
pub orders : statement_of V83 (one ∷ op (codes "<") ∷ one ∷ op (codes "<") ∷ one ∷ semi ∷ []) ≡ None
unfolding keywords operators labels is_misindented edge
orders = refl

-- `1 ?? 2 ?? 3` groups to the right
pub coalesces : statement_of V83 (one ∷ op (codes "??") ∷ one ∷ op (codes "??") ∷ one ∷ semi ∷ []) ≡ Some
    (statement (binary number (op (codes "??")) (binary number (op (codes "??")) number)))
unfolding keywords operators labels is_misindented edge
coalesces = refl

-- `1 and 2 || 3`
pub words : statement_of V83 (one ∷ key (codes "and") ∷ one ∷ op (codes "||") ∷ one ∷ semi ∷ []) ≡ Some
    (statement (binary number (key (codes "and")) (binary number (op (codes "||")) number)))
unfolding keywords operators labels is_misindented edge
words = refl

-- `!$a instanceof B`
pub not_instance : statement_of V83 (op (codes "!") ∷ a ∷ key (codes "instanceof") ∷ name ∷ semi ∷ []) ≡ Some
    (statement (prefix k.Prefix (op (codes "!"))
    (k.InstanceOf, before variable (leaf (key (codes "instanceof")) (leaf name none)))))
unfolding keywords operators labels is_misindented edge
not_instance = refl

-- `-$a ** 2`
pub minus_power : statement_of V83 (op (codes "-") ∷ a ∷ op (codes "**") ∷ one ∷ semi ∷ []) ≡ Some
    (statement (prefix k.Prefix (op (codes "-")) (binary variable (op (codes "**")) number)))
unfolding keywords operators labels is_misindented edge
minus_power = refl

-- `-1 * 2`
pub minus_times : statement_of V83 (op (codes "-") ∷ one ∷ op (codes "*") ∷ one ∷ semi ∷ []) ≡ Some
    (statement (binary (prefix k.Prefix (op (codes "-")) number) (op (codes "*")) number))
unfolding keywords operators labels is_misindented edge
minus_times = refl

-- ---- ternaries

abbrev ternaries : List Token
ternaries = one ∷ op (codes "?") ∷ one ∷ op (codes ":") ∷ one ∷ op (codes "?") ∷ one ∷ op (codes ":") ∷ one ∷ semi ∷ []

-- `1 ? 2 : 3 ? 4 : 5`: 7.4 groups to the left
pub ternaries_74 : statement_of V74 ternaries ≡ Some (statement (ternary (ternary number number number) number number))
unfolding keywords operators labels is_misindented edge
ternaries_74 = refl

-- 8.3 refuses it
pub ternaries_83 : statement_of V83 ternaries ≡ None
unfolding keywords operators labels is_misindented edge
ternaries_83 = refl

-- `1 ?: 2 ?: 3`
pub short_ternaries : statement_of V83 (one ∷ op (codes "?") ∷ op (codes ":") ∷ one ∷ op (codes "?") ∷ op (codes ":")
    ∷ one ∷ semi ∷ []) ≡ Some (statement (short_ternary (short_ternary number number) number))
unfolding keywords operators labels is_misindented edge
short_ternaries = refl

-- ---- what reaches far right

-- `-$a = 1 + 2`: the assignment takes the variable behind a tighter operator
pub assigned : statement_of V83 (op (codes "-") ∷ a ∷ op (codes "=") ∷ one ∷ op (codes "+") ∷ one ∷ semi ∷ []) ≡ Some
    (statement (prefix k.Prefix (op (codes "-"))
    (between k.Assign variable (op (codes "=")) (binary number (op (codes "+")) number))))
unfolding keywords operators labels is_misindented edge
assigned = refl

-- `1 + $a = 2`
pub assigned_behind : statement_of V83 (one ∷ op (codes "+") ∷ a ∷ op (codes "=") ∷ one ∷ semi ∷ []) ≡ Some
    (statement (binary number (op (codes "+")) (between k.Assign variable (op (codes "=")) number)))
unfolding keywords operators labels is_misindented edge
assigned_behind = refl

-- `1 * print 2 + 3`
pub prints : statement_of V83 (one ∷ op (codes "*") ∷ key (codes "print") ∷ one ∷ op (codes "+") ∷ one ∷ semi ∷ []) ≡
    Some (statement (binary number (op (codes "*"))
    (prefix k.Print (key (codes "print")) (binary number (op (codes "+")) number))))
unfolding keywords operators labels is_misindented edge
prints = refl

-- `++$a ** 2`
pub steps : statement_of V83 (op (codes "++") ∷ a ∷ op (codes "**") ∷ one ∷ semi ∷ []) ≡ Some
    (statement (binary (prefix k.Prefix (op (codes "++")) variable) (op (codes "**")) number))
unfolding keywords operators labels is_misindented edge
steps = refl

-- ---- offsets in braces

abbrev braces : List Token
braces = a ∷ op (codes "{") ∷ one ∷ op (codes "}") ∷ semi ∷ []

-- `$a{1}`
pub braces_74 : statement_of V74 braces ≡ Some (statement (k.BraceOffset, before variable (leaf (op (codes "{")) (before number (leaf (op (codes "}")) none)))))
unfolding keywords operators labels is_misindented edge
braces_74 = refl

pub braces_83 : statement_of V83 braces ≡ None
unfolding keywords operators labels is_misindented edge
braces_83 = refl

-- ---- the nearest else

abbrev condition : List Token → List Token
condition ts = key (codes "if") ∷ op (codes "(") ∷ one ∷ op (codes ")") ∷ ts

abbrev if_parts : Forest → Forest
if_parts f = leaf (key (codes "if")) (leaf (op (codes "(")) (before number (leaf (op (codes ")")) f)))

-- `if (1) if (1) 1; else 1;`
pub nearest : statement_of V83 (condition (condition (one ∷ semi ∷ key (codes "else") ∷ one ∷ semi ∷ []))) ≡ Some (
  k.If,
  if_parts (before (
    k.If,
    if_parts (before (statement number)
        (leaf (key (codes "else")) (before (statement number) none))),
  ) none),
)
unfolding keywords operators labels is_misindented edge
nearest = refl

-- ---- left operands by their edges

-- `1 + print 2 < 3 < 4`: no operator behind `print` may take it as a part of its left operand
pub edges : statement_of V83 (one ∷ op (codes "+") ∷ key (codes "print") ∷ one ∷ op (codes "<") ∷ one ∷ op (codes "<") ∷ one ∷ semi ∷ []) ≡ None
unfolding keywords operators labels is_misindented edge
edges = refl

-- `1 + print 2 and 3`
pub print_before_and : statement_of V83 (one ∷ op (codes "+") ∷ key (codes "print") ∷ one ∷ key (codes "and") ∷ one
    ∷ semi ∷ []) ≡ Some (statement (binary (binary number (op (codes "+"))
    (prefix k.Print (key (codes "print")) number)) (key (codes "and")) number))
unfolding keywords operators labels is_misindented edge
print_before_and = refl

-- `2 ** -1 * 3`
pub minus_behind_power : statement_of V83 (one ∷ op (codes "**") ∷ op (codes "-") ∷ one ∷ op (codes "*") ∷ one ∷ semi
    ∷ []) ≡ Some (statement (binary (binary number (op (codes "**")) (prefix k.Prefix (op (codes "-")) number))
    (op (codes "*")) number))
unfolding keywords operators labels is_misindented edge
minus_behind_power = refl

-- `list($a) + 1`
pub list_alone : statement_of V83 (key (codes "list") ∷ op (codes "(") ∷ a ∷ op (codes ")") ∷ op (codes "+") ∷ one ∷ semi ∷ []) ≡ None
unfolding keywords operators labels is_misindented edge
list_alone = refl
