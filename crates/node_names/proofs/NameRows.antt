-- What nodes declare and use, worked out by hand. Each row has its source above it.
use Rattle.std.proofs.Common.{◌≡◌, ℕ, List, [], ◌∷◌, ◌++◌, codes, refl}
use Rattle.std.specs.Prelude.{Some}
use Rattle.php_tree.specs.declared.kind.NodeKind.TheVariants as kind
use Rattle.php_tree.specs.declared.token.TokenKind.{TokenKind}
use Rattle.php_tree.specs.declared.token.TokenKind.TheVariants as token
use Rattle.php_tree.specs.Tree.{Forest, none, leaf}
use Rattle.scope_names.specs.Form.{Form, Word, Child, form}
use Rattle.scope_names.specs.Sites.{Site, file_site}
use Rattle.node_names.specs.declared.name.Name.{Name}
use Rattle.node_names.specs.declared.name_sort.NameSort.{NameSort}
use Rattle.node_names.specs.declared.name_sort.NameSort.TheVariants as sort
use Rattle.node_names.specs.Compared.{Use}
use Rattle.node_names.specs.Declares.{declares}
use Rattle.node_names.specs.Uses.{uses}

-- words of a form
abbrev key : List ℕ → Form → Form
key w f = Word token.Keyword w ∷ f

abbrev op : List ℕ → Form → Form
op w f = Word token.Op w ∷ f

abbrev label : List ℕ → Form → Form
label w f = Word token.Label w ∷ f

abbrev long : List ℕ → Form → Form
long w f = Word token.Name w ∷ f

abbrev var : List ℕ → Form → Form
var w f = Word token.Variable w ∷ f

abbrev kid : Form → Form
kid f = Child ∷ f

-- in a class N\C that extends N\P
abbrev here : Site
here = record (file_site (codes "a.php")) { space = codes "N"; class = Some (codes "N\\C"); parent = Some (codes "N\\P") }

abbrev is : NameSort → List ℕ → List Name
is s text = record { sort = s; text = text } ∷ []

abbrev one : NameSort → List ℕ → List Use
one s text = record { sort = s; texts = text ∷ [] } ∷ []

-- ---- names

-- a token without trivia before other parts
abbrev part : TokenKind → List ℕ → Forest → Forest
part k text rest = leaf (record { kind = k; lead = []; text = text; start = 0 }) rest

-- NameSpace\f(): a name of several tokens is one word
name_row :
    form (part token.Keyword (codes "NameSpace") (part token.Op (codes "\\") (part token.Label (codes "f")
    (part token.Op (codes "(") (part token.Op (codes ")") none)))))
    ≡ long (codes "NameSpace\\f") (op (codes "(") (op (codes ")") []))
name_row = refl

-- ---- declarations

-- function &Foo(..) { .. }
function_row :
    declares kind.Function (key (codes "function") (op (codes "&") (label (codes "Foo") (op (codes "(") (kid (op (codes ")") (kid []))))))) here
    ≡ is sort.Function (codes "n\\foo")
function_row = refl

-- abstract class A extends B { .. }
class_row :
    declares kind.Class (key (codes "abstract")
    (key (codes "Class") (label (codes "A")
    (key (codes "extends") (label (codes "B") (op (codes "{") (kid (op (codes "}") [])))))))) here
    ≡ is sort.Class (codes "n\\a")
class_row = refl

-- const Foo = 1, Bar = 2;
const_row :
    declares kind.Const (key (codes "const") (label (codes "Foo") (op (codes "=") (kid (op (codes ",") (label (codes "Bar") (op (codes "=") (kid (op (codes ";") []))))))))) here
    ≡ is sort.Constant (codes "n\\Foo") ++ is sort.Constant (codes "n\\Bar")
const_row = refl

-- public function &List(..) { .. }
method_row :
    declares kind.Method (key (codes "public") (key (codes "function") (op (codes "&") (key (codes "List") (op (codes "(") (op (codes ")") (kid []))))))) here
    ≡ is sort.Method (codes "list")
method_row = refl

-- private const A = 1, List = 2;
class_const_row :
    declares kind.ClassConst (key (codes "private") (key (codes "const")
    (label (codes "A") (op (codes "=") (kid (op (codes ",")
    (key (codes "List") (op (codes "=") (kid (op (codes ";") [])))))))))) here
    ≡ is sort.ClassConstant (codes "A") ++ is sort.ClassConstant (codes "List")
class_const_row = refl

-- static ?T $a = 1, $b;
property_row :
    declares kind.Property (key (codes "static") (kid (var (codes "$a") (op (codes "=") (kid (op (codes ",") (var (codes "$b") (op (codes ";") [])))))))) here
    ≡ is sort.Property (codes "a") ++ is sort.Property (codes "b")
property_row = refl

-- ---- uses

-- class A extends B implements \I, J { .. }
heritage_row :
    uses kind.Class (key (codes "class") (label (codes "A") (key (codes "extends")
    (label (codes "B") (key (codes "implements")
    (long (codes "\\I") (op (codes ",") (label (codes "J") (op (codes "{") (op (codes "}") [])))))))))) here
    ≡ one sort.Class (codes "n\\b") ++ one sort.Class (codes "i") ++ one sort.Class (codes "n\\j")
heritage_row = refl

-- new A(..); new static; new class(..) extends A { .. }
new_row : uses kind.New (key (codes "new") (label (codes "A") (op (codes "(") (kid (op (codes ")") []))))) here ≡ one sort.Class (codes "n\\a")
new_row = refl

new_static_row : uses kind.New (key (codes "new") (key (codes "static") [])) here ≡ []
new_static_row = refl

new_class_row :
    uses kind.New (key (codes "new") (key (codes "class") (op (codes "(")
    (kid (op (codes ")") (key (codes "extends")
    (label (codes "A") (op (codes "{") (kid (op (codes "}") [])))))))))) here
    ≡ one sort.Class (codes "n\\a")
new_class_row = refl

-- try { .. } catch (A | \B $e) { .. }
catch_row :
    uses kind.Try (key (codes "try") (kid (key (codes "catch")
    (op (codes "(") (label (codes "A") (op (codes "|") (long (codes "\\B")
    (var (codes "$e") (op (codes ")") (kid [])))))))))) here
    ≡ one sort.Class (codes "n\\a") ++ one sort.Class (codes "b")
catch_row = refl

-- ?INT, self, T as types
int_row : uses kind.TypeName (op (codes "?") (label (codes "INT") [])) here ≡ []
int_row = refl

self_row : uses kind.TypeName (label (codes "Self") []) here ≡ one sort.Class (codes "n\\c")
self_row = refl

-- self where there is no class
no_self_row : uses kind.TypeName (label (codes "self") []) (file_site (codes "a.php")) ≡ []
no_self_row = refl

-- F(..) and \F(..) and A\F(..)
call_row :
    uses kind.Call (label (codes "F") (op (codes "(") (op (codes ")") []))) here
    ≡ record { sort = sort.Function; texts = codes "n\\f" ∷ codes "f" ∷ [] } ∷ []
call_row = refl

global_call_row : uses kind.Call (long (codes "\\F") (op (codes "(") (op (codes ")") []))) here ≡ one sort.Function (codes "f")
global_call_row = refl

qualified_call_row : uses kind.Call (long (codes "A\\F") (op (codes "(") (op (codes ")") []))) here ≡ one sort.Function (codes "n\\a\\f")
qualified_call_row = refl

-- $f(..)
dynamic_call_row : uses kind.Call (kid (op (codes "(") (op (codes ")") []))) here ≡ []
dynamic_call_row = refl

-- Foo as a constant
constant_row :
    uses kind.Constant (label (codes "Foo") []) here
    ≡ record { sort = sort.Constant; texts = codes "n\\Foo" ∷ codes "Foo" ∷ [] } ∷ []
constant_row = refl

-- Parent::Foo, A::$b, static::f(..), $a->b, $a->F(..), $a->$b
class_constant_row :
    uses kind.ClassConstant (label (codes "Parent") (op (codes "::") (label (codes "Foo") []))) here
    ≡ one sort.Class (codes "n\\p") ++ one sort.ClassConstant (codes "Foo")
class_constant_row = refl

static_property_row :
    uses kind.StaticProp (label (codes "A") (op (codes "::") (var (codes "$b") []))) here
    ≡ one sort.Class (codes "n\\a") ++ one sort.Property (codes "b")
static_property_row = refl

static_call_row :
    uses kind.StaticCall (key (codes "static") (op (codes "::") (label (codes "F") (op (codes "(") (op (codes ")") []))))) here
    ≡ one sort.Method (codes "f")
static_call_row = refl

property_use_row : uses kind.Prop (kid (op (codes "->") (label (codes "b") []))) here ≡ one sort.Property (codes "b")
property_use_row = refl

method_call_row :
    uses kind.MethodCall (kid (op (codes "->") (key (codes "List") (op (codes "(") (op (codes ")") []))))) here ≡ one sort.Method (codes "list")
method_call_row = refl

dynamic_property_row : uses kind.Prop (kid (op (codes "->") (kid []))) here ≡ []
dynamic_property_row = refl

-- use \A\B, C as D;
use_row :
    uses kind.Use (key (codes "use") (long (codes "\\A\\B") (op (codes ",") (label (codes "C") (key (codes "as") (label (codes "D") (op (codes ";") []))))))) here
    ≡ one sort.Class (codes "a\\b") ++ one sort.Class (codes "c")
use_row = refl
