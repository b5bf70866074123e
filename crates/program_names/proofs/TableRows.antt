-- Declarations and numbers of classes, worked out by hand.
use Rattle.std.proofs.Common.{◌≡◌, ℕ, List, [], ◌∷◌, codes, refl}
use Rattle.std.specs.Prelude.{Some, None}
use Rattle.php_tree.specs.declared.kind.NodeKind.TheVariants as kind
use Rattle.php_tree.specs.declared.token.TokenKind.TheVariants as token
use Rattle.php_tree.specs.Tree.{Forest, none, leaf, node}
use Rattle.node_names.specs.Facts.{file_facts}
use Rattle.file_declarations.specs.declared.node_ref.NodeRef.{NodeRef}
use Rattle.program_names.specs.Classes.{number_of, class_number}
use Rattle.program_names.specs.Table.{Table, declarations}

abbrev key : List ℕ → Forest → Forest
key w f = leaf (record { kind = token.Keyword; lead = []; text = w; start = 0 }) f

abbrev op : List ℕ → Forest → Forest
op w f = leaf (record { kind = token.Op; lead = []; text = w; start = 0 }) f

abbrev label : List ℕ → Forest → Forest
label w f = leaf (record { kind = token.Label; lead = []; text = w; start = 0 }) f

abbrev at : ℕ → ℕ → NodeRef
at f n = record { file = f; node = n }

-- function W() { }, two nodes
abbrev function : List ℕ → Forest → Forest
function w f = node kind.Function (key (codes "function") (label w (op (codes "(") (op (codes ")") (node kind.Block (op (codes "{") (op (codes "}") none)) none))))) f

-- W(); , two nodes
abbrev call : List ℕ → Forest → Forest
call w f = node kind.ExprStmt (node kind.Call (label w (op (codes "(") (op (codes ")") none))) (op (codes ";") none)) f

-- class W extends V { }, one node
abbrev class : List ℕ → List ℕ → Forest → Forest
class w v f = node kind.Class (key (codes "class") (label w (key (codes "extends") (label v (op (codes "{") (op (codes "}") none)))))) f

-- a.php: function f() { } F(); g();  b.php: function F() { }
abbrev two_files : Table
two_files = file_facts (codes "a.php") (function (codes "f") (call (codes "F") (call (codes "g") none))) ∷ file_facts (codes "b.php") (function (codes "F") none) ∷ []

-- each declaration of the name counts, in every file, whatever its case
two_declarations : declarations two_files (at 0 3) 0 ≡ at 0 0 ∷ at 1 0 ∷ []
two_declarations = refl

-- there is no second name, and no `g`
no_second_name : declarations two_files (at 0 3) 1 ≡ []
no_second_name = refl

undeclared : declarations two_files (at 0 5) 0 ≡ []
undeclared = refl

-- what a node declares is no use
declared_is_unused : declarations two_files (at 0 0) 0 ≡ []
declared_is_unused = refl

-- a.php: class A extends B { }  class B extends A { }
abbrev classes : Table
classes = file_facts (codes "a.php") (class (codes "A") (codes "B") (class (codes "B") (codes "A") none)) ∷ []

parent_is_used : declarations classes (at 0 0) 0 ≡ at 0 1 ∷ []
parent_is_used = refl

-- ---- numbers of classes

standard_class : number_of [] (codes "stdclass") ≡ Some 0
standard_class = refl

last_exception : number_of [] (codes "runtimeexception") ≡ Some 10
last_exception = refl

second_class : class_number classes (codes "a" ∷ codes "b" ∷ []) (at 0 1) ≡ Some 12
second_class = refl

no_class : class_number two_files [] (at 0 0) ≡ None
no_class = refl
