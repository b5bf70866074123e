-- Slots, and paths of includes, worked out by hand.
use Rattle.std.proofs.Common.{◌≡◌, ℕ, List, [], ◌∷◌, codes, refl}
use Rattle.std.specs.Prelude.{Some, None}
use Rattle.php_tree.specs.declared.kind.NodeKind.TheVariants as kind
use Rattle.php_tree.specs.declared.token.TokenKind.TheVariants as token
use Rattle.php_tree.specs.Tree.{Forest, none, leaf, node}
use Rattle.scope_names.specs.Form.{Form, Word, Child}
use Rattle.scope_names.specs.Sites.{file_site}
use Rattle.scope_names.specs.Slot.{FileVariable, BodyVariable, StaticVariable, Property, StaticProperty}
use Rattle.node_names.specs.Slots.{Standing, named, in_closure, in_file, slot, listed}
use Rattle.node_names.specs.Facts.{includes}

abbrev var : List ℕ → Form
var w = Word token.Variable w ∷ []

-- in the body of the declaration with the number 3
abbrev in_third : Standing
in_third = record { site = record (file_site (codes "d/a.php")) { number = 5; body = Some (record { file = codes "d/a.php"; number = 3 }) }; closure = None; next = 0 }

file_variable : slot kind.Variable (var (codes "$a")) (in_file (codes "a.php")) ≡ Some (named (FileVariable (codes "a")))
file_variable = refl

body_variable : slot kind.Variable (var (codes "$a")) in_third ≡ Some (named (BodyVariable (record { file = codes "d/a.php"; number = 3 }) (codes "a")))
body_variable = refl

get_is_everywhere : slot kind.Variable (var (codes "$_GET")) in_third ≡ Some (named (FileVariable (codes "_GET")))
get_is_everywhere = refl

closure_variable : slot kind.Variable (var (codes "$a")) (record in_third { closure = Some 7 }) ≡ Some (in_closure (codes "d/a.php") 7 (codes "a"))
closure_variable = refl

-- $$a
variable_by_expression : slot kind.Variable (Word token.Op (codes "$") ∷ Child ∷ []) in_third ≡ None
variable_by_expression = refl

property_slot : slot kind.Prop (Child ∷ Word token.Op (codes "->") ∷ Word token.Label (codes "b") ∷ []) in_third ≡ Some (named (Property (codes "b")))
property_slot = refl

static_slot : slot kind.StaticProp (Word token.Label (codes "A") ∷ Word token.Op (codes "::")
    ∷ Word token.Variable (codes "$b") ∷ []) in_third ≡ Some (named (StaticProperty (codes "b")))
static_slot = refl

abbrev t : List ℕ → Forest → Forest
t text f = leaf (record { kind = token.Op; lead = []; text = text; start = 0 }) f

abbrev v : List ℕ → Forest → Forest
v text f = leaf (record { kind = token.Variable; lead = []; text = text; start = 0 }) f

-- global $a;
listed_global :
    listed kind.Global (t (codes "global") (node kind.Variable (v (codes "$a") none) (t (codes ";") none))) in_third
    ≡ (named (BodyVariable (record { file = codes "d/a.php"; number = 3 }) (codes "a")), named (FileVariable (codes "a"))) ∷ []
listed_global = refl

-- static $a; is the declaration with the number 5
listed_static :
    listed kind.Statics (t (codes "static") (v (codes "$a") (t (codes ";") none))) in_third
    ≡ (named (BodyVariable (record { file = codes "d/a.php"; number = 3 }) (codes "a")), named (StaticVariable (record { file = codes "d/a.php"; number = 5 }) (codes "a"))) ∷ []
listed_static = refl

-- public static $a;
listed_property :
    listed kind.Property (t (codes "public") (t (codes "Static") (v (codes "$a") (t (codes ";") none)))) in_third
    ≡ (named (StaticProperty (codes "a")), named (StaticProperty (codes "a"))) ∷ []
listed_property = refl

-- ---- includes

abbrev text : List ℕ → Forest
text w = node kind.Text (t w none) none

-- include 'b.php'; in d/a.php
beside_row : includes kind.Include (t (codes "include") (text (codes "'b.php'"))) in_third.site ≡ Some (codes "d/b.php")
beside_row = refl

-- require "../b.php"; in d/a.php
above_row : includes kind.Include (t (codes "require") (text (codes "\"../b.php\""))) in_third.site ≡ Some (codes "b.php")
above_row = refl

-- include '../../b.php'; leaves the tree
outside_row : includes kind.Include (t (codes "include") (text (codes "'../../b.php'"))) in_third.site ≡ None
outside_row = refl

-- include __DIR__ . '/./e/b.php';
folder_row :
    includes kind.Include
    (t (codes "include") (node kind.Binary (node kind.Constant (t (codes "__dir__") none) (t (codes ".") (text (codes "'/./e/b.php'")))) none))
    in_third.site
    ≡ Some (codes "d/e/b.php")
folder_row = refl

-- include '/b.php'; and include $b;
root_row : includes kind.Include (t (codes "include") (text (codes "'/b.php'"))) in_third.site ≡ None
root_row = refl

computed_row : includes kind.Include (t (codes "include") (node kind.Variable (v (codes "$b") none) none)) in_third.site ≡ None
computed_row = refl
