-- Which kinds of nodes are read by their forms.
use Rattle.std.specs.Prelude.{ℕ, Bool, true, false, List, [], ◌∷◌, map, if◌then◌else◌, Option, Some, None}
use Rattle.php_tree.specs.declared.kind.NodeKind.{NodeKind}
use Rattle.php_tree.specs.declared.kind.NodeKind.TheVariants as kind
use Rattle.php_tree.specs.Tree.{Forest}
use Rattle.scope_names.specs.Form.{Form, form}
use Rattle.node_names.specs.Declares.{declares}
use Rattle.node_names.specs.Slots as slots
use Rattle.node_names.specs.Slots.{Standing, NamedSlot}
use Rattle.node_names.specs.Spelled.{spelled_variables, first_variable}
use Rattle.node_names.specs.Uses.{uses}
use Rattle.node_facts.specs.Named.{Named}

-- whether names of such a node are read by its form
abbrev pub asks_form : NodeKind → Bool
asks_form kind.Function = true
asks_form kind.Class = true
asks_form kind.Interface = true
asks_form kind.Const = true
asks_form kind.Method = true
asks_form kind.ClassConst = true
asks_form kind.Property = true
asks_form kind.New = true
asks_form kind.Try = true
asks_form kind.InstanceOf = true
asks_form kind.TypeName = true
asks_form kind.Call = true
asks_form kind.Constant = true
asks_form kind.ClassConstant = true
asks_form kind.StaticProp = true
asks_form kind.StaticCall = true
asks_form kind.Prop = true
asks_form kind.MethodCall = true
asks_form kind.Use = true
asks_form kind.Variable = true
asks_form kind.Param = true
asks_form kind.Statics = true
asks_form kind.Namespace = true
asks_form k = false

-- the form, where it is asked for
abbrev pub form_if : Bool → Form → Form
form_if b f = if b then f else []

-- the literal name of a node that is a variable
abbrev pub literal_of : NodeKind → Forest → List (List ℕ)
literal_of kind.Variable c = first_variable (form c)
literal_of k c = []

-- a text, if there is one
abbrev pub list_of : Option (List ℕ) → List (List ℕ)
list_of None = []
list_of (Some v) = v ∷ []

-- the variables that a node of a form and of these parts lists
abbrev pub listed_by : NodeKind → Form → Forest → Standing → List (NamedSlot × NamedSlot)
listed_by kind.Global f c p = map (slots.with_global p) (slots.kid_variables c)
listed_by kind.Statics f c p = map (slots.with_static p) (spelled_variables f)
listed_by kind.Property f c p = map (λ name. slots.twice (slots.declared_property f name)) (spelled_variables f)
listed_by kind.Try f c p = map (λ name. slots.twice (slots.variable p name)) (spelled_variables f)
listed_by k f c p = []

-- what a node of a form and of these parts tells
abbrev pub named_by : NodeKind → Form → Forest → Standing → Named
named_by k f c p = record {
  kind = k;
  declares = declares k f p.site;
  uses = uses k f p.site;
  slot = slots.slot k f p;
  listed = listed_by k f c p;
}
