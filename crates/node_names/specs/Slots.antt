-- Which slots a node names. (PHP manual, "Variable scope", "Properties", "Superglobals", "Anonymous functions".)
use Rattle.std.specs.Prelude.{ℕ, ◌+◌, Bool, true, false, ◌||◌, if◌then◌else◌, codes, List, [], ◌∷◌, ◌++◌, map, Option, Some, None}
use Rattle.std.specs.Str.{bytes_eq}
use Rattle.php_tree.specs.declared.kind.NodeKind.{NodeKind}
use Rattle.php_tree.specs.declared.kind.NodeKind.TheVariants as kind
use Rattle.php_tree.specs.Tree.{Forest, none, leaf, node}
use Rattle.scope_names.specs.Form.{Form, form, texts}
use Rattle.scope_names.specs.Sites.{Site, file_site, within, beside, one_if, declared_here}
use Rattle.scope_names.specs.Slot.{Slot, FileVariable, BodyVariable, StaticVariable, Property, StaticProperty}
use Rattle.scope_names.specs.Words.{is_keyword}
use Rattle.node_names.specs.Spelled.{spelled_variables, behind_text, first_member, first_variable}

-- a slot of a function's body, a file or a property; or a variable of a closure or arrow function, which has a number
-- among those of its file
pub data NamedSlot : Type 0 where
  named : Slot → NamedSlot
  in_closure : List ℕ → ℕ → List ℕ → NamedSlot

-- closures and arrow functions
abbrev pub is_closure : NodeKind → Bool
is_closure kind.Closure = true
is_closure kind.Arrow = true
is_closure k = false

abbrev pub closures : Forest → ℕ
closures none = 0
closures (leaf t f) = closures f
closures (node k c f) = one_if (is_closure k) (closures c) + closures f

-- Where code stands: its site; the closure that is the innermost body around it, if that is one; and the number of the
-- next closure.
pub record Standing : Type 0 where
  pub site : Site
  pub closure : Option ℕ
  pub next : ℕ

abbrev pub in_file : List ℕ → Standing
in_file path = record { site = file_site path; closure = None; next = 0 }

-- the innermost closure inside a node
abbrev pub closure_within : NodeKind → Standing → Option ℕ
closure_within kind.Closure p = Some p.next
closure_within kind.Arrow p = Some p.next
closure_within kind.Function p = None
closure_within kind.Method p = None
closure_within k p = p.closure

abbrev pub stands_within : NodeKind → Forest → Standing → Standing
stands_within k c p = record {
  site = within k c p.site;
  closure = closure_within k p;
  next = one_if (is_closure k) p.next;
}

abbrev pub stands_beside : NodeKind → Forest → Standing → Standing
stands_beside k c p = record {
  site = beside k c p.site;
  closure = p.closure;
  next = one_if (is_closure k) (closures c) + p.next;
}

-- ---- slots

-- the variables that are those of the files' level in every body
abbrev pub is_everywhere : List ℕ → Bool
is_everywhere name = bytes_eq (codes "_GET") name || bytes_eq (codes "_POST") name

-- a variable of the innermost body around
abbrev pub own_variable : Standing → List ℕ → NamedSlot
own_variable p name = elim p.closure [
  | Some n ↦ in_closure p.site.file n name
  | None ↦ (elim p.site.body [ Some d ↦ named (BodyVariable d name) | None ↦ named (FileVariable name) ])
]

abbrev pub variable : Standing → List ℕ → NamedSlot
variable p name = if is_everywhere name then named (FileVariable name) else own_variable p name

-- the first of some, as a slot
abbrev pub first_slot : (List ℕ → NamedSlot) → List (List ℕ) → Option NamedSlot
first_slot to [] = None
first_slot to (name ∷ more) = Some (to name)

abbrev pub instance_property : List ℕ → NamedSlot
instance_property name = named (Property name)

abbrev pub static_property : List ℕ → NamedSlot
static_property name = named (StaticProperty name)

-- the slot that a variable, a property or a parameter with a literal name is
abbrev pub slot : NodeKind → Form → Standing → Option NamedSlot
slot kind.Variable f p = first_slot (variable p) (first_variable f)
slot kind.Param f p = first_slot (variable p) (spelled_variables f)
slot kind.Prop f p = first_slot instance_property (first_member (behind_text (codes "->") f))
slot kind.StaticProp f p = first_slot static_property (first_variable (behind_text (codes "::") f))
slot k f p = None

-- ---- lists of variables

abbrev pub with_global : Standing → List ℕ → NamedSlot × NamedSlot
with_global p name = (variable p name, named (FileVariable name))

abbrev pub with_static : Standing → List ℕ → NamedSlot × NamedSlot
with_static p name = (variable p name, named (StaticVariable (declared_here p.site) name))

abbrev pub twice : NamedSlot → NamedSlot × NamedSlot
twice s = (s, s)

abbrev pub has_keyword : List ℕ → List (List ℕ) → Bool
has_keyword w [] = false
has_keyword w (t ∷ ts) = is_keyword w t || has_keyword w ts

abbrev pub declared_property : Form → List ℕ → NamedSlot
declared_property f name = if has_keyword (codes "static") (texts f) then static_property name else instance_property name

-- the literal names of the variables among the nodes
abbrev pub kid_variables : Forest → List (List ℕ)
kid_variables none = []
kid_variables (leaf t f) = kid_variables f
kid_variables (node kind.Variable c f) = first_variable (form c) ++ kid_variables f
kid_variables (node k c f) = kid_variables f

-- The variables that a node lists by literal names, in order, each with the slot to which it is linked there: a `global`
-- with the files' variable, a static variable with the one that outlives the call, any other with itself.
abbrev pub listed : NodeKind → Forest → Standing → List (NamedSlot × NamedSlot)
listed kind.Global c p = map (with_global p) (kid_variables c)
listed kind.Statics c p = map (with_static p) (spelled_variables (form c))
listed kind.Property c p = map (λ name. twice (declared_property (form c) name)) (spelled_variables (form c))
listed kind.Try c p = map (λ name. twice (variable p name)) (spelled_variables (form c))
listed k c p = []
