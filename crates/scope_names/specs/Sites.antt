-- Where code stands, as far as names go: its file, its namespace and imports, its class, its body. This is what the
-- resolution of names tells each node: `within` for what stands in a node, `beside` for what follows it. (PHP manual,
-- "Namespaces": "Name resolution rules".)
use Rattle.std.specs.Prelude.{ℕ, zero, suc, ◌+◌, Bool, true, false, if◌then◌else◌, List, [], ◌∷◌, ◌++◌, codes, Option, Some, None}
use Rattle.std.specs.Str.{bytes_eq}
use Rattle.php_tree.specs.declared.kind.NodeKind.{NodeKind}
use Rattle.php_tree.specs.declared.kind.NodeKind.TheVariants as kind
use Rattle.php_tree.specs.Tree.{Forest, none, leaf, node}
use Rattle.scope_names.specs.Form.{Form, form, texts}
use Rattle.scope_names.specs.Slot.{Declared}
use Rattle.scope_names.specs.Imports.{Import, Sort, OfClass, OfFunction, OfConstant, as_alias, imports}
use Rattle.scope_names.specs.Words.{has_word, is_keyword, word_behind, first_word, drop_first, split}

-- Where code stands. `number` is the number of the next declaration. Full names have no backslash in front. `members` is
-- there directly inside an anonymous class, and then has the name of its parent.
pub record Site : Type 0 where
  pub file : List ℕ
  pub number : ℕ
  pub body : Option Declared
  pub space : List ℕ
  pub imports : List Import
  pub class : Option (List ℕ)
  pub parent : Option (List ℕ)
  pub members : Option (Option (List ℕ))

-- where a file's first statement stands
abbrev pub file_site : List ℕ → Site
file_site path = record {
  file = path;
  number = 0;
  body = None;
  space = [];
  imports = [];
  class = None;
  parent = None;
  members = None;
}

-- ---- declarations

-- the kinds that are declarations, each with a number in its file
abbrev pub is_declaration : NodeKind → Bool
is_declaration kind.Function = true
is_declaration kind.Class = true
is_declaration kind.Interface = true
is_declaration kind.Property = true
is_declaration kind.ClassConst = true
is_declaration kind.Method = true
is_declaration kind.Statics = true
is_declaration k = false

abbrev pub one_if : Bool → ℕ → ℕ
one_if true n = suc n
one_if false n = n

-- how many declarations there are
abbrev pub declarations : Forest → ℕ
declarations none = zero
declarations (leaf t f) = declarations f
declarations (node k c f) = one_if (is_declaration k) (declarations c) + declarations f

-- the declaration that stands here
abbrev pub declared_here : Site → Declared
declared_here s = record { file = s.file; number = s.number }

-- ---- full names

-- a name in a namespace
abbrev pub in_space : List ℕ → List ℕ → List ℕ
in_space [] name = name
in_space (b ∷ bs) name = b ∷ bs ++ 92 ∷ name

-- whether two sorts are one
abbrev pub same_sort : Sort → Sort → Bool
same_sort OfClass OfClass = true
same_sort OfFunction OfFunction = true
same_sort OfConstant OfConstant = true
same_sort a b = false

-- what an alias of a sort stands for; the last of several imports of one alias counts
abbrev pub alias_of : List Import → Sort → List ℕ → Option (List ℕ)
alias_of [] sort name = None
alias_of (i ∷ more) sort name =
    if same_sort i.sort sort then (if bytes_eq i.alias (as_alias sort name) then Some i.full else alias_of more sort name)
    else alias_of more sort name

abbrev pub or_else : Option (List ℕ) → List ℕ → List ℕ
or_else None b = b
or_else (Some a) b = a

-- the rest of a name behind what its first part stands for, or else this name
abbrev pub behind_alias : Option (List ℕ) → List ℕ → List ℕ → List ℕ
behind_alias None rest whole = whole
behind_alias (Some full) rest whole = full ++ 92 ∷ rest

-- the full name of a name with several parts
abbrev pub qualified : Site → List ℕ → List ℕ → List ℕ → List ℕ
qualified s first rest whole =
    if is_keyword (codes "namespace") first then in_space s.space rest
    else (if bytes_eq first [] then rest else behind_alias (alias_of s.imports OfClass first) rest (in_space s.space whole))

-- the full name of a class
abbrev pub class_named : Site → List ℕ → List ℕ
class_named s name = elim ((split name).1) [
  | None ↦ or_else (alias_of s.imports OfClass name) (in_space s.space name)
  | Some rest ↦ qualified s (split name).0 rest name
]

-- a name without a namespace, in the current one and in none; one of them where there is none
abbrev pub here_and_global : List ℕ → List ℕ → List (List ℕ)
here_and_global [] name = name ∷ []
here_and_global (b ∷ bs) name = in_space (b ∷ bs) name ∷ name ∷ []

-- the full names of a name without a backslash in it
abbrev pub unqualified : Site → Sort → List ℕ → List (List ℕ)
unqualified s sort name = elim (alias_of s.imports sort name) [ Some full ↦ full ∷ [] | None ↦ here_and_global s.space name ]

-- The full names that a name of a function or constant may stand for, the first that is there counts: an unqualified one
-- falls back to the name without a namespace.
abbrev pub candidates : Site → Sort → List ℕ → List (List ℕ)
candidates s sort name = elim ((split name).1) [
  | None ↦ unqualified s sort name
  | Some rest ↦ qualified s (split name).0 rest name ∷ []
]

-- ---- inside a node, and behind it

-- the class that these words extend
abbrev pub extended : Site → List (List ℕ) → Option (List ℕ)
extended s words = elim (word_behind (codes "extends") words) [ None ↦ None | Some name ↦ Some (class_named s name) ]

-- the full name that is declared behind a keyword
abbrev pub declared_name : List ℕ → Site → List (List ℕ) → List ℕ
declared_name keyword s words = in_space s.space (or_else (word_behind keyword words) [])

abbrev pub in_class : List (List ℕ) → Site → Site
in_class words s =
    record s { class = Some (declared_name (codes "class") s words); parent = extended s words; members = None }

abbrev pub in_interface : List (List ℕ) → Site → Site
in_interface words s =
    record s { class = Some (declared_name (codes "interface") s words); parent = None; members = None }

abbrev pub in_no_class : Site → Site
in_no_class s = record s { class = None; parent = None; members = None }

-- the members of an anonymous class stand in a class without a name; its arguments don't
abbrev pub in_new : List (List ℕ) → Site → Site
in_new words s =
    if is_keyword (codes "class") (first_word (drop_first words)) then record s { members = Some (extended s words) }
    else record s { members = None }

abbrev pub in_member : Site → Site
in_member s = elim s.members [ None ↦ s | Some parent ↦ record s { class = None; parent = parent; members = None } ]

-- the variables of what stands inside are those of the body that is declared here
abbrev pub in_body : Site → Site
in_body s = record s { body = Some (declared_here s) }

-- the namespace of the words of a Namespace; it begins without imports
abbrev pub as_space : List (List ℕ) → Site → Site
as_space words s = record s {
  space = if has_word (codes "{") (first_word (drop_first words) ∷ []) then [] else first_word (drop_first words);
  imports = [];
}

-- the names within a node of a form
abbrev pub names_within : NodeKind → Form → Site → Site
names_within kind.Function f s = in_no_class (in_body s)
names_within kind.Method f s = in_member (in_body s)
names_within kind.Property f s = in_member s
names_within kind.ClassConst f s = in_member s
names_within kind.Class f s = in_class (texts f) s
names_within kind.Interface f s = in_interface (texts f) s
names_within kind.Trait f s = in_no_class s
names_within kind.New f s = in_new (texts f) s
names_within kind.Namespace f s = as_space (texts f) s
names_within k f s = s

-- where the children of a node of a form stand
abbrev pub within_form : NodeKind → Form → Site → Site
within_form k f s = record (names_within k f s) { number = one_if (is_declaration k) s.number }

-- where the children of a node stand
abbrev pub within : NodeKind → Forest → Site → Site
within k c s = within_form k (form c) s

-- the names behind a node: those of a namespace without braces, and those of a use
abbrev pub names_beside : NodeKind → Form → Site → Site
names_beside kind.Namespace f s = if has_word (codes "{") (texts f) then s else as_space (texts f) s
names_beside kind.Use f s = record s { imports = imports (texts f) ++ s.imports }
names_beside k f s = s

-- where what follows a node stands
abbrev pub beside : NodeKind → Forest → Site → Site
beside k c s = record (names_beside k (form c) s) { number = one_if (is_declaration k) (declarations c) + s.number }
