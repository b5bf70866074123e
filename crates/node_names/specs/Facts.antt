-- What each node of a file tells of names, in preorder.
use Rattle.std.specs.Prelude.{ℕ, Bool, true, false, not, ◌&&◌, ◌||◌, ◌==◌, if◌then◌else◌, codes, List, [], ◌∷◌, ◌++◌, Option, Some, None}
use Rattle.std.specs.Str.{bytes_eq}
use Rattle.php_tree.specs.declared.kind.NodeKind.{NodeKind}
use Rattle.php_tree.specs.declared.kind.NodeKind.TheVariants as kind
use Rattle.php_tree.specs.Tree.{Forest, none, leaf, node}
use Rattle.scope_names.specs.Form.{Form, form, texts}
use Rattle.scope_names.specs.Sites.{Site, class_named, extended}
use Rattle.scope_names.specs.Words.{is_keyword}
use Rattle.node_names.specs.declared.name_sort.NameSort.TheVariants as sort
use Rattle.node_names.specs.declared.name.Name.{Name}
use Rattle.node_names.specs.Compared.{Use, compared}
use Rattle.node_names.specs.Declares.{declares}
use Rattle.node_names.specs.Spelled.{spelled_names, behind_keyword, behind_first}
use Rattle.node_names.specs.Slots.{Standing, NamedSlot, in_file, stands_within, stands_beside, slot, listed}
use Rattle.node_names.specs.Uses.{uses}

-- ---- classes that a class or interface extends

abbrev pub class_text : List ℕ → List ℕ
class_text full = compared sort.Class full

abbrev pub class_texts : Site → List (List ℕ) → List (List ℕ)
class_texts s [] = []
class_texts s (name ∷ more) = class_text (class_named s name) ∷ class_texts s more

abbrev pub text_if : Option (List ℕ) → List (List ℕ)
text_if None = []
text_if (Some full) = class_text full ∷ []

-- the names of the classes that a class extends, or that an interface does, as they are compared
abbrev pub extends : NodeKind → Form → Site → List (List ℕ)
extends kind.Class f s = text_if (extended s (texts f))
extends kind.Interface f s = class_texts s (behind_first (spelled_names (behind_keyword (codes "interface") f)))
extends k f s = []

-- ---- includes

-- the bytes but the last one
abbrev pub but_last : List ℕ → List ℕ
but_last [] = []
but_last (b ∷ []) = []
but_last (b ∷ c ∷ bs) = b ∷ but_last (c ∷ bs)

abbrev pub has_byte : ℕ → List ℕ → Bool
has_byte a [] = false
has_byte a (b ∷ bs) = a == b || has_byte a bs

-- A text literal in quotes without a backslash stands for the bytes between them.
abbrev pub plain_text : List ℕ → Option (List ℕ)
plain_text [] = None
plain_text (b ∷ bs) = if (b == 39 || b == 34) && not (has_byte 92 bs) then Some (but_last bs) else None

-- the text of a literal
abbrev pub literal : Forest → Option (List ℕ)
literal (node kind.Text (leaf t none) none) = plain_text t.text
literal f = None

-- whether a node is the constant of the file's folder
abbrev pub is_folder : NodeKind → Forest → Bool
is_folder kind.Constant (leaf t none) = is_keyword (codes "__dir__") t.text
is_folder k c = false

-- a path from the folder of the including file: a text, or `__DIR__` and a text that begins with a slash
abbrev pub behind_slash : Option (List ℕ) → Option (List ℕ)
behind_slash None = None
behind_slash (Some []) = None
behind_slash (Some (b ∷ bs)) = if b == 47 then Some bs else None

abbrev pub folder_and_text : Forest → Option (List ℕ)
folder_and_text (node k c (leaf t f)) = if is_folder k c && bytes_eq (codes ".") t.text then behind_slash (literal f) else None
folder_and_text f = None

-- a path that doesn't begin at the root
abbrev pub no_root : Option (List ℕ) → Option (List ℕ)
no_root None = None
no_root (Some []) = None
no_root (Some (b ∷ bs)) = if b == 47 then None else Some (b ∷ bs)

abbrev pub path_in : Forest → Option (List ℕ)
path_in (node kind.Binary c none) = folder_and_text c
path_in f = no_root (literal f)

-- the path of an include's parts
abbrev pub include_path : Forest → Option (List ℕ)
include_path none = None
include_path (leaf t f) = path_in f
include_path (node k c f) = None

-- the folders and the name of a path, `part` being what was read of the first so far
abbrev pub parts_from : List ℕ → List ℕ → List (List ℕ)
parts_from part [] = part ∷ []
parts_from part (b ∷ bs) = if b == 47 then part ∷ parts_from [] bs else parts_from (part ++ b ∷ []) bs

abbrev pub folders_of : List (List ℕ) → List (List ℕ)
folders_of [] = []
folders_of (p ∷ []) = []
folders_of (p ∷ q ∷ ps) = p ∷ folders_of (q ∷ ps)

-- one folder up, unless there is none
abbrev pub up : List (List ℕ) → Option (List (List ℕ))
up [] = None
up (p ∷ ps) = Some (folders_of (p ∷ ps))

-- The parts of a path, taken from a folder: `.` and an empty part stay there, `..` goes up.
abbrev pub resolved : List (List ℕ) → List (List ℕ) → Option (List (List ℕ))
resolved at [] = Some at
resolved at (p ∷ ps) =
    if bytes_eq p [] || bytes_eq p (codes ".") then resolved at ps
    else (if bytes_eq p (codes "..") then (elim (up at) [ None ↦ None | Some above ↦ resolved above ps ])
    else resolved (at ++ p ∷ []) ps)

abbrev pub joined_path : List (List ℕ) → List ℕ
joined_path [] = []
joined_path (p ∷ []) = p
joined_path (p ∷ q ∷ ps) = p ++ 47 ∷ joined_path (q ∷ ps)

-- the path of an included file, as the program's files have it
abbrev pub included : List ℕ → Option (List ℕ) → Option (List ℕ)
included file None = None
included file (Some path) = elim (resolved (folders_of (parts_from [] file)) (parts_from [] path)) [
  | None ↦ None
  | Some parts ↦ Some (joined_path parts)
]

abbrev pub includes : NodeKind → Forest → Site → Option (List ℕ)
includes kind.Include c s = included s.file (include_path c)
includes k c s = None

-- ---- a node

-- whether what stands in a node is unconditional where the node is
abbrev pub keeps_top : NodeKind → Bool
keeps_top kind.Namespace = true
keeps_top kind.Declare = true
keeps_top k = false

-- What a node tells: what it declares, and whether unconditionally; what it uses; which slots it names; which classes it
-- extends; which file it includes.
pub record Fact : Type 0 where
  pub kind : NodeKind
  pub is_top : Bool
  pub declares : List Name
  pub uses : List Use
  pub slot : Option NamedSlot
  pub listed : List (NamedSlot × NamedSlot)
  pub extends : List (List ℕ)
  pub includes : Option (List ℕ)

abbrev pub fact : NodeKind → Forest → Standing → Bool → Fact
fact k c p top = record {
  kind = k;
  is_top = top;
  declares = declares k (form c) p.site;
  uses = uses k (form c) p.site;
  slot = slot k (form c) p;
  listed = listed k c p;
  extends = extends k (form c) p.site;
  includes = includes k c p.site;
}

-- what the nodes of a forest tell, where it stands
abbrev pub facts : Standing → Bool → Forest → List Fact
facts p top none = []
facts p top (leaf t f) = facts p top f
facts p top (node k c f) =
    fact k c p top ∷ facts (stands_within k c p) (keeps_top k && top) c ++ facts (stands_beside k c p) top f

-- what the nodes of a file tell
abbrev pub file_facts : List ℕ → Forest → List Fact
file_facts path f = facts (in_file path) true f
