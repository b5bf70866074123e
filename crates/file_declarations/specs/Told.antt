-- What the nodes of a file tell: which names they declare, which classes extend which, and which files are included.
use Rattle.std.specs.Prelude.{ℕ, suc, ◌+◌, Bool, ◌&&◌, List, [], ◌∷◌, ◌++◌, Option, Some, None}
use Rattle.php_tree.specs.declared.kind.NodeKind.{NodeKind}
use Rattle.php_tree.specs.declared.kind.NodeKind.TheVariants as kind
use Rattle.php_tree.specs.Tree.{Forest, none, leaf, node, count}
use Rattle.scope_names.specs.Form.{Form, form, texts}
use Rattle.scope_names.specs.Sites.{Site, as_space, names_beside}
use Rattle.node_names.specs.declared.name.Name.{Name}
use Rattle.node_names.specs.Declares.{declares}
use Rattle.node_names.specs.Facts.{extends, includes, keeps_top}
use Rattle.file_declarations.specs.declared.node_ref.NodeRef.{NodeRef}
use Rattle.file_declarations.specs.declared.declaration.Declaration.{Declaration}
use Rattle.file_declarations.specs.declared.told.Told.{Told}
use Rattle.file_declarations.specs.declared.told.Told.TheVariants.{Declares, Extends, Includes}

-- ---- a node

-- the declarations of some names at a node
abbrev pub declared_told : NodeRef → Bool → List Name → List Told
declared_told at top [] = []
declared_told at top (n ∷ ns) = Declares (record { name = n; at = at; is_top = top }) ∷ declared_told at top ns

-- a class with each that it extends
abbrev pub parents_told : List ℕ → List (List ℕ) → List Told
parents_told class [] = []
parents_told class (p ∷ ps) = Extends class p ∷ parents_told class ps

-- each of some classes with each that they extend
abbrev pub extends_told : List Name → List (List ℕ) → List Told
extends_told [] ps = []
extends_told (n ∷ ns) ps = parents_told n.text ps ++ extends_told ns ps

-- the path of a file that one with a number includes
abbrev pub path_told : ℕ → Option (List ℕ) → List Told
path_told f None = []
path_told f (Some path) = Includes f path ∷ []

-- what a node tells at a site
abbrev pub told_at : NodeRef → Bool → NodeKind → Forest → Site → List Told
told_at at top k c s =
    declared_told at top (declares k (form c) s) ++ extends_told (declares k (form c) s) (extends k (form c) s)
    ++ path_told at.file (includes k c s)

-- ---- the nodes of a file

-- where the children of a node stand, as far as the names of its file go
abbrev pub scope_within : NodeKind → Form → Site → Site
scope_within kind.Namespace f s = as_space (texts f) s
scope_within k f s = s

-- What the nodes of a forest tell, where it stands in a file with a number, the first node's number being given, and
-- whether they stand unconditionally.
abbrev pub told : ℕ → ℕ → Site → Bool → Forest → List Told
told f n s top none = []
told f n s top (leaf t g) = told f n s top g
told f n s top (node k c g) =
    told_at (record { file = f; node = n }) top k c s
    ++ told f (suc n) (scope_within k (form c) s) (keeps_top k && top) c
    ++ told f (suc n + count c) (names_beside k (form c) s) top g
