-- What the nodes of a file tell of names: what they declare and use, and which slots they name and list.
use Rattle.std.specs.Prelude.{ℕ, List, [], ◌∷◌, ◌++◌, map, Option}
use Rattle.php_tree.specs.declared.kind.NodeKind.{NodeKind}
use Rattle.php_tree.specs.Tree.{Forest, none, leaf, node}
use Rattle.scope_names.specs.Form.{form}
use Rattle.node_names.specs.declared.name.Name.{Name}
use Rattle.node_names.specs.Compared.{Use}
use Rattle.node_names.specs.Declares.{declares}
use Rattle.node_names.specs.Facts.{Fact, file_facts}
use Rattle.node_names.specs.Slots.{NamedSlot, Standing, stands_within, stands_beside, slot, listed}
use Rattle.node_names.specs.Uses.{uses}

-- what a node tells
pub record Named : Type 0 where
  pub kind : NodeKind
  pub declares : List Name
  pub uses : List Use
  pub slot : Option NamedSlot
  pub listed : List (NamedSlot × NamedSlot)

-- what the facts of a node say of it
abbrev pub named_of : Fact → Named
named_of x = record { kind = x.kind; declares = x.declares; uses = x.uses; slot = x.slot; listed = x.listed }

abbrev pub named_at : NodeKind → Forest → Standing → Named
named_at k c p = record {
  kind = k;
  declares = declares k (form c) p.site;
  uses = uses k (form c) p.site;
  slot = slot k (form c) p;
  listed = listed k c p;
}

-- what the nodes of a forest tell, where it stands
abbrev pub named : Standing → Forest → List Named
named p none = []
named p (leaf t f) = named p f
named p (node k c f) = named_at k c p ∷ named (stands_within k c p) c ++ named (stands_beside k c p) f

-- what the nodes of a file tell
abbrev pub file_named : List ℕ → Forest → List Named
file_named path f = map named_of (file_facts path f)
