-- The parts of a node, one after another.
use Rattle.std.specs.Prelude.{◌≡◌, ℕ, List, Option, Some, None}
use Rattle.php_tree.specs.declared.kind.NodeKind.{NodeKind}
use Rattle.php_tree.specs.declared.token.Token.{Token}
use Rattle.php_tree.specs.Tree.{Forest, none, leaf, node, Tree}
use Rattle.php_rows.specs.declared.parts.Parts as rows
use Rattle.php_rows.specs.Reading.{forest_in}
use Rattle.file_declarations.specs.declared.next.Part.{Part}
use Rattle.file_declarations.specs.declared.next.Part.TheVariants.{Leaf, Node}

-- a token of this text stood first
pub record IsText (text : List ℕ) (old new : Forest) : Type 0 where
  pub token : Token
  pub text_is : token.text ≡ text
  pub parts : old ≡ leaf token new

-- what stood first, and what is left
abbrev pub IsNextPart : Option Part → Forest → Forest → Type 0
IsNextPart None old new = old ≡ none
IsNextPart (Some (Leaf w)) old new = IsText w.now old new
IsNextPart (Some (Node k c)) old new = old ≡ node k (forest_in c) new

-- the text of the only part
abbrev pub only_text : Forest → Option (List ℕ)
only_text none = None
only_text (leaf t none) = Some t.text
only_text (leaf t (leaf u f)) = None
only_text (leaf t (node k c f)) = None
only_text (node k c f) = None

-- the only part, a node
abbrev pub only_node : Forest → Option Tree
only_node none = None
only_node (leaf t f) = None
only_node (node k c none) = Some (k, c)
only_node (node k c (leaf t f)) = None
only_node (node k c (node j d f)) = None

-- a node alone, if that is what stands there
abbrev pub IsOnly : Option (NodeKind × rows.Parts) → Forest → Type 0
IsOnly None f = only_node f ≡ None
IsOnly (Some n) f = f ≡ node n.0 (forest_in n.1) none
