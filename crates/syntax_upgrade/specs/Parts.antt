-- The first part of a forest, and the others.
use Rattle.std.specs.Prelude.{◌≡◌, ℕ, Bool, true, false, List, [], Option, Some, None}
use Rattle.php_tree.specs.declared.token.Token.{Token}
use Rattle.php_tree.specs.declared.kind.NodeKind.{NodeKind}
use Rattle.php_tree.specs.Tree.{Forest, none, leaf, node, Tree}
use Rattle.php_rows.specs.declared.parts.Parts as rows
use Rattle.php_rows.specs.Reading.{forest_in}
use Rattle.syntax_upgrade.specs.declared.next.Part.{Part}
use Rattle.syntax_upgrade.specs.declared.next.Part.TheVariants.{Leaf, Node}
use Rattle.syntax_upgrade.specs.Words.{seen}

-- what stood first, and what is left
abbrev pub IsNextPart : Option Part → Forest → Forest → Type 0
IsNextPart None old new = old ≡ none
IsNextPart (Some (Leaf w)) old new = old ≡ leaf (seen w) new
IsNextPart (Some (Node k c)) old new = old ≡ node k (forest_in c) new

-- a node, by its kind and its parts
abbrev pub pair_of : NodeKind × rows.Parts → Tree
pair_of n = (n.0, forest_in n.1)

-- the first part, where it is a token
abbrev pub first_leaf : Forest → Option Token
first_leaf (leaf t f) = Some t
first_leaf _ = None

-- the first part, where it is a node
abbrev pub first_node : Forest → Option Tree
first_node (node k c f) = Some (k, c)
first_node _ = None

-- the parts behind the first one
abbrev pub others : Forest → Forest
others none = none
others (leaf t f) = f
others (node k c f) = f

-- whether there is no part
abbrev pub has_none : Forest → Bool
has_none none = true
has_none _ = false

-- the text of a token, if there is one
abbrev pub text_or_none : Option Token → List ℕ
text_or_none None = []
text_or_none (Some t) = t.text
