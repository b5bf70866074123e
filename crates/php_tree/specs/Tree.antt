-- A tree as definitions see it, without where it lies in memory.
use Rattle.std.specs.Prelude.{ℕ, suc, ◌+◌, max, List, [], ◌∷◌, ◌++◌, map}
use Rattle.php_tree.specs.declared.kind.NodeKind.{NodeKind}
use Rattle.php_tree.specs.declared.token.Token.{Token}
use Rattle.php_tree.specs.declared.node.Node.{Node, fold-Node}
use Rattle.php_tree.specs.declared.node.Part.{Part, fold-Part}
use Rattle.php_tree.specs.declared.node.Part.TheOpen.{Part-F, Node-F}

-- Parts in order. `leaf` is a token and what follows it; `node` is a node by its kind and its own parts, and what
-- follows it.
pub data Forest : Type 0 where
  none : Forest
  leaf : Token → Forest → Forest
  node : NodeKind → Forest → Forest → Forest

-- A node: its kind and its parts.
abbrev pub Tree : Type 0
Tree = NodeKind × Forest

-- ---- from the code's nodes

-- each puts a part in front of what follows it
abbrev pub joined : List (Forest → Forest) → Forest
joined [] = none
joined (p ∷ ps) = p (joined ps)

abbrev pub part_step : Part-F (Forest → Forest) Tree → Forest → Forest
part_step (Part-F.Leaf t) rest = leaf t rest
part_step (Part-F.Child n) rest = node n.0 n.1 rest

abbrev pub tree_step : Node-F (Forest → Forest) Tree → Tree
tree_step n = (n.kind, joined n.parts)

-- the part, and what follows it
abbrev pub part_before : Part → Forest → Forest
part_before = fold-Part (Forest → Forest) Tree part_step tree_step

-- these parts
abbrev pub forest_of : List Part → Forest
forest_of ps = joined (map part_before ps)

-- this node
abbrev pub tree : Node → Tree
tree = fold-Node (Forest → Forest) Tree part_step tree_step

-- these nodes, one after another
abbrev pub nodes_forest : List Node → Forest
nodes_forest [] = none
nodes_forest (n ∷ ns) = node (tree n).0 (tree n).1 (nodes_forest ns)

-- ---- what a forest has

-- one forest, and then another
infixr 5 ◌+++◌
abbrev pub ◌+++◌ : Forest → Forest → Forest
none +++ g = g
(leaf t f) +++ g = leaf t (f +++ g)
(node k c f) +++ g = node k c (f +++ g)

-- a node alone
abbrev pub alone : Tree → Forest
alone t = node t.0 t.1 none

-- the tokens, in order
abbrev pub leaves : Forest → List Token
leaves none = []
leaves (leaf t f) = t ∷ leaves f
leaves (node k c f) = leaves c ++ leaves f

-- the bytes of a token: its trivia, and its text
abbrev pub token_bytes : Token → List ℕ
token_bytes t = t.lead ++ t.text

-- the bytes of some tokens
abbrev pub tokens_bytes : List Token → List ℕ
tokens_bytes [] = []
tokens_bytes (t ∷ ts) = token_bytes t ++ tokens_bytes ts

-- the bytes of a forest, printed
abbrev pub printed : Forest → List ℕ
printed none = []
printed (leaf t f) = token_bytes t ++ printed f
printed (node k c f) = printed c ++ printed f

-- how many nodes there are
abbrev pub count : Forest → ℕ
count none = 0
count (leaf t f) = count f
count (node k c f) = suc (count c) + count f

-- How deep nodes stand in one another: a node without child nodes has depth 1, any other one more than its deepest
-- child.
abbrev pub depth : Forest → ℕ
depth none = 0
depth (leaf t f) = depth f
depth (node k c f) = max (suc (depth c)) (depth f)

-- ---- whole files

-- the statements of a file, and the token at its end
pub record File : Type 0 where
  pub statements : Forest
  pub end : Token

-- the tokens of a file
abbrev pub file_leaves : File → List Token
file_leaves f = leaves f.statements ++ f.end ∷ []

-- the bytes of a file, printed
abbrev pub file_printed : File → List ℕ
file_printed f = printed f.statements ++ token_bytes f.end
