-- Changes of a tree, node by node. From one table of them come the edits of the source and the rewritten tree.
use Rattle.std.specs.Prelude.{ℕ, List, codes}

-- what is put round a node
pub data Wrapping : Type 0 where
  -- parentheses
  InParens : Wrapping

-- the bytes in front of the node, and behind it
abbrev pub opening : Wrapping → List ℕ
opening InParens = codes "("

abbrev pub closing : Wrapping → List ℕ
closing InParens = codes ")"

-- The table: what is put round each node, by the node's number, the outermost first.
abbrev pub Patches : Type 0
Patches = ℕ → List Wrapping
