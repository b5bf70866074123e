-- Where a node stands in the node around it.
use Rattle.std.specs.Prelude.{ℕ, Bool, true, false, List, [], Option, Some, None, if◌then◌else◌}
use Rattle.php_tree.specs.declared.kind.NodeKind.{NodeKind}
use Rattle.php_tree.specs.Tree.{Forest, none, leaf, node}

-- The node around a node: its kind, the text of the operator behind its first part, and whether the node is that part.
pub record Around : Type 0 where
  pub kind : NodeKind
  pub operator : List ℕ
  pub is_first : Bool

-- the text of the token behind a first node, if any
abbrev pub operator_of : Forest → List ℕ
operator_of (node k c (leaf t f)) = t.text
operator_of _ = []

-- where a part of a node of this kind, with these parts, stands
abbrev pub within : NodeKind → Forest → Bool → Option Around
within k c is_first = Some (record { kind = k; operator = operator_of c; is_first = is_first })

-- where a statement of a file stands
abbrev pub at_top : Bool → Option Around
at_top is_first = None

-- the kind of the node whose first part a node is
abbrev pub kind_if_first : Option Around → Option NodeKind
kind_if_first None = None
kind_if_first (Some a) = if a.is_first then Some a.kind else None
