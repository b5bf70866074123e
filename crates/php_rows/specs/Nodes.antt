-- Parts without tokens of their own, and parts with other tokens.
use Rattle.std.specs.Prelude.{Bool, true, false, List, [], ◌∷◌, take, drop}
use Rattle.php_tree.specs.declared.token.Token.{Token}
use Rattle.php_tree.specs.Tree.{Forest, none, leaf, node}
use Rattle.php_rows.specs.Flatten.{tokens}

-- whether all parts are nodes
abbrev pub are_nodes : Forest → Bool
are_nodes none = true
are_nodes (leaf t f) = false
are_nodes (node k c f) = are_nodes f

-- the forest with as many tokens in place of its own
abbrev pub with_tokens : Forest → List Token → Forest
with_tokens none ts = none
with_tokens (leaf t f) [] = none
with_tokens (leaf t f) (u ∷ ts) = leaf u (with_tokens f ts)
with_tokens (node k c f) ts = node k (with_tokens c (take (tokens c) ts)) (with_tokens f (drop (tokens c) ts))
