-- The statements of a file are nodes.
use Rattle.std.proofs.Common.{◌≡◌, ◌<◌, true, List, [], ◌∷◌, ◌++◌, length, refl, sym, ap, ◌∙◌, subst, arith}
use Rattle.php_tree.specs.declared.token.Token.{Token}
use Rattle.php_tree.specs.declared.version.Version.{Version}
use Rattle.php_tree.specs.Tree.{Forest, none, leaf, node, ◌+++◌, leaves}
use Rattle.php_terminals.specs.Ahead.{first_of}
use Rattle.php_forms.specs.declared.item.Group.TheVariants.{Statements}
use Rattle.php_forms.specs.declared.item.Sort.TheVariants.{Statement}
use Rattle.php_forms.specs.declared.item.Item.{Item}
use Rattle.php_forms.specs.declared.item.Item.TheVariants.{Node, Repeats}
use Rattle.php_forms.specs.Grammar.{Walks, ends, word, child, part, stop, repeat, span}
use Rattle.php_forms.specs.Statements.{statements}
use Rattle.php_grammar.specs.Tables.{php}
use Rattle.php_rows.specs.Nodes.{are_nodes}
use Rattle.php_exprs.proofs.StatementLemmas.{statement_items}

both_nodes : (f g : Forest) → are_nodes f ≡ true → are_nodes g ≡ true → are_nodes (f +++ g) ≡ true
both_nodes none g p q = q
both_nodes (leaf t f) g p q = absurd cc
both_nodes (node k c f) g p q = both_nodes f g p q

none_nodes : (v : Version) {f : Forest} {rest : List Token} → Walks (php v) [] f rest → are_nodes f ≡ true
none_nodes v ends = refl

one_nodes : (v : Version) {f : Forest} {rest : List Token} → Walks (php v) (Node Statement ∷ []) f rest → are_nodes f ≡ true
one_nodes v (child g p w) = none_nodes v w

some_item : (i : Item) (is : List Item) → 0 < length (i ∷ is)
some_item i is = omega arith

pub nodes_of_walk : (v : Version) {f : Forest} {rest : List Token} → Walks (php v) (Repeats Statements ∷ []) f rest → are_nodes f ≡ true
nodes_of_walk v (stop p w) = none_nodes v w
nodes_of_walk v (repeat {g} {i} {js} {is} {h} {f} {rest} p w has u) =
    let here : i ∷ js ≡ Node Statement ∷ [] = sym p ∙ statement_items (first_of (leaves h ++ (leaves f ++ rest)))
    (subst (λ (is : List Item). 0 < length is) (sym p) (some_item i js)) in
    both_nodes h f (one_nodes v (subst (λ (is : List Item). Walks (php v) is h (leaves f ++ rest)) here w)) (nodes_of_walk v u)
