use Rattle.std.proofs.Common.{◌≡◌, ◌∙◌, List, length, ap}
use Rattle.php_tree.specs.declared.token.Token.{Token}
use Rattle.php_tree.specs.Tree.{forest_of, tree}
use Rattle.php_terminals.specs.Marked.{token_at}
use Rattle.php_rows.specs.Reading.{bytes_of, forest_in}
use Rattle.php_rows.proofs.Pushed.{making_ends, making_leaf, making_node, node_is}
use Rattle.php_rows.proofs.nodes.+node_with.Goals as goal

pub returns-in-None : goal.returns-in-None
returns-in-None t c = node_is _ _ (making_ends (forest_in c.args.parts) c.args.tokens.now (forest_of c.parts.made)
    (forest_in c.parts.left) c.parts.rest.now c.in-None.ensures c.parts.invariant)

pub parts-preserved-in-Some-Leaf : goal.parts-preserved-in-Some-Leaf
parts-preserved-in-Some-Leaf t c =
    let l = rw c.in-Some-Leaf.field-0-is at c.in-Some-Leaf.ensures in
    making_leaf (forest_in c.args.parts) c.args.tokens.now (forest_of c.parts.made) (forest_of c.push_leaf.new.parts)
    (forest_in c.parts.left) (forest_in c.next.new.self) c.parts.rest.now c.split_at.result.1.now
    (token_at (bytes_of c.parts.left) c.in-Some-Leaf.field-0-0) c.in_ok-token-in-Some-Leaf.token c.index-rest-0.result
    l.parts c.index-rest-0.is c.in_ok-token-in-Some-Leaf.ensures c.in_ok-push_leaf-in-Some-Leaf.ensures
    c.split_at.ensures.back c.parts.invariant

pub parts-preserved : goal.parts-preserved
parts-preserved t c =
    let l = rw c.in-Some-Child.field-0-is at c.in-Some-Child.ensures in
    let x = tree c.in_ok-child-in-Some-Child.child in
    let count = c.len.ensures ∙ ap (λ (ts : List Token). length ts) c.own_tokens.ensures.tokens in
    making_node (forest_in c.args.parts) c.args.tokens.now (forest_of c.parts.made) (forest_of c.push_child.new.parts)
    (forest_in c.parts.left) (forest_in c.next.new.self) c.parts.rest.now c.split_at-in-Some-Child.result.0.now
    c.split_at-in-Some-Child.result.1.now c.in-Some-Child.inner_kind (forest_in c.in-Some-Child.inner) x
    c.len.result
    l.parts count c.split_at-in-Some-Child.ensures.front c.split_at-in-Some-Child.ensures.back
    c.in_ok-child-in-Some-Child.ensures c.in_ok-push_child-in-Some-Child.ensures c.parts.invariant
