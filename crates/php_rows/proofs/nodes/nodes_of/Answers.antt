use Rattle.std.proofs.Common.{◌≡◌, ◌∙◌, ℕ, List, length, ap}
use Rattle.php_tree.specs.declared.token.Token.{Token}
use Rattle.php_tree.specs.Tree.{nodes_forest, tree}
use Rattle.php_rows.specs.Reading.{forest_in}
use Rattle.php_rows.proofs.Pushed.{making_ends, making_node, nodes_left}
use Rattle.php_rows.proofs.nodes.nodes_of.Goals as goal

pub returns-in-None : goal.returns-in-None
returns-in-None c = making_ends (forest_in c.args.parts) c.args.tokens.now (nodes_forest c.parts.made)
    (forest_in c.parts.left) c.parts.rest.now c.in-None.ensures c.parts.invariant.0

pub parts-preserved : goal.parts-preserved
parts-preserved c =
    let l = rw c.in-Some-Child.field-0-is at c.in-Some-Child.ensures in
    let x = tree c.in_ok-node-in-Some-Child.node in
    let count = c.len.ensures ∙ ap (λ (ts : List Token). length ts) c.own_tokens.ensures.tokens in (
      making_node (forest_in c.args.parts) c.args.tokens.now (nodes_forest c.parts.made)
          (nodes_forest c.push_node.new.nodes) (forest_in c.parts.left) (forest_in c.next.new.self) c.parts.rest.now
          c.split_at.result.0.now c.split_at.result.1.now c.in-Some-Child.kind (forest_in c.in-Some-Child.inner) x
          c.len.result
          l.parts count c.split_at.ensures.front c.split_at.ensures.back c.in_ok-node-in-Some-Child.ensures c.in_ok-push_node-in-Some-Child.ensures c.parts.invariant.0,
      nodes_left (forest_in c.parts.left) (forest_in c.next.new.self) (c.in-Some-Child.kind, forest_in c.in-Some-Child.inner) l.parts c.parts.invariant.1,
    )
