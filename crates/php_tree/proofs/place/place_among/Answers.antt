use Rattle.std.proofs.Common.{◌≡◌, ◌+◌, ◌-◌, ◌++◌, ◌∷◌, [], List, slice_get, drop, ap, sym, ◌∙◌, subst, drop-drop}
use Rattle.php_tree.specs.declared.token.Token.{Token}
use Rattle.php_tree.specs.declared.node.Node.{Node}
use Rattle.php_tree.specs.Tree.{forest_of, nodes_forest, leaves}
use Rattle.php_tree.specs.Places.{ArePlaced}
use Rattle.php_tree.specs.Ids.{first_or, place_of, places}
use Rattle.php_tree.proofs.Trees.{nodes_forest-drop}
use Rattle.php_tree.proofs.PlaceLemmas.{place_found, place_first, place_passed, node_placed, rest_placed}
use Rattle.php_tree.proofs.place.place_among.Goals as goal

pub place-requires : goal.place-requires
place-requires c =
    let here = nodes_forest-drop c.args.nodes.now _ _ c.node-item.result c.loop-node-test.true (sym c.node-item.is) in
    let after : c.tail_of-behind.result.now ≡ drop (c.loop-node.node-index + 1) c.args.nodes.now =
    c.tail_of-behind.ensures ∙ ap (drop 1) c.loop-node.invariant.behind ∙ drop-drop 1 c.loop-node.node-index c.args.nodes.now in
    let follows : c.first_token_of-follower.result.now ≡ first_or (leaves (nodes_forest (drop (c.loop-node.node-index + 1) c.args.nodes.now))) c.args.next.now =
    c.first_token_of-follower.ensures ∙ ap (λ (ns : List Node). first_or (leaves (nodes_forest ns)) c.args.next.now) after in (
      c.loop-node.invariant.placed.0,
      subst (λ (n : Token). ArePlaced c.loop-node.invariant.placed.0 (leaves (forest_of c.node-item.result.parts) ++ n ∷ [])) (sym follows)
          (node_placed c.loop-node.invariant.placed.0 _ _ c.node-item.result c.args.next.now here c.loop-node.invariant.placed.1),
    )

pub place_inside-requires : goal.place_inside-requires
place_inside-requires c =
    let here = nodes_forest-drop c.args.nodes.now _ _ c.node-item.result c.loop-node-test.true (sym c.node-item.is) in
    let after : c.tail_of-behind.result.now ≡ drop (c.loop-node.node-index + 1) c.args.nodes.now =
    c.tail_of-behind.ensures ∙ ap (drop 1) c.loop-node.invariant.behind ∙ drop-drop 1 c.loop-node.node-index c.args.nodes.now in
    let follows : c.first_token_of-follower.result.now ≡ first_or (leaves (nodes_forest (drop (c.loop-node.node-index + 1) c.args.nodes.now))) c.args.next.now =
    c.first_token_of-follower.ensures ∙ ap (λ (ns : List Node). first_or (leaves (nodes_forest ns)) c.args.next.now) after in (
      c.loop-node.invariant.placed.0,
      subst (λ (n : Token). ArePlaced c.loop-node.invariant.placed.0 (leaves (forest_of c.node-item.result.parts) ++ n ∷ [])) (sym follows)
          (node_placed c.loop-node.invariant.placed.0 _ _ c.node-item.result c.args.next.now here c.loop-node.invariant.placed.1),
    )

pub returns-then-left-eq0 : goal.returns-then-left-eq0
returns-then-left-eq0 c =
    let here = nodes_forest-drop c.args.nodes.now _ _ c.node-item.result c.loop-node-test.true (sym c.node-item.is) in
    let after : c.tail_of-behind.result.now ≡ drop (c.loop-node.node-index + 1) c.args.nodes.now =
    c.tail_of-behind.ensures ∙ ap (drop 1) c.loop-node.invariant.behind ∙ drop-drop 1 c.loop-node.node-index c.args.nodes.now in
    let follows : c.first_token_of-follower.result.now ≡ first_or (leaves (nodes_forest (drop (c.loop-node.node-index + 1) c.args.nodes.now))) c.args.next.now =
    c.first_token_of-follower.ensures ∙ ap (λ (ns : List Node). first_or (leaves (nodes_forest ns)) c.args.next.now) after in
    sym (place_first (nodes_forest c.args.nodes.now) _ _ c.node-item.result c.args.next.now c.args.id c.loop-node.left _ here c.loop-node.invariant.same c.if-left-eq0.true
    (c.place.ensures ∙ ap (λ (n : Token). place_of (leaves (forest_of c.node-item.result.parts)) n) follows))

pub returns-in-Ok : goal.returns-in-Ok
returns-in-Ok c =
    let here = nodes_forest-drop c.args.nodes.now _ _ c.node-item.result c.loop-node-test.true (sym c.node-item.is) in
    let after : c.tail_of-behind.result.now ≡ drop (c.loop-node.node-index + 1) c.args.nodes.now =
    c.tail_of-behind.ensures ∙ ap (drop 1) c.loop-node.invariant.behind ∙ drop-drop 1 c.loop-node.node-index c.args.nodes.now in
    let follows : c.first_token_of-follower.result.now ≡ first_or (leaves (nodes_forest (drop (c.loop-node.node-index + 1) c.args.nodes.now))) c.args.next.now =
    c.first_token_of-follower.ensures ∙ ap (λ (ns : List Node). first_or (leaves (nodes_forest ns)) c.args.next.now) after in
    sym (place_found (nodes_forest c.args.nodes.now) _ _ c.node-item.result c.args.next.now c.args.id c.loop-node.left _ here c.loop-node.invariant.same c.if-left-eq0.false
    (ap (λ (n : Token). slice_get (places (forest_of c.node-item.result.parts) n) (c.loop-node.left - 1)) (sym follows) ∙ c.in-Ok.ensures))

pub loop-node-preserved : goal.loop-node-preserved
loop-node-preserved c =
    let here = nodes_forest-drop c.args.nodes.now _ _ c.node-item.result c.loop-node-test.true (sym c.node-item.is) in
    record {
      behind = c.tail_of-behind.ensures ∙ ap (drop 1) c.loop-node.invariant.behind ∙ drop-drop 1 c.loop-node.node-index c.args.nodes.now;
      same = place_passed (nodes_forest c.args.nodes.now) _ _ c.node-item.result c.args.next.now c.args.id
          c.loop-node.left c.in-Err.rest here c.loop-node.invariant.same c.if-left-eq0.false c.in-Err.ensures;
      placed = rest_placed c.loop-node.invariant.placed.0 _ _ c.node-item.result c.args.next.now here c.loop-node.invariant.placed.1;
    }
