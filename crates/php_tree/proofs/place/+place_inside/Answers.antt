use Rattle.std.proofs.Common.{◌≡◌, ◌+◌, ◌++◌, ◌∷◌, [], ℕ, ◌-◌, List, slice_get, drop, ap, sym, ◌∙◌, subst, drop-drop, rules}
use Rattle.php_tree.specs.declared.token.Token.{Token}
use Rattle.php_tree.specs.declared.node.Part.{Part, the_lemmas}
use Rattle.php_tree.specs.Tree.{forest_of, count, leaves}
use Rattle.php_tree.specs.Places.{ArePlaced}
use Rattle.php_tree.specs.Ids.{first_or, place_of, places}
use Rattle.php_tree.proofs.Trees.{forest_of-Child}
use Rattle.php_tree.proofs.Preorder.{count_passed}
use Rattle.php_tree.proofs.PlaceLemmas.{place_found, place_first, place_passed, node_placed, rest_placed}
use Rattle.php_tree.proofs.place.+place_inside.Goals as goal

pub place-requires : goal.place-requires
place-requires t c =
    let here = forest_of-Child c.as_slice-part-items.result.now _ _ c.in-Child.inner c.loop-part-test.true (sym c.part-item.is ∙ c.in-Child.is) in
    let after : c.tail-behind.result.now ≡ drop (c.loop-part.part-index + 1) c.as_slice-part-items.result.now =
    c.tail-behind.ensures ∙ ap (drop 1) c.loop-part.invariant.behind ∙ drop-drop 1 c.loop-part.part-index c.as_slice-part-items.result.now in
    let follows : c.first_token-follower.result.now ≡ first_or (leaves (forest_of (drop (c.loop-part.part-index + 1) c.as_slice-part-items.result.now))) c.args.next.now =
    c.first_token-follower.ensures ∙ ap (λ (ps : List Part). first_or (leaves (forest_of ps)) c.args.next.now) after in (
      c.loop-part.invariant.placed.0,
      subst (λ (n : Token). ArePlaced c.loop-part.invariant.placed.0 (leaves (forest_of c.in-Child.inner.parts) ++ n ∷ [])) (sym follows)
          (node_placed c.loop-part.invariant.placed.0 _ _ c.in-Child.inner c.args.next.now here c.loop-part.invariant.placed.1),
    )

pub place_inside-requires : goal.place_inside-requires
place_inside-requires t c =
    let here = forest_of-Child c.as_slice-part-items.result.now _ _ c.in-Child.inner c.loop-part-test.true (sym c.part-item.is ∙ c.in-Child.is) in
    let after : c.tail-behind.result.now ≡ drop (c.loop-part.part-index + 1) c.as_slice-part-items.result.now =
    c.tail-behind.ensures ∙ ap (drop 1) c.loop-part.invariant.behind ∙ drop-drop 1 c.loop-part.part-index c.as_slice-part-items.result.now in
    let follows : c.first_token-follower.result.now ≡ first_or (leaves (forest_of (drop (c.loop-part.part-index + 1) c.as_slice-part-items.result.now))) c.args.next.now =
    c.first_token-follower.ensures ∙ ap (λ (ps : List Part). first_or (leaves (forest_of ps)) c.args.next.now) after in
    let still : (x : ℕ) × ArePlaced x (leaves (forest_of c.in-Child.inner.parts) ++ c.first_token-follower.result.now ∷ []) = (
      c.loop-part.invariant.placed.0,
      subst (λ (n : Token). ArePlaced c.loop-part.invariant.placed.0 (leaves (forest_of c.in-Child.inner.parts) ++ n ∷ [])) (sym follows)
          (node_placed c.loop-part.invariant.placed.0 _ _ c.in-Child.inner c.args.next.now here c.loop-part.invariant.placed.1),
    ) in
    (search (rules, the_lemmas), still)

pub returns-then-left-eq0 : goal.returns-then-left-eq0
returns-then-left-eq0 t c =
    let here = forest_of-Child c.as_slice-part-items.result.now _ _ c.in-Child.inner c.loop-part-test.true (sym c.part-item.is ∙ c.in-Child.is) in
    let after : c.tail-behind.result.now ≡ drop (c.loop-part.part-index + 1) c.as_slice-part-items.result.now =
    c.tail-behind.ensures ∙ ap (drop 1) c.loop-part.invariant.behind ∙ drop-drop 1 c.loop-part.part-index c.as_slice-part-items.result.now in
    let follows : c.first_token-follower.result.now ≡ first_or (leaves (forest_of (drop (c.loop-part.part-index + 1) c.as_slice-part-items.result.now))) c.args.next.now =
    c.first_token-follower.ensures ∙ ap (λ (ps : List Part). first_or (leaves (forest_of ps)) c.args.next.now) after in
    place_first (forest_of c.args.node.now.parts) _ _ c.in-Child.inner c.args.next.now c.args.id c.loop-part.left _ here c.loop-part.invariant.same c.if-left-eq0.true
    (c.place.ensures ∙ ap (λ (n : Token). place_of (leaves (forest_of c.in-Child.inner.parts)) n) follows)

pub returns-in-Ok : goal.returns-in-Ok
returns-in-Ok t c =
    let here = forest_of-Child c.as_slice-part-items.result.now _ _ c.in-Child.inner c.loop-part-test.true (sym c.part-item.is ∙ c.in-Child.is) in
    let after : c.tail-behind.result.now ≡ drop (c.loop-part.part-index + 1) c.as_slice-part-items.result.now =
    c.tail-behind.ensures ∙ ap (drop 1) c.loop-part.invariant.behind ∙ drop-drop 1 c.loop-part.part-index c.as_slice-part-items.result.now in
    let follows : c.first_token-follower.result.now ≡ first_or (leaves (forest_of (drop (c.loop-part.part-index + 1) c.as_slice-part-items.result.now))) c.args.next.now =
    c.first_token-follower.ensures ∙ ap (λ (ps : List Part). first_or (leaves (forest_of ps)) c.args.next.now) after in
    place_found (forest_of c.args.node.now.parts) _ _ c.in-Child.inner c.args.next.now c.args.id c.loop-part.left _ here c.loop-part.invariant.same c.if-left-eq0.false
    (ap (λ (n : Token). slice_get (places (forest_of c.in-Child.inner.parts) n) (c.loop-part.left - 1)) (sym follows) ∙ c.in-Ok.ensures)

pub loop-part-preserved : goal.loop-part-preserved
loop-part-preserved t c =
    let here = forest_of-Child c.as_slice-part-items.result.now _ _ c.in-Child.inner c.loop-part-test.true (sym c.part-item.is ∙ c.in-Child.is) in
    record {
      behind = c.tail-behind.ensures ∙ ap (drop 1) c.loop-part.invariant.behind ∙ drop-drop 1 c.loop-part.part-index c.as_slice-part-items.result.now;
      same = place_passed (forest_of c.args.node.now.parts) _ _ c.in-Child.inner c.args.next.now c.args.id
          c.loop-part.left c.in-Err.rest here c.loop-part.invariant.same c.if-left-eq0.false c.in-Err.ensures;
      past = count_passed (count (forest_of c.args.node.now.parts)) _ _ c.in-Child.inner c.args.id c.loop-part.left
          c.in-Err.rest here c.loop-part.invariant.past c.if-left-eq0.false c.in-Err.ensures;
      placed = rest_placed c.loop-part.invariant.placed.0 _ _ c.in-Child.inner c.args.next.now here c.loop-part.invariant.placed.1;
    }
