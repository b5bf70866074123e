use Rattle.std.proofs.Common.{◌≡◌, ◌≤◌, ℕ, ◌+◌, List, ◌++◌, length, drop, sym, ap, ◌∙◌}
use Rattle.php_tree.specs.Tree.{Forest, forest_of, printed, token_bytes}
use Rattle.php_tree.proofs.Trees.{forest_of-Leaf, forest_of-Child}
use Rattle.trivia_printer.proofs.Buffers.{written_step}
use Rattle.trivia_printer.proofs.into.+write_node.Goals as goal
use Rattle.trivia_printer.proofs.into.+write_node.Goals.{in-Leaf, in-Child}

pub loop-part-preserved : goal.loop-part-preserved
loop-part-preserved t c =
    let ps = c.as_slice-part-items.result.now in
    let i = c.loop-part.part-index in
    let ys = printed (forest_of (drop (i + 1) ps)) in
    let all = printed (forest_of (drop i ps)) in
    let whole = printed (forest_of c.args.node.now.parts) in
    elim c.match-part.branch [
      | in-Leaf w ↦
          let here = forest_of-Leaf ps i _ w.in-Leaf.token c.loop-part-test.true (sym c.part-item.is ∙ w.in-Leaf.is) in
          let s = written_step c.args.out.now c.loop-part.out c.match-part.out c.args.at c.loop-part.place
          c.match-part.place (token_bytes w.in-Leaf.token) ys all whole
          (w.out-is ∙ w.write_token-place.ensures.written) (w.place-is ∙ w.write_token-place.ensures.place)
          (ap printed here) c.loop-part.invariant.place c.requires c.loop-part.invariant.room
          c.loop-part.invariant.bytes in
          record { place = s.0; bytes = s.1; room = s.2 }
      | in-Child w ↦
          let here = forest_of-Child ps i _ w.in-Child.inner c.loop-part-test.true (sym c.part-item.is ∙ w.in-Child.is) in
          let s = written_step c.args.out.now c.loop-part.out c.match-part.out c.args.at c.loop-part.place
          c.match-part.place (printed (forest_of w.in-Child.inner.parts)) ys all whole
          (w.out-is ∙ w.write_node-place.ensures.written) (w.place-is ∙ w.write_node-place.ensures.place)
          (ap printed here) c.loop-part.invariant.place c.requires c.loop-part.invariant.room
          c.loop-part.invariant.bytes in
          record { place = s.0; bytes = s.1; room = s.2 }
    ]
