use Rattle.std.proofs.Common.{sym, ◌∙◌}
use Rattle.php_tree.specs.Tree.{forest_of, count}
use Rattle.php_tree.proofs.Trees.{forest_of-Child}
use Rattle.php_tree.proofs.Preorder.{found_in, passed_in, count_passed}
use Rattle.php_tree.proofs.search.+found_inside.Goals as goal

pub returns-in-Ok : goal.returns-in-Ok
returns-in-Ok t c =
    let here = forest_of-Child c.as_slice-part-items.result.now _ _ c.in-Child.inner c.loop-part-test.true (sym c.part-item.is ∙ c.in-Child.is) in
    found_in (forest_of c.args.node.now.parts) _ _ c.in-Child.inner c.args.id _ _ here c.loop-part.invariant.same c.if-left-eq0.false c.in-Ok.ensures

pub loop-part-preserved : goal.loop-part-preserved
loop-part-preserved t c =
    let here = forest_of-Child c.as_slice-part-items.result.now _ _ c.in-Child.inner c.loop-part-test.true (sym c.part-item.is ∙ c.in-Child.is) in
    record {
      same = passed_in (forest_of c.args.node.now.parts) _ _ c.in-Child.inner c.args.id _ c.in-Err.rest here c.loop-part.invariant.same c.if-left-eq0.false c.in-Err.ensures;
      past = count_passed (count (forest_of c.args.node.now.parts)) _ _ c.in-Child.inner c.args.id _ c.in-Err.rest
          here c.loop-part.invariant.past c.if-left-eq0.false c.in-Err.ensures;
    }
