use Rattle.std.proofs.Common.{ap, ◌++◌, arith}
use Rattle.php_tree.specs.Tree.{Forest}
use Rattle.php_rows.specs.Reading.{forest_in, weight}
use Rattle.program_points.specs.Edges.{leaving}
use Rattle.program_points.proofs.TryLemmas.{out_of, out_step}
use Rattle.program_points.proofs.tries.+leave.Goals as goal

pub leave_parts-parts-preserved : goal.leave_parts-parts-preserved
leave_parts-parts-preserved t c =
    let h = rw c.in-Some-Child.field-0-is at c.in-Some-Child.ensures in
    let n = c.args.exit.node in
    let from = c.args.exit.from in
    let fs = c.args.exit.frames.now in
    record {
      small = omega (arith, c.parts.invariant.small, ap (λ (f : Forest). weight f) h.parts);
      whole = out_step n from fs c.args.depth c.in-Some-Child.kind (forest_in c.parts.left) (forest_in c.in-Some-Child.inner) (forest_in c.next.new.self)
          c.parts.edges.items c.leave_node.new.edges.items (c.args.edges.now.items ++ out_of n from fs (leaving c.args.depth (forest_in c.args.parts)))
          h.parts c.in_ok-leave_node-in-Some-Child.ensures c.parts.invariant.whole;
    }
