use Rattle.std.proofs.Common.{ap, ◌∙◌, ◌++◌}
use Rattle.php_terminals.specs.declared.tokens.Tokens.{Tokens}
use Rattle.php_rows.specs.Reading.{forest_in}
use Rattle.program_points.specs.Edges.{leaving, before_finally}
use Rattle.program_points.proofs.TryLemmas.{out_of, out_before}
use Rattle.program_points.proofs.tries.leave_try.Goals as goal

pub parts-preserved : goal.parts-preserved
parts-preserved c =
    let h = rw c.in-Some-Child.field-0-is at c.in-Some-Child.ensures in
    let n = c.args.exit.node in
    let from = c.args.exit.from in
    let fs = c.args.exit.frames.now in
    record {
      bytes = ap (λ (ts : Tokens). ts.bytes.now) h.tokens ∙ c.parts.invariant.bytes;
      whole = out_before n from fs c.in-Some-Child.kind (forest_in c.parts.left) (forest_in c.in-Some-Child.inner) (forest_in c.next.new.self)
          c.parts.edges.items c.leave_node.new.edges.items (c.args.edges.now.items ++ out_of n from fs (leaving 0 (before_finally (forest_in c.args.parts))))
          h.parts c.in_ok-leave_node-in-Some-Child.ensures c.parts.invariant.whole;
    }
