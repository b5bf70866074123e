use Rattle.std.proofs.Common.{◌≡◌, ◌≤◌, ◌+◌, ◌*◌, ◌++◌}
use Rattle.php_rows.specs.Reading.{forest_in, weight}
use Rattle.program_points.specs.Edges.{leaving}
use Rattle.program_points.proofs.TryLemmas.{out_of}
use Rattle.program_points.proofs.tries.+leave.Given as goal

-- the parts of a node lead to those below, a node to its own parts
abbrev pub decreases-leave_parts : goal.decreases-leave_parts
decreases-leave_parts l = 2 * weight (forest_in l.parts)

abbrev pub decreases-leave_node : goal.decreases-leave_node
decreases-leave_node l = 2 * weight (forest_in l.parts) + 1

abbrev pub invariant-leave_parts-parts : goal.invariant-leave_parts-parts
invariant-leave_parts-parts l = record {
  small : weight (forest_in l.left) ≤ weight (forest_in l.fn.parts);
  whole : l.edges.items ++ out_of l.exit.node l.exit.from l.exit.frames.now (leaving l.depth (forest_in l.left))
      ≡ l.fn.edges.items ++ out_of l.exit.node l.exit.from l.exit.frames.now (leaving l.depth (forest_in l.fn.parts));
}

abbrev pub decreases-leave_parts-parts : goal.decreases-leave_parts-parts
decreases-leave_parts-parts l = weight (forest_in l.left)
