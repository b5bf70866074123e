use Rattle.std.proofs.Common.{◌≡◌, ◌++◌}
use Rattle.php_rows.specs.Reading.{bytes_of, forest_in, weight}
use Rattle.program_points.specs.Edges.{leaving, before_finally}
use Rattle.program_points.proofs.TryLemmas.{out_of}
use Rattle.program_points.proofs.tries.leave_try.Given as goal

abbrev pub invariant-parts : goal.invariant-parts
invariant-parts l = record {
  bytes : bytes_of l.left ≡ l.bytes;
  whole : l.edges.items ++ out_of l.exit.node l.exit.from l.exit.frames.now (leaving 0 (before_finally (forest_in l.left)))
      ≡ l.fn.edges.items ++ out_of l.exit.node l.exit.from l.exit.frames.now (leaving 0 (before_finally (forest_in l.fn.parts)));
}

abbrev pub decreases-parts : goal.decreases-parts
decreases-parts l = weight (forest_in l.left)
