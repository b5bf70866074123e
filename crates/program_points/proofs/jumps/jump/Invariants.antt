use Rattle.std.proofs.Common.{◌≡◌, ◌≤◌, length, reverse, take}
use Rattle.program_points.specs.Rows.{jump}
use Rattle.program_points.proofs.jumps.jump.Given as goal

abbrev pub invariant-loop-count : goal.invariant-loop-count
invariant-loop-count l = record {
  edges : l.edges.items ≡ l.fn.edges.items;
  within : l.count ≤ length l.frames;
  whole : jump l.is_break l.level (reverse (take l.count l.frames)) ≡ jump l.is_break l.fn.level (reverse l.frames);
}

abbrev pub decreases-loop-count : goal.decreases-loop-count
decreases-loop-count l = l.count
