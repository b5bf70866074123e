use Rattle.std.proofs.Common.{◌≡◌, take, length, replicate}
use Rattle.class_cycles.specs.Begins.{AreLevelMarked}
use Rattle.class_cycles.proofs.beginnings.beginnings.Given as goal

abbrev pub invariant-loop-from : goal.invariant-loop-from
invariant-loop-from l = record {
  size : length l.marks.items ≡ length l.levels;
  marked : AreLevelMarked (take l.from-index l.pairs) l.levels (replicate (length l.levels) l.is_any) l.marks.items;
}
