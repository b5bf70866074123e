use Rattle.std.proofs.Common.{◌≡◌, ◌++◌, drop}
use Rattle.class_cycles.specs.Names.{pairs_of}
use Rattle.class_cycles.proofs.linked.linked_places.Given as goal

abbrev pub invariant-loop-one : goal.invariant-loop-one
invariant-loop-one l = l.pairs.items ++ pairs_of l.names (drop l.one-index l.told) ≡ pairs_of l.names l.told
