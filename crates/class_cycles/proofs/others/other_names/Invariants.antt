use Rattle.std.proofs.Common.{◌≡◌, ◌++◌, drop}
use Rattle.node_names.specs.Seen.{texts_of}
use Rattle.class_cycles.specs.Others.{others_in}
use Rattle.class_cycles.proofs.others.other_names.Given as goal

abbrev pub invariant-loop-one : goal.invariant-loop-one
invariant-loop-one l = texts_of l.names.items ++ others_in (drop l.one-index l.told) ≡ others_in l.told
