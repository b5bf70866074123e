use Rattle.std.proofs.Common.{◌≡◌, ◌++◌, drop}
use Rattle.resolved_names.specs.NodeReads.{numbers_of}
use Rattle.resolved_names.proofs.node_uses.class_numbers.Given as goal

abbrev pub invariant-loop-name : goal.invariant-loop-name
invariant-loop-name l = l.all.items ++ numbers_of l.others (drop l.name-index l.names) ≡ numbers_of l.others l.names
