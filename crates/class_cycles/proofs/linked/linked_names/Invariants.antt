use Rattle.std.proofs.Common.{◌≡◌, ◌++◌, drop}
use Rattle.node_names.specs.Seen.{texts_of}
use Rattle.class_cycles.specs.Names.{linked}
use Rattle.class_cycles.proofs.linked.linked_names.Given as goal

abbrev pub invariant-loop-one : goal.invariant-loop-one
invariant-loop-one l = texts_of l.names.items ++ linked (drop l.one-index l.told) ≡ linked l.told
