use Rattle.std.proofs.Common.{◌≡◌, ◌++◌, drop}
use Rattle.node_names.specs.Seen.{texts_of}
use Rattle.class_cycles.proofs.once.copies.Given as goal

abbrev pub invariant-loop-name : goal.invariant-loop-name
invariant-loop-name l = l.copies.items ++ texts_of (drop l.name-index l.names) ≡ texts_of l.names
