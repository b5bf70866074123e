use Rattle.std.proofs.Common.{◌≡◌, ◌++◌, drop}
use Rattle.program_names.specs.Table.{declared_as_each}
use Rattle.resolved_names.specs.Index.{declared_in}
use Rattle.resolved_names.proofs.node_uses.each.Given as goal

abbrev pub invariant-loop-text : goal.invariant-loop-text
invariant-loop-text l =
    l.nodes.items ++ declared_as_each l.sort (drop l.text-index l.texts) (declared_in l.told) ≡ declared_as_each l.sort l.texts (declared_in l.told)
