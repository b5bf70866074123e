use Rattle.std.proofs.Common.{◌≡◌, ◌++◌, drop}
use Rattle.std.specs.Prelude.{map}
use Rattle.node_facts.specs.Seen.{uses_in}
use Rattle.resolved_names.specs.Index.{declared_in, found_in}
use Rattle.resolved_names.specs.NodeReads.{declared_each}
use Rattle.resolved_names.proofs.node_uses.uses_found.Given as goal

abbrev pub invariant-loop-used : goal.invariant-loop-used
invariant-loop-used l =
    map (found_in l.index.entries) l.all.items ++ declared_each (declared_in l.told) (uses_in (drop l.used-index l.uses)) ≡ declared_each (declared_in l.told) (uses_in l.uses)
