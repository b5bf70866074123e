use Rattle.std.proofs.Common.{◌+◌, ◌*◌, ◌++◌}
use Rattle.php_rows.specs.Reading.{forest_in, weight}
use Rattle.node_facts.specs.Named.{named}
use Rattle.node_facts.specs.Past.{past}
use Rattle.node_facts.specs.Flat.{facts_in, IsWhole}
use Rattle.node_facts.specs.Standing.{standing_at}
use Rattle.node_facts.proofs.Walking.{Holds}
use Rattle.node_facts.proofs.walk.+walk.Given as goal

-- the parts of a node lead to those below, a node to its own parts
abbrev pub decreases-walk_parts : goal.decreases-walk_parts
decreases-walk_parts l = 2 * weight (forest_in l.parts)

abbrev pub decreases-walk_node : goal.decreases-walk_node
decreases-walk_node l = 2 * weight (forest_in l.parts) + 1

abbrev pub invariant-walk_parts-parts : goal.invariant-walk_parts-parts
invariant-walk_parts-parts l = record {
  whole : IsWhole l.facts;
  held : Holds l.fn.spot l.fn.imports.items (weight (forest_in l.fn.parts))
      (facts_in l.fn.spot.path.now l.fn.facts ++ named (standing_at l.fn.spot l.fn.imports.items l.fn.counts) (forest_in l.fn.parts))
      (past (forest_in l.fn.parts) l.fn.counts)
      (facts_in l.fn.spot.path.now l.facts) l.standing.own l.standing.from l.imports.items l.counts (forest_in l.left);
}

abbrev pub decreases-walk_parts-parts : goal.decreases-walk_parts-parts
decreases-walk_parts-parts l = weight (forest_in l.left)
