-- Nodes with the places where their items begin.
use Rattle.std.specs.Prelude.{List, [], ◌∷◌}
use Rattle.node_facts.specs.declared.ends.Ends.{Ends}
use Rattle.node_facts.specs.declared.node_fact.NodeFact.{NodeFact}

-- some nodes, each with the place where its items begin, the first one's being given
abbrev pub ranged : Ends → List NodeFact → List (Ends × NodeFact)
ranged from [] = []
ranged from (n ∷ ns) = (from, n) ∷ ranged n.ends ns
