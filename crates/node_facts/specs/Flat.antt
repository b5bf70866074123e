-- What the nodes of a file tell, read from lists of the whole file.
use Rattle.std.specs.Prelude.{◌≡◌, ◌≤◌, ℕ, ◌+◌, ◌-◌, List, [], ◌∷◌, ◌++◌, map, length, take, drop, Option, Some, None}
use Rattle.php_tree.specs.declared.kind.NodeKind.{NodeKind}
use Rattle.node_names.specs.declared.name.Name.{Name}
use Rattle.node_names.specs.Compared.{Use}
use Rattle.node_names.specs.Slots.{NamedSlot}
use Rattle.node_facts.specs.declared.ends.Ends.{Ends}
use Rattle.node_facts.specs.declared.facts.FileFacts.{FileFacts}
use Rattle.node_facts.specs.declared.node_fact.NodeFact.{NodeFact}
use Rattle.node_facts.specs.Named.{Named}
use Rattle.node_facts.specs.Seen.{slot_in, slots_in, uses_in}

-- what all nodes of a file tell, each list in the order of the source
pub record Flat : Type 0 where
  pub declares : List Name
  pub uses : List Use
  pub slots : List NamedSlot
  pub listed : List (NamedSlot × NamedSlot)

-- the lists of the file with a path
abbrev pub flat_in : List ℕ → FileFacts → Flat
flat_in path x = record {
  declares = x.declares.items;
  uses = uses_in x.uses.items;
  slots = map (slot_in path) x.slots.items;
  listed = map (slots_in path) x.listed.items;
}

-- the items from one place up to another
abbrev pub between : {A : Type 0} → ℕ → ℕ → List A → List A
between from to xs = take (to - from) (drop from xs)

-- the first item, if there is one
abbrev pub first_of : {A : Type 0} → List A → Option A
first_of [] = None
first_of (x ∷ xs) = Some x

-- an item, if there is one
abbrev pub items_if : {A : Type 0} → Option A → List A
items_if None = []
items_if (Some x) = x ∷ []

-- what a node tells whose items stand between these ends
abbrev pub node_in : Flat → NodeKind → Ends → Ends → Named
node_in x k from to = record {
  kind = k;
  declares = between from.declares to.declares x.declares;
  uses = between from.uses to.uses x.uses;
  slot = first_of (between from.slots to.slots x.slots);
  listed = between from.listed to.listed x.listed;
}

-- what nodes tell, the first one's items beginning at these ends
abbrev pub nodes_in : Flat → Ends → List NodeFact → List Named
nodes_in x from [] = []
nodes_in x from (n ∷ ns) = node_in x n.kind from n.ends ∷ nodes_in x n.ends ns

-- where the items of the first node begin
abbrev pub start : Ends
start = record { declares = 0; uses = 0; slots = 0; listed = 0 }

-- what the nodes of the file with a path tell
abbrev pub facts_in : List ℕ → FileFacts → List Named
facts_in path x = nodes_in (flat_in path x) start x.nodes.items

-- the slots that nodes name, and those that they list, one node's after another's
abbrev pub slots_named : List Named → List NamedSlot
slots_named [] = []
slots_named (n ∷ ns) = items_if n.slot ++ slots_named ns

abbrev pub slots_listed : List Named → List (NamedSlot × NamedSlot)
slots_listed [] = []
slots_listed (n ∷ ns) = n.listed ++ slots_listed ns

-- ---- how far the lists go

abbrev pub lengths_of : FileFacts → Ends
lengths_of x = record {
  declares = length x.declares.items;
  uses = length x.uses.items;
  slots = length x.slots.items;
  listed = length x.listed.items;
}

pub record IsUpTo (from to : Ends) : Type 0 where
  pub declares : from.declares ≤ to.declares
  pub uses : from.uses ≤ to.uses
  pub slots : from.slots ≤ to.slots
  pub listed : from.listed ≤ to.listed

-- a node's items may stand between these, and one slot at most
pub record IsNext (from to : Ends) : Type 0 where
  pub up : IsUpTo from to
  pub one : to.slots ≤ from.slots + 1

-- the items of each node stand behind those of the node before, and no others do
abbrev pub AreEnds : Ends → List NodeFact → Ends → Type 0
AreEnds from [] to = from ≡ to
AreEnds from (n ∷ ns) to = IsNext from n.ends × AreEnds n.ends ns to

abbrev pub IsWhole : FileFacts → Type 0
IsWhole x = AreEnds start x.nodes.items (lengths_of x)
