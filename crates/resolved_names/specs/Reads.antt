-- What names answer.
use Rattle.std.specs.Prelude.{◌≡◌, ℕ, List, [], length, slice_get, Option, Some, None, option_map}
use Rattle.node_facts.specs.declared.ends.Ends.{Ends}
use Rattle.node_facts.specs.declared.node_fact.NodeFact.{NodeFact}
use Rattle.node_facts.specs.Flat.{between, start}
use Rattle.node_names.specs.Slots.{NamedSlot}
use Rattle.file_declarations.specs.declared.node_ref.NodeRef.{NodeRef}
use Rattle.program_names.specs.declared.slot_id.SlotId.{SlotId}
use Rattle.program_names.specs.Classes.{AreOthers, class_number}
use Rattle.program_names.specs.Table.{Table, declarations}
use Rattle.resolved_names.specs.declared.file_names.FileNames.{FileNames}
use Rattle.resolved_names.specs.declared.found.Found.{Found}
use Rattle.resolved_names.specs.declared.names.Names.{Names}
use Rattle.resolved_names.specs.Index.{Entries, found_in}
use Rattle.resolved_names.specs.NodeReads.{class_of}
use Rattle.resolved_names.specs.Ranges.{ranged}
use Rattle.resolved_names.specs.SlotNumbers.{AreNumbers, AreSlots, IsNumber, listed_at, slot_at}

-- the entries by number
abbrev pub entries_of : Names → List ℕ
entries_of ns = ns.entries.items

-- the number of the file before each entry
abbrev pub prepend_of : Names → Option ℕ
prepend_of ns = ns.prepend

-- a list of what is there, if it is
abbrev pub pick : {A B : Type 0} → (A → List B) → Option A → List B
pick f None = []
pick f (Some x) = f x

abbrev pub pick_one : {A B : Type 0} → (A → Option B) → Option A → Option B
pick_one f None = None
pick_one f (Some x) = f x

-- a node with a number, the place where its items begin, and its file
abbrev pub Place : Type 0
Place = FileNames × (Ends × NodeFact)

abbrev pub place_in : FileNames → ℕ → Option Place
place_in v n = option_map (λ r. (v, r)) (slice_get (ranged start v.nodes.items) n)

abbrev pub place_at : List FileNames → NodeRef → Option Place
place_at rows at = pick_one (λ v. place_in v at.node) (slice_get rows at.file)

-- what was found for the uses of a node, and the numbers of the classes that it declares
abbrev pub uses_at : Place → List Found
uses_at p = between p.1.0.uses p.1.1.ends.uses p.0.uses.items

abbrev pub classes_at : Place → List (Option ℕ)
classes_at p = between p.1.0.declares p.1.1.ends.declares p.0.classes.items

-- the numbers of the slots that a node names, and of those that it lists
abbrev pub slots_in : Place → List SlotId
slots_in p = between p.1.0.slots p.1.1.ends.slots p.0.slots.items

abbrev pub pairs_in : Place → List (SlotId × SlotId)
pairs_in p = between p.1.0.listed p.1.1.ends.listed p.0.listed.items

-- what a node's name n was found to stand for
abbrev pub read_in : Entries → List FileNames → NodeRef → ℕ → List NodeRef
read_in es rows at n = pick (λ p. pick (found_in es) (slice_get (uses_at p) n)) (place_at rows at)

-- the number of the class that a node declares
abbrev pub class_in : List FileNames → NodeRef → Option ℕ
class_in rows at = pick_one (λ p. class_of p.1.1.kind (classes_at p)) (place_at rows at)

-- the number of the slot that a node names
abbrev pub slot_in : List FileNames → NodeRef → Option SlotId
slot_in rows at = pick_one (λ p. slice_get (slots_in p) 0) (place_at rows at)

-- the numbers of the slots that a node lists at a place
abbrev pub listed_in : List FileNames → NodeRef → ℕ → Option (SlotId × SlotId)
listed_in rows at n = pick_one (λ p. slice_get (pairs_in p) n) (place_at rows at)

-- the reads of names answer what a program's nodes tell
pub record AreNames (ns : Names) (t : Table) : Type 0 where
  pub others : List (List ℕ)
  pub are_others : AreOthers t others
  pub classed : (at : NodeRef) → class_in ns.files.items at ≡ class_number t others at
  pub declared : (at : NodeRef) (n : ℕ) → read_in ns.index.entries ns.files.items at n ≡ declarations t at n
  pub slots : List NamedSlot
  pub are_slots : AreSlots t slots
  pub count : ns.slots ≡ length slots
  pub slotted : (at : NodeRef) → IsNumber slots (slot_at t at) (slot_in ns.files.items at)
  pub listed : (at : NodeRef) (n : ℕ) → AreNumbers slots (listed_at t at n) (listed_in ns.files.items at n)
