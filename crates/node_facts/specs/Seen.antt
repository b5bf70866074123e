-- What a node tells, as the code has it.
use Rattle.std.specs.Prelude.{ℕ, List, map}
use Rattle.scope_names.specs.Slot as slot
use Rattle.node_names.specs.Compared.{Use}
use Rattle.node_names.specs.Slots.{NamedSlot, named, in_closure}
use Rattle.node_facts.specs.declared.name_use.NameUse.{NameUse}
use Rattle.node_facts.specs.declared.slot_name.SlotName.{SlotName}
use Rattle.node_facts.specs.declared.slot_name.SlotName.TheVariants as name

-- the slot of this name in the file with a path
abbrev pub slot_in : List ℕ → SlotName → NamedSlot
slot_in path (name.File v) = named (slot.FileVariable v.items)
slot_in path (name.Body n v) = named (slot.BodyVariable (record { file = path; number = n }) v.items)
slot_in path (name.Static n v) = named (slot.StaticVariable (record { file = path; number = n }) v.items)
slot_in path (name.Closure n v) = in_closure path n v.items
slot_in path (name.Property v) = named (slot.Property v.items)
slot_in path (name.StaticProperty v) = named (slot.StaticProperty v.items)

abbrev pub slots_in : List ℕ → SlotName × SlotName → NamedSlot × NamedSlot
slots_in path p = (slot_in path p.0, slot_in path p.1)

-- a name that is used
abbrev pub use_in : NameUse → Use
use_in u = record { sort = u.sort; texts = u.texts.items }

abbrev pub uses_in : List NameUse → List Use
uses_in us = map use_in us
