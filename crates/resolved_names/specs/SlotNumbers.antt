-- Slots by number: each slot that some node of the program names or lists has one number.
use Rattle.std.specs.Prelude.{◌≡◌, ℕ, List, slice_get, Option, Some, None, ◌⊎◌}
use Rattle.file_declarations.specs.declared.node_ref.NodeRef.{NodeRef}
use Rattle.node_names.specs.Slots.{NamedSlot}
use Rattle.program_names.specs.declared.slot_id.SlotId.{SlotId}
use Rattle.program_names.specs.Table.{Table, fact_at}
use Rattle.slot_numbers.specs.Growing.{AreApart, Has}

-- the slot that a node names, if any
abbrev pub slot_at : Table → NodeRef → Option NamedSlot
slot_at t at = elim (fact_at t at) [ None ↦ None | Some x ↦ x.slot ]

-- variable n, from 0, that a node lists, with the slot to which it is linked there
abbrev pub listed_at : Table → NodeRef → ℕ → Option (NamedSlot × NamedSlot)
listed_at t at n = elim (fact_at t at) [ None ↦ None | Some x ↦ slice_get x.listed n ]

-- a node names the slot, or lists it
abbrev pub IsNamed : Table → NamedSlot → Type 0
IsNamed t s =
    (at : NodeRef) × ((slot_at t at ≡ Some s)
    ⊎ ((n : ℕ) × (p : NamedSlot × NamedSlot) × (listed_at t at n ≡ Some p) × ((p.0 ≡ s) ⊎ (p.1 ≡ s))))

-- the slots of a program, a slot's number being its place
pub record AreSlots (t : Table) (slots : List NamedSlot) : Type 0 where
  pub apart : AreApart slots
  pub named : (s : NamedSlot) → Has slots s → IsNamed t s
  pub all : (s : NamedSlot) → IsNamed t s → Has slots s

-- the number of a slot, if there is one
abbrev pub IsNumber : List NamedSlot → Option NamedSlot → Option SlotId → Type 0
IsNumber slots None i = i ≡ None
IsNumber slots (Some s) None = ⊥
IsNumber slots (Some s) (Some i) = slice_get slots i.0 ≡ Some s

-- the numbers of two slots, if there are any
abbrev pub AreNumbers : List NamedSlot → Option (NamedSlot × NamedSlot) → Option (SlotId × SlotId) → Type 0
AreNumbers slots None i = i ≡ None
AreNumbers slots (Some p) None = ⊥
AreNumbers slots (Some p) (Some i) = (slice_get slots i.0.0 ≡ Some p.0) × (slice_get slots i.1.0 ≡ Some p.1)
