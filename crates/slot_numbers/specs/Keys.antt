-- Slots as keys: two slots of one program are one exactly where their keys are.
use Rattle.std.specs.Prelude.{ℕ, List, [], ◌∷◌, Vec, map}
use Rattle.std.specs.declared.alloc.Global.{Global}
use Rattle.node_facts.specs.declared.slot_name.SlotName.{SlotName}
use Rattle.node_facts.specs.declared.slot_name.SlotName.TheVariants as slot

-- a slot: the number of its file and its number there, where it has these; its sort; its name
pub record Key : Type 0 where
  pub file : ℕ
  pub number : ℕ
  pub sort : ℕ
  pub name : List ℕ

-- the key of a slot in the file with a number
abbrev pub key_of : ℕ → SlotName → Key
key_of f (slot.File v) = record { file = 0; number = 0; sort = 0; name = v.items }
key_of f (slot.Body n v) = record { file = f; number = n; sort = 1; name = v.items }
key_of f (slot.Static n v) = record { file = f; number = n; sort = 2; name = v.items }
key_of f (slot.Closure n v) = record { file = f; number = n; sort = 3; name = v.items }
key_of f (slot.Property v) = record { file = 0; number = 0; sort = 4; name = v.items }
key_of f (slot.StaticProperty v) = record { file = 0; number = 0; sort = 5; name = v.items }

abbrev pub keys_of_slots : ℕ → List SlotName → List Key
keys_of_slots f ss = map (λ s. key_of f s) ss

-- the keys of two slots
abbrev pub keys_of_pair : ℕ → SlotName × SlotName → List Key
keys_of_pair f p = key_of f p.0 ∷ key_of f p.1 ∷ []

abbrev pub keys_of_pairs : ℕ → List (SlotName × SlotName) → List Key
keys_of_pairs f [] = []
keys_of_pairs f (p ∷ ps) = key_of f p.0 ∷ key_of f p.1 ∷ keys_of_pairs f ps

-- a key as the code has it
abbrev pub seen : ℕ × ℕ × ℕ × Vec ℕ Global → Key
seen k = record { file = k.0; number = k.1; sort = k.2; name = k.3.items }
