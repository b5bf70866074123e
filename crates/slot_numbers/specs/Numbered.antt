-- Numbers of slots: a slot's number is the place of its key.
use Rattle.std.specs.Prelude.{◌≡◌, ℕ, List, map, slice_get, Some}
use Rattle.std.specs.List.{AllZip}
use Rattle.node_facts.specs.declared.slot_name.SlotName.{SlotName}
use Rattle.program_names.specs.declared.slot_id.SlotId.{SlotId}
use Rattle.slot_numbers.specs.declared.numbers.SlotNumbers.{SlotNumbers}
use Rattle.slot_numbers.specs.Keys.{Key, key_of, seen}

-- the keys of the slots that were seen
abbrev pub keys_of : SlotNumbers → List Key
keys_of n = map seen n.seen.keys

-- this is the number of the slot in the file with a number
abbrev pub IsNumbered : List Key → ℕ → SlotName → SlotId → Type 0
IsNumbered ks f s i = slice_get ks i.0 ≡ Some (key_of f s)

abbrev pub IsPairNumbered : List Key → ℕ → SlotName × SlotName → SlotId × SlotId → Type 0
IsPairNumbered ks f p i = IsNumbered ks f p.0 i.0 × IsNumbered ks f p.1 i.1

-- the same of each of some
abbrev pub AreNumbered : List Key → ℕ → List SlotName → List SlotId → Type 0
AreNumbered ks f ss is = AllZip (IsNumbered ks f) ss is

abbrev pub ArePairsNumbered : List Key → ℕ → List (SlotName × SlotName) → List (SlotId × SlotId) → Type 0
ArePairsNumbered ks f ps is = AllZip (IsPairNumbered ks f) ps is
