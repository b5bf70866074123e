-- Which slots the nodes of files name, by number.
use Rattle.std.specs.Prelude.{◌≡◌, ℕ, suc, List, [], ◌∷◌, map, length, slice_get, Some, ◌⊎◌}
use Rattle.php_rows.specs.File.{file_in}
use Rattle.php_rows.specs.declared.file.RowTree.{RowTree}
use Rattle.node_names.specs.Facts.{Fact, file_facts}
use Rattle.node_names.specs.Slots.{NamedSlot}
use Rattle.node_facts.specs.declared.facts.FileFacts.{FileFacts}
use Rattle.node_facts.specs.declared.slot_name.SlotName.{SlotName}
use Rattle.node_facts.specs.Flat.{flat_in, nodes_in, slots_listed, slots_named, start}
use Rattle.node_facts.specs.Named.{named_of}
use Rattle.node_facts.specs.Seen.{slot_in}
use Rattle.program_names.specs.Files.{Files}
use Rattle.slot_numbers.specs.Growing.{AreApart, Has}
use Rattle.slot_numbers.specs.Keys.{Key, key_of}
use Rattle.slot_numbers.specs.Numbered.{AreNumbered, ArePairsNumbered}
use Rattle.resolved_names.specs.declared.file_names.FileNames.{FileNames}

-- the slots of the file with a number, whose nodes tell this, have these numbers
pub record IsSlotFile (ks : List Key) (f : ℕ) (path : List ℕ) (v : FileNames) (xs : List Fact) : Type 0 where
  pub facts : FileFacts
  pub told : nodes_in (flat_in path facts) start v.nodes.items ≡ map named_of xs
  pub slots : AreNumbered ks f facts.slots.items v.slots.items
  pub listed : ArePairsNumbered ks f facts.listed.items v.listed.items

-- the same of each file, from the one with a number on
abbrev pub AreNumberedFiles : List Key → ℕ → Files → List FileNames → Type 0
AreNumberedFiles ks f [] [] = Unit {0}
AreNumberedFiles ks f [] (v ∷ vs) = ⊥
AreNumberedFiles ks f (x ∷ fs) [] = ⊥
AreNumberedFiles ks f (x ∷ fs) (v ∷ vs) = IsSlotFile ks f x.0 v (file_facts x.0 (file_in x.1).statements) × AreNumberedFiles ks (suc f) fs vs

-- a node of a file names the slot, or lists it
abbrev pub IsSlotOf : List ℕ → List Fact → SlotName → Type 0
IsSlotOf path xs s =
    Has (slots_named (map named_of xs)) (slot_in path s)
    ⊎ ((p : NamedSlot × NamedSlot) × Has (slots_listed (map named_of xs)) p × ((p.0 ≡ slot_in path s) ⊎ (p.1 ≡ slot_in path s)))

-- each key was there, or is that of a slot of this file
abbrev pub HasOnlyOf : ℕ → List ℕ → List Fact → List Key → List Key → Type 0
HasOnlyOf f path xs old new = (k : Key) → Has new k → Has old k ⊎ ((s : SlotName) × (k ≡ key_of f s) × IsSlotOf path xs s)

-- a key is that of a slot that a node of a file names or lists
pub record IsKeyOf (fs : Files) (k : Key) : Type 0 where
  pub f : ℕ
  pub file : List ℕ × RowTree
  pub at : slice_get fs f ≡ Some file
  pub slot : SlotName
  pub key : k ≡ key_of f slot
  pub named : IsSlotOf file.0 (file_facts file.0 (file_in file.1).statements) slot

-- the slots of all files, so many, have their numbers
pub record AreSlotFiles (fs : Files) (vs : List FileNames) (n : ℕ) : Type 0 where
  pub keys : List Key
  pub apart : AreApart keys
  pub count : n ≡ length keys
  pub only : (k : Key) → Has keys k → IsKeyOf fs k
  pub numbered : AreNumberedFiles keys 0 fs vs
