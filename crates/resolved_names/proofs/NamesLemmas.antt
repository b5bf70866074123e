-- Names, from what was read.
use Rattle.std.proofs.Common.{◌≡◌, ℕ, List, ap, subst, ◌∙◌, length}
use Rattle.file_declarations.specs.declared.told.Told.{Told}
use Rattle.program_names.specs.Classes.{AreOthers}
use Rattle.program_names.specs.Entries.{paths_of}
use Rattle.program_names.specs.Files.{Files}
use Rattle.program_names.specs.Table.{Table, table_of}
use Rattle.program_names.specs.Told.{all_told}
use Rattle.resolved_names.specs.declared.names.Names.{Names}
use Rattle.resolved_names.specs.Index.{declared_in}
use Rattle.resolved_names.specs.NodeReads.{AreFiles}
use Rattle.resolved_names.specs.Reads.{AreNames}
use Rattle.resolved_names.specs.SlotReads.{AreSlotFiles}
use Rattle.slot_numbers.specs.Growing.{AreApart}
use Rattle.resolved_names.proofs.ReadLemmas.{reads_are, classes_are}
use Rattle.resolved_names.proofs.SlotLemmas.{all_slots, are_slots, pairs_read, slots_counted, slots_read}
use Rattle.resolved_names.proofs.ToldLemmas.{told_declared}

pub names_are : (ns : Names) (fs : Files) (told : List Told) (others : List (List ℕ)) → told ≡ all_told (table_of fs) →
    AreFiles ns.index.entries (declared_in told) others ns.files.items (table_of fs) → AreOthers (table_of fs) others → AreApart (paths_of fs)
    → AreSlotFiles fs ns.files.items ns.slots → AreNames ns (table_of fs)
names_are ns fs told others h e o once slots = record {
  others = others;
  are_others = o;
  classed = λ at. classes_are ns.index.entries ns.files.items (table_of fs) (declared_in told) others at e;
  declared = λ at n. reads_are ns.index.entries ns.files.items (table_of fs) (declared_in told) others at n e
      (ap (λ (ts : List Told). declared_in ts) h ∙ told_declared (table_of fs));
  slots = all_slots (paths_of fs) slots.keys;
  are_slots = are_slots fs ns.files.items ns.slots once slots;
  count = slots_counted fs ns.files.items ns.slots slots;
  slotted = λ at. slots_read slots.keys fs ns.files.items slots.numbered at;
  listed = λ at n. pairs_read slots.keys fs ns.files.items slots.numbered at n;
}
