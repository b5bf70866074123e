use Rattle.program_names.specs.Whole.{files_of}
use Rattle.slot_numbers.specs.Numbered.{keys_of}
use Rattle.resolved_names.specs.Index.{declared_in}
use Rattle.resolved_names.proofs.FilesLemmas.{AreUpTo}
use Rattle.resolved_names.proofs.files.all_names.Given as goal

abbrev pub invariant-loop-number : goal.invariant-loop-number
invariant-loop-number l =
    AreUpTo l.index.entries (declared_in l.told) l.others (files_of l.program) (keys_of l.numbers) l.number l.files.items
