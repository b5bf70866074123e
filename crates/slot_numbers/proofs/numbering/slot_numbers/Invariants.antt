use Rattle.slot_numbers.specs.Growing.{HasOnly, Keeps}
use Rattle.slot_numbers.specs.Keys.{keys_of_slots}
use Rattle.slot_numbers.specs.Numbered.{AreNumbered, keys_of}
use Rattle.slot_numbers.proofs.numbering.slot_numbers.Given as goal

abbrev pub invariant-loop-slot : goal.invariant-loop-slot
invariant-loop-slot l =
    AreNumbered (keys_of l.numbers) l.file l.yielded l.all.items
    × Keeps (keys_of l.fn.numbers) (keys_of l.numbers)
    × HasOnly (keys_of l.fn.numbers) (keys_of_slots l.file l.yielded) (keys_of l.numbers)
