use Rattle.slot_numbers.specs.Growing.{HasOnly, Keeps}
use Rattle.slot_numbers.specs.Keys.{keys_of_pairs}
use Rattle.slot_numbers.specs.Numbered.{ArePairsNumbered, keys_of}
use Rattle.slot_numbers.proofs.numbering.listed_numbers.Given as goal

abbrev pub invariant-loop-pair : goal.invariant-loop-pair
invariant-loop-pair l =
    ArePairsNumbered (keys_of l.numbers) l.file l.yielded l.all.items
    × Keeps (keys_of l.fn.numbers) (keys_of l.numbers)
    × HasOnly (keys_of l.fn.numbers) (keys_of_pairs l.file l.yielded) (keys_of l.numbers)
