use Rattle.std.proofs.Common.{[], ◌∷◌}
use Rattle.slot_numbers.specs.Keys.{key_of}
use Rattle.slot_numbers.specs.Numbered.{keys_of}
use Rattle.slot_numbers.proofs.GrowLemmas.{only_both}
use Rattle.slot_numbers.proofs.numbering.pair_numbers.Goals as goal

pub returns-clause-only : goal.returns-clause-only
returns-clause-only c =
    only_both (keys_of c.args.numbers.now) (keys_of c.number.new.self) (keys_of c.number-2.new.self)
    (key_of c.args.file c.args.pair.0 ∷ []) (key_of c.args.file c.args.pair.1 ∷ []) c.in_ok-first.ensures.only c.in_ok-second.ensures.only
