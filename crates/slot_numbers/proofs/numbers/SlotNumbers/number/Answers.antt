use Rattle.std.specs.Prelude.{map}
use Rattle.std.proofs.Common.{subst, [], ◌∷◌}
use Rattle.slot_numbers.specs.Growing.{HasOnly}
use Rattle.slot_numbers.specs.Keys.{Key, seen}
use Rattle.slot_numbers.specs.Numbered.{keys_of}
use Rattle.slot_numbers.proofs.numbers.SlotNumbers.number.Goals as goal

pub returns-clause-only : goal.returns-clause-only
returns-clause-only c =
    subst (λ (k : Key). HasOnly (keys_of c.args.self.now) (k ∷ []) (map seen c.place.new.keys.keys)) c.key.ensures c.in_ok-place.ensures.only
