use Rattle.slot_numbers.proofs.SeenLemmas.{apart}
use Rattle.slot_numbers.proofs.numbers.SlotNumbers.count.Goals as goal

pub returns-clause-apart : goal.returns-clause-apart
returns-clause-apart c = apart c.args.self.now.seen.keys c.len.ensures.unique
