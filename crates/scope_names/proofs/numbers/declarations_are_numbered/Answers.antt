use Rattle.scope_names.proofs.NumberLemmas.{declarations_are_numbered}
use Rattle.scope_names.proofs.numbers.declarations_are_numbered.Goals as goal

pub returns : goal.returns
returns c = declarations_are_numbered
