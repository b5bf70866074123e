use Rattle.std.proofs.lemmas.Result.{IfOk-weaker}
use Rattle.class_cycles.proofs.CircuitLemmas.{second_from}
use Rattle.class_cycles.proofs.circuit.second_number.Goals as goal

pub returns : goal.returns
returns c = IfOk-weaker c.onward.result _ _ (λ o h. second_from c.args.pairs.now c.args.taken.now c.args.first o c.requires.others h) c.onward.ensures
