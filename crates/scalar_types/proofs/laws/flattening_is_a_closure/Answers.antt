use Rattle.scalar_types.proofs.DepthLemmas.{Below-flattened, NestsTo-flattened, flattened-Below, flattened-NestsTo}
use Rattle.scalar_types.proofs.laws.flattening_is_a_closure.Goals as goal

pub returns : goal.returns
returns c = record {
  above = Below-flattened;
  nests = NestsTo-flattened;
  keeps_order = flattened-Below;
  stays = flattened-NestsTo;
}
