use Rattle.std.proofs.Common.{subst}
use Rattle.scalar_types.specs.Join.{NestsTo}
use Rattle.scalar_types.proofs.DepthLemmas.{NestsTo-join, NestsTo-meet, NestsTo-element}
use Rattle.std.proofs.Common.{add-one}
use Rattle.scalar_types.proofs.laws.results_nest_no_deeper.Goals as goal

pub returns : goal.returns
returns c = record {
  join = NestsTo-join;
  meet = NestsTo-meet;
  element = λ depth a h. NestsTo-element depth a (subst (λ n. NestsTo n a) (add-one depth) h);
}
