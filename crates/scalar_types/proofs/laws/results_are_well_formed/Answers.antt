use Rattle.scalar_types.proofs.JoinLemmas.{IsWellFormed-join}
use Rattle.scalar_types.proofs.DepthLemmas.{IsWellFormed-meet, IsWellFormed-flattened, IsWellFormed-element}
use Rattle.scalar_types.proofs.laws.results_are_well_formed.Goals as goal

pub returns : goal.returns
returns c = record {
  join = IsWellFormed-join;
  meet = IsWellFormed-meet;
  flatten = IsWellFormed-flattened;
  element = IsWellFormed-element;
}
