use Rattle.scalar_types.proofs.RankLemmas.{UsesOnly-join, UsesOnly-meet, UsesOnly-flattened, UsesOnly-element}
use Rattle.scalar_types.proofs.laws.results_use_no_more.Goals as goal

pub returns : goal.returns
returns c = record {
  join = UsesOnly-join;
  meet = UsesOnly-meet;
  flatten = UsesOnly-flattened;
  element = UsesOnly-element;
}
