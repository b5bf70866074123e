use Rattle.std.proofs.Common.{rules, sym}
use Rattle.scalar_types.proofs.InterningLemmas.{slice_get-position, HasNoRepeat-distinct_itself}
use Rattle.scalar_types.proofs.interning.store.Goals as goal

pub returns-in-Some-clause-found : goal.returns-in-Some-clause-found
returns-in-Some-clause-found c =
    slice_get-position _ c.args.form (λ y e. search (rules, e)) _ _ (sym c.in-Some.ensures.index)

pub returns-clause-differ : goal.returns-clause-differ
returns-clause-differ c = HasNoRepeat-distinct_itself _ (λ x y e. search (rules, e)) _ c.in_ok-at.ensures.unique
