use Rattle.std.proofs.Common.{◌≡◌, ◌∙◌}
use Rattle.scalar_types.specs.Sets.{union}
use Rattle.scalar_types.proofs.TermLemmas.{term-array}
use Rattle.scalar_types.proofs.joins.join_array.Goals as goal

pub returns : goal.returns
returns c =
    let classes : c.of-2.result ≡ union c.args.p.now.classes c.args.q.now.classes =
    c.of-2.ensures ∙ c.in_ok-classes.ensures.value ∙ (λ i. union (c.as_slice.ensures.classes i) (c.as_slice-2.ensures.classes i)) in
    term-array _ _ _ _ _ _ _ _ _ c.in_ok-new.ensures.ok (c.of.ensures ∙ c.in_ok-shared.ensures.labels) classes
