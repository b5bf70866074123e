use Rattle.std.proofs.Common.{◌≡◌, ◌∙◌}
use Rattle.scalar_types.specs.Sets.{union, intersection}
use Rattle.scalar_types.proofs.TermLemmas.{term-array}
use Rattle.scalar_types.proofs.meets.meet_array.Goals as goal

pub returns : goal.returns
returns c =
    let shared : c.of.result ≡ union c.args.p.now.shared c.args.q.now.shared =
    c.of.ensures ∙ c.in_ok-shared.ensures.value ∙ (λ i. union (c.as_slice.ensures.labels i) (c.as_slice-2.ensures.labels i)) in
    let classes : c.of-2.result ≡ intersection c.args.p.now.classes c.args.q.now.classes =
    c.of-2.ensures ∙ c.in_ok-classes.ensures.value ∙ (λ i. intersection (c.as_slice-3.ensures.classes i) (c.as_slice-4.ensures.classes i)) in
    term-array _ _ _ _ _ _ _ _ _ c.in_ok-new.ensures.ok shared classes
