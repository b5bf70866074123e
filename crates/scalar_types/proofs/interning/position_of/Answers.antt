use Rattle.std.proofs.Common.{ap, sym, ◌∙◌, subst, Some, eqb}
use Rattle.std.specs.Cmp.Lexicographic.{pointwise}
use Rattle.std.proofs.lemmas.Option.{slice_get-map}
use Rattle.std.specs.Option.{option_map}
use Rattle.scalar_types.specs.Pool.{KeepsEach}
use Rattle.scalar_types.specs.Rows.{rows}
use Rattle.scalar_types.proofs.InterningLemmas.{KeepsEach-insert_key, HasNoRepeat-distinct, same_from_pointwise, pointwise-same}
use Rattle.scalar_types.proofs.interning.position_of.Goals as goal

pub returns-clause-kept : goal.returns-clause-kept
returns-clause-kept c =
    subst (λ l. KeepsEach (rows c.args.lists.now.keys) (rows l)) (sym c.in_ok-at.ensures.keys)
    (KeepsEach-insert_key _ (λ x y. pointwise eqb x.items y.items) c.args.lists.now.keys c.in_ok-numbers.numbers)

pub returns-clause-found : goal.returns-clause-found
returns-clause-found c =
    let k = c.in_ok-at.ensures.stored in
    slice_get-map (λ v. v.items) c.insert_full.new.self.keys c.in_ok-at.at
    ∙ ap (option_map (λ v. v.items)) k.1
    ∙ ap Some (sym (same_from_pointwise c.in_ok-numbers.numbers.items k.0.items k.2) ∙ c.in_ok-numbers.ensures.items)

pub returns-clause-differ : goal.returns-clause-differ
returns-clause-differ c =
    HasNoRepeat-distinct (λ v. v.items) _ (λ x y e. pointwise-same x.items y.items e) c.insert_full.new.self.keys c.in_ok-at.ensures.unique
