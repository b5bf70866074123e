use Rattle.std.proofs.Common.{rules, ◌≡◌, eqb, sym, ◌∙◌}
use Rattle.std.specs.List.{list_any, list_all}
use Rattle.std.proofs.lemmas.Iterator.{YieldsList-from_slice}
use Rattle.std.proofs.lemmas.Iterator.Search.{all_from_yields_List}
use borrow.Author.Tests.{tests}
use Rattle.scalar_types.proofs.SetLemmas.{subset_from_all, all_from_subset}
use Rattle.scalar_types.proofs.sets.is_subset.Goals as goal

pub returns : goal.returns
returns c =
    let xs = c.args.xs.now in
    let ys = c.args.ys.now in
    let e : c.all.result ≡ list_all (λ x. list_any (λ y. eqb x y) ys) xs =
    all_from_yields_List (λ x. list_any (λ y. eqb x y) ys) _ _ c.all.result c.all.ensures.ran (YieldsList-from_slice xs cc) (λ x b q k. search (rules, tests)) in
    (λ h. subset_from_all xs ys (sym e ∙ h), λ s. e ∙ all_from_subset xs ys s)
