use Rattle.std.proofs.Common.{rules, ◌≡◌, IfOk, sym, subst}
use Rattle.std.specs.List.Sorted.{IsStrictlyIncreasing}
use Rattle.std.proofs.lemmas.Result.{IfOk-weaker}
use Rattle.std.proofs.lemmas.List.Kept.{IsStrictlyIncreasing-filter}
use Rattle.scalar_types.specs.Sets.{intersection}
use Rattle.scalar_types.proofs.sets.common_numbers.Goals as goal

pub returns-clause-ascending : goal.returns-clause-ascending
returns-clause-ascending c =
    let e : IfOk c.collect.result (λ v. v.items ≡ intersection c.args.xs.now c.args.ys.now) = search rules in
    IfOk-weaker c.collect.result _ _ (λ v h. subst IsStrictlyIncreasing (sym h) (IsStrictlyIncreasing-filter _ _ c.requires.first)) e
