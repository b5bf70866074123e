use Rattle.std.proofs.Common.{rules, ◌++◌, eqb, sym, ◌∙◌, subst}
use Rattle.std.specs.List.Sorted.{IsPermutation, IsStrictlyIncreasing}
use Rattle.std.proofs.lemmas.List.Filters.{dedup_is}
use Rattle.std.proofs.lemmas.Map.Keys.{IsStrictlyIncreasing-dedup}
use Rattle.scalar_types.proofs.SetLemmas.{dedup-union}
use Rattle.scalar_types.proofs.sets.joined_numbers.Goals as goal

pub returns-clause-value : goal.returns-clause-value
returns-clause-value c =
    let moved : IsPermutation (c.args.xs.now ++ c.args.ys.now) c.sort_unstable.new.self.items = search rules in
    dedup_is eqb _ _ c.dedup.ensures.filtered
    ∙ dedup-union c.args.xs.now c.args.ys.now _ c.requires.second moved c.sort_unstable.ensures.sorted

pub returns-clause-ascending : goal.returns-clause-ascending
returns-clause-ascending c =
    subst IsStrictlyIncreasing (sym (dedup_is eqb _ _ c.dedup.ensures.filtered)) (IsStrictlyIncreasing-dedup _ c.sort_unstable.ensures.sorted)
