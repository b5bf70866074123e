use Rattle.std.proofs.Common.{◌≡◌, ◌∷◌, ap, sym, ◌∙◌, subst}
use Rattle.upload_order.proofs.OrderLemmas.{not_greater, repeats_behind, repeats_here}
use Rattle.upload_order.specs.Paths.{AreSorted, Repeats}
use Rattle.upload_order.proofs.order.+ascends.Goals as goal

pub unreachable-requires : goal.unreachable-requires
unreachable-requires n c =
    not_greater c.in-Some.first.now c.in-Some-split_first.second.now c.in-Some-split_first.field-0-1.now
    (sym c.in-Greater.ensures)
    (subst AreSorted (c.in-Some.ensures.cases.0 ∙ ap (λ fs. c.in-Some.first.now ∷ fs) c.in-Some-split_first.ensures.cases.0) c.requires)

pub returns-in-Less-clause-twice : goal.returns-in-Less-clause-twice
returns-in-Less-clause-twice n c =
    repeats_behind c.in-Some.first.now c.in-Some.rest.now c.args.files.now c.ascends.result c.in-Some.ensures.cases.0
    c.ascends.ensures.twice

pub returns-in-Equal-clause-twice : goal.returns-in-Equal-clause-twice
returns-in-Equal-clause-twice n c =
    subst Repeats (sym (c.in-Some.ensures.cases.0 ∙ ap (λ fs. c.in-Some.first.now ∷ fs) c.in-Some-split_first.ensures.cases.0))
    (repeats_here c.in-Some.first.now c.in-Some-split_first.second.now c.in-Some-split_first.field-0-1.now (sym c.in-Equal.ensures))
