use Rattle.std.proofs.Common.{ℕ, List, take, get_or, sym, subst}
use Rattle.std.proofs.lemmas.List.{take_more}
use Rattle.std.proofs.lemmas.List.Elements.{Contains-get_or}
use Rattle.graph_search.specs.Graph.{graph_of}
use Rattle.declared_twice.specs.Marked.{Marked}
use Rattle.declared_twice.proofs.MarkedLemmas.{marked_more}
use Rattle.declared_twice.proofs.marks.marks_of.Goals as goal

pub mark_from-requires-clause-start : goal.mark_from-requires-clause-start
mark_from-requires-clause-start c =
    let ns = c.args.from.now in
    let i = c.loop-number.number-index in
    c.requires.below (get_or ns i 0) (Contains-get_or ns i 0 c.loop-number-test.true)

pub loop-number-preserved : goal.loop-number-preserved
loop-number-preserved c =
    let ns = c.args.from.now in
    let i = c.loop-number.number-index in
    let g = graph_of c.args.next.now in
    subst (λ (us : List ℕ). Marked g us c.mark_from.new.marked.items) (sym (take_more ns i 0 c.loop-number-test.true))
    (marked_more g (take i ns) (get_or ns i 0) c.loop-number.marks.items c.mark_from.new.marked.items c.loop-number.invariant c.in_ok-mark_from.ensures)
