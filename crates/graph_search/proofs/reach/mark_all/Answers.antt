use Rattle.std.proofs.Common.{◌≡◌, ◌<◌, ℕ, List, ◌++◌, [], ◌∷◌, get_or, take, length, sym, subst}
use Rattle.std.proofs.lemmas.List.{take_more}
use Rattle.std.proofs.lemmas.List.Elements.{Contains-get_or}
use Rattle.graph_search.specs.Marks.{Marks}
use Rattle.graph_search.proofs.MarkLemmas.{marks_both}
use Rattle.graph_search.proofs.reach.mark_all.Goals as goal

pub mark-requires : goal.mark-requires
mark-requires c =
    let ts = c.args.targets.now in
    let i = c.loop-target.target-index in
    subst (λ (n : ℕ). get_or ts i 0 < n) (sym c.loop-target.invariant.size) (c.requires (get_or ts i 0) (Contains-get_or ts i 0 c.loop-target-test.true))

pub loop-target-preserved : goal.loop-target-preserved
loop-target-preserved c =
    let ts = c.args.targets.now in
    let i = c.loop-target.target-index in
    subst (λ (us : List ℕ). Marks us c.args.marked.now.items c.mark.new.marked.items c.args.pending.now.items c.mark.new.pending.items)
    (sym (take_more ts i 0 c.loop-target-test.true))
    (marks_both (take i ts) (get_or ts i 0 ∷ []) c.args.marked.now.items c.loop-target.marked.items c.mark.new.marked.items
    c.args.pending.now.items c.loop-target.pending.items c.mark.new.pending.items c.loop-target.invariant c.in_ok-mark.ensures)
