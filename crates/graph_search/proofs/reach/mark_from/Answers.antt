use Rattle.std.proofs.Common.{◌≡◌, ◌<◌, ℕ, Bool, true, List, [], ◌∷◌, ◌++◌, length, refl, sym, ap, subst, ◌∙◌, arith, rules}
use Rattle.std.specs.Prelude.{Vec, Contains}
use Rattle.std.specs.declared.alloc.Global.{Global}
use Rattle.std.proofs.lemmas.List.{length-map}
use Rattle.std.proofs.lemmas.List.Elements.{Contains-push}
use Rattle.graph_search.specs.Graph.{Graph, Edge, graph_of, marked}
use Rattle.graph_search.specs.Marks.{Marks}
use Rattle.graph_search.proofs.MarkLemmas.{Following, following_first, following_step, following_last, marked_within}
use Rattle.graph_search.proofs.reach.mark_from.Goals as goal

pub loop-turn-init : goal.loop-turn-init
loop-turn-init c =
    following_first (graph_of c.args.next.now) c.args.from c.args.marked.now.items c.mark.new.marked.items c.mark.new.pending.items c.requires.closed
    (subst (λ (os : List ℕ). Marks (c.args.from ∷ []) c.args.marked.now.items c.mark.new.marked.items os c.mark.new.pending.items) c.new-pending.ensures.items c.in_ok-mark.ensures)

nothing : (xs : List ℕ) → length xs ≡ 0 → xs ≡ []
nothing [] e = refl
nothing (x ∷ xs) e = absurd (omega (arith, e))

pub returns-in_default : goal.returns-in_default
returns-in_default c =
    following_last (graph_of c.args.next.now) c.args.from c.args.marked.now.items c.loop-turn.marked.items
    (subst (λ (os : List ℕ). Following (graph_of c.args.next.now) c.args.from c.args.marked.now.items c.loop-turn.marked.items os)
    (nothing c.loop-turn.pending.items (search (rules, c.in_default.ensures, c.in_default.not-Some))) c.loop-turn.invariant)

pub following-requires : goal.following-requires
following-requires c =
    let n = c.in-Some.number in
    let m = c.loop-turn.invariant.are n (subst (λ (os : List ℕ). Contains os n) (sym c.in-Some.ensures.items) (Contains-push c.pop.new.self.items n)) in
    omega (arith, marked_within c.loop-turn.marked.items n m, c.loop-turn.invariant.size, c.requires.size)

pub mark_all-requires : goal.mark_all-requires
mark_all-requires c = λ b k.
    let w = c.requires.within c.in-Some.number b (record { all = c.following.result.now; at = c.following.ensures; among = k }) in
    omega (arith, w, c.loop-turn.invariant.size, c.requires.size, length-map c.args.next.now (λ (v : Vec ℕ Global). v.items))

pub loop-turn-preserved : goal.loop-turn-preserved
loop-turn-preserved c =
    let n = c.in-Some.number in
    following_step (graph_of c.args.next.now) c.args.from c.args.marked.now.items c.loop-turn.marked.items c.mark_all.new.marked.items
    c.pop.new.self.items c.mark_all.new.pending.items n c.following.result.now c.following.ensures
    (subst (λ (os : List ℕ). Following (graph_of c.args.next.now) c.args.from c.args.marked.now.items c.loop-turn.marked.items os) c.in-Some.ensures.items c.loop-turn.invariant)
    c.in_ok-mark_all.ensures
