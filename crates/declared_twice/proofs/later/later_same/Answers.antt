use Rattle.std.proofs.Common.{◌≡◌, ℕ, ◌+◌, ◌-◌, List, set, sym, ap, subst, ◌∙◌, arith, Option}
use Rattle.std.specs.BTreeMap.{get}
use Rattle.std.proofs.lemmas.Option.{slice_get_within}
use Rattle.declared_twice.proofs.LaterLemmas.{SoFar, so_far_apart, so_far_more}
use Rattle.declared_twice.proofs.later.later_same.Goals as goal

pub loop-place-preserved-in-None : goal.loop-place-preserved-in-None
loop-place-preserved-in-None g c =
    let p = c.loop-place.place in
    let f = λ (k : g.row.K.Denot). get g.K.Ord.cmp c.loop-place.first k in
    let next : p ≡ (p - 1) + 1 = omega arith in
    so_far_apart g.K.Ord.cmp c.args.keys.now (p - 1) f c.loop-place.later.items c.in-None.ensures
    (subst (λ (n : ℕ). SoFar g.K.Ord.cmp c.args.keys.now n f c.loop-place.later.items) next c.loop-place.invariant)

pub put_at-requires : goal.put_at-requires
put_at-requires g c = omega (arith, c.loop-place.invariant.size, slice_get_within c.args.keys.now (c.loop-place.place - 1) _ c.in-Some.ensures)

pub loop-place-preserved : goal.loop-place-preserved
loop-place-preserved g c =
    let p = c.loop-place.place in
    let ns = c.loop-place.later.items in
    let f = λ (k : g.row.K.Denot). get g.K.Ord.cmp c.loop-place.first k in
    let new = λ (k : g.row.K.Denot). get g.K.Ord.cmp c.insert.new.self k in
    let next : p ≡ (p - 1) + 1 = omega arith in
    subst (λ (ms : List (Option ℕ)). SoFar g.K.Ord.cmp c.args.keys.now (p - 1) new ms) (sym (c.put_at.ensures ∙ ap (λ (v : Option ℕ). set ns (p - 1) v) c.in_ok-next.ensures.old))
    (so_far_more g.K.Ord.cmp c.args.keys.now (p - 1) f new ns c.in-Some.key g.met.K.Ord.total c.in-Some.ensures (λ q. c.in_ok-next.ensures.updates.0 q)
    (subst (λ (n : ℕ). SoFar g.K.Ord.cmp c.args.keys.now n f ns) next c.loop-place.invariant))
