use Rattle.std.proofs.Common.{rules, ◌≡◌, ◌≢◌, ℕ, true, List, set, sym, subst}
use Rattle.std.proofs.lemmas.List.{length-set}
use Rattle.class_cycles.specs.Circuits.{AreWithin}
use Rattle.class_cycles.proofs.CircuitLemmas.{Round, round_more, round_all, back_within, goes_on}
use Rattle.class_cycles.proofs.circuit.around.Goals as goal

pub bounds-taken-next : goal.bounds-taken-next
bounds-taken-next c =
    let w = c.loop-turn.invariant.walked in
    back_within c.args.pairs.now c.loop-turn.taken c.args.first c.loop-turn.next w.begun w.within w.back

pub next_number-requires-clause-within : goal.next_number-requires-clause-within
next_number-requires-clause-within c =
    subst (λ (n : ℕ). AreWithin n c.args.pairs.now) (sym (length-set c.loop-turn.taken c.loop-turn.next true)) c.loop-turn.invariant.walked.within

pub next_number-requires-clause-leads : goal.next_number-requires-clause-leads
next_number-requires-clause-leads c =
    let d : c.loop-turn.next ≢ c.args.first = search rules in
    goes_on c.args.pairs.now c.loop-turn.taken c.args.first c.loop-turn.next c.loop-turn.invariant.walked.back d

pub loop-turn-preserved : goal.loop-turn-preserved
loop-turn-preserved c =
    let ps = c.args.pairs.now in
    let ts = c.loop-turn.taken in
    let next = c.loop-turn.next in
    let s = c.in_ok-next.next in
    let d : next ≢ c.args.first = search rules in
    subst (λ (xs : List ℕ). Round ps (set ts next true) c.args.first xs s) (sym c.in_ok-push-2.ensures.items)
    (round_more ps ts c.args.first c.loop-turn.path.items next s c.loop-turn.invariant d c.in_ok-next.ensures)

pub returns-then-next-first : goal.returns-then-next-first
returns-then-next-first c =
    let e : c.loop-turn.next ≡ c.args.first = search rules in
    round_all c.args.pairs.now c.loop-turn.taken c.args.first c.loop-turn.path.items c.loop-turn.next c.loop-turn.invariant e
