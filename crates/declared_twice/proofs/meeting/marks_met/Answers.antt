use Rattle.std.proofs.Common.{◌≡◌, ◌≤◌, ℕ, Bool, true, false, List, length, take, get_or, sym, ap, subst, ◌∙◌, arith}
use Rattle.std.specs.Prelude.{Vec}
use Rattle.std.specs.declared.alloc.Global.{Global}
use Rattle.std.proofs.lemmas.List.{take_more, take_all, length-map, length-replicate}
use Rattle.std.proofs.lemmas.List.Elements.{Contains-get_or}
use Rattle.graph_search.specs.Graph.{IsMarkedFrom, graph_of, marked}
use Rattle.declared_twice.proofs.MetLemmas.{MetSoFar, met_past, met_more, met_all}
use Rattle.declared_twice.proofs.meeting.marks_met.Goals as goal

pub is_marked-is_before-requires : goal.is_marked-is_before-requires
is_marked-is_before-requires c =
    let ns = c.args.entries.now in
    let i = c.loop-entry.entry-index in
    let below = c.requires.runs.below (get_or ns i 0) (Contains-get_or ns i 0 c.loop-entry-test.true) in
    let lent : length c.as_slice.result.now ≡ length c.mark_from.new.marked.items = ap (λ (ms : List Bool). length ms) c.as_slice.ensures.value in
    let first : length c.in_ok-reaching.reaching.items ≡ length c.args.before.now =
    ap (λ (ms : List Bool). length ms) c.in_ok-reaching.ensures
    ∙ length-replicate (length c.args.before.now) false in
    omega (arith, below, lent, first, c.in_ok-mark_from.ensures.size, c.requires.runs.turned.size, length-map c.args.before.now (λ (v : Vec ℕ Global). v.items))

pub loop-entry-preserved-then-not-is_before : goal.loop-entry-preserved-then-not-is_before
loop-entry-preserved-then-not-is_before c =
    let ns = c.args.entries.now in
    let i = c.loop-entry.entry-index in
    let e = get_or ns i 0 in
    let reaching = c.mark_from.new.marked.items in
    let off : marked reaching e ≡ false = ap (λ (ms : List Bool). marked ms e) (sym c.as_slice.ensures.value) ∙ sym c.is_marked-is_before.ensures ∙ c.if-not-is_before.true in
    subst (λ (es : List ℕ). MetSoFar (graph_of c.args.next.now) reaching es c.loop-entry.reached.items) (sym (take_more ns i 0 c.loop-entry-test.true))
    (met_past (graph_of c.args.next.now) reaching (take i ns) e c.loop-entry.reached.items off c.loop-entry.invariant)

pub loop-entry-preserved : goal.loop-entry-preserved
loop-entry-preserved c =
    let ns = c.args.entries.now in
    let i = c.loop-entry.entry-index in
    let e = get_or ns i 0 in
    let reaching = c.mark_from.new.marked.items in
    let on : marked reaching e ≡ true = ap (λ (ms : List Bool). marked ms e) (sym c.as_slice.ensures.value) ∙ sym c.is_marked-is_before.ensures ∙ c.if-not-is_before.false in
    subst (λ (es : List ℕ). MetSoFar (graph_of c.args.next.now) reaching es c.mark_from-in-loop-entry.new.marked.items) (sym (take_more ns i 0 c.loop-entry-test.true))
    (met_more (graph_of c.args.next.now) reaching (take i ns) e c.loop-entry.reached.items
    c.mark_from-in-loop-entry.new.marked.items on c.in_ok-mark_from-2.ensures c.loop-entry.invariant)

pub returns : goal.returns
returns c =
    let ns = c.args.entries.now in
    let i = c.loop-entry.entry-index in
    let past : length ns ≤ i = omega arith in
    let reaching = c.mark_from.new.marked.items in
    met_all (graph_of c.args.next.now) (graph_of c.args.before.now) ns c.args.file (length c.args.before.now) reaching c.loop-entry.reached.items c.requires.runs.turned
    (subst (λ (os : List Bool). IsMarkedFrom (graph_of c.args.before.now) c.args.file os reaching) c.in_ok-reaching.ensures c.in_ok-mark_from.ensures)
    (subst (λ (es : List ℕ). MetSoFar (graph_of c.args.next.now) reaching es c.loop-entry.reached.items) (take_all i ns past) c.loop-entry.invariant)
