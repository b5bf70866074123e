use Rattle.std.proofs.Common.{rules, ◌≡◌, ◌<◌, ℕ, Bool, true, false, List, length, set, sym, subst, ap, ◌∙◌, arith}
use Rattle.std.proofs.lemmas.List.{length-set, length-replicate}
use Rattle.graph_search.specs.Graph.{marked}
use Rattle.class_cycles.specs.Circuits.{AreWithin}
use Rattle.class_cycles.proofs.CircuitLemmas.{Searched, searched_none, searched_all, free_behind, first_from, none_from}
use Rattle.class_cycles.proofs.circuit.first_circuit.Goals as goal

pub loop-first-init : goal.loop-first-init
loop-first-init c =
    let e = c.in_ok-taken.ensures.items_if_clones_equal (λ y e. e) in
    record {
      size = ap (λ (ts : List Bool). length ts) e ∙ length-replicate c.args.count false;
      searched = subst (λ (ts : List Bool). Searched c.args.pairs.now ts 0) (sym e) (searched_none c.args.pairs.now c.args.count);
    }

pub beginnings-requires : goal.beginnings-requires
beginnings-requires c =
    subst (λ (n : ℕ). AreWithin n c.args.pairs.now) (sym (ap (λ (ls : List ℕ). length ls) c.as_slice.ensures.value ∙ c.in_ok-levels.ensures)) c.requires

pub second_number-requires-clause-within : goal.second_number-requires-clause-within
second_number-requires-clause-within c =
    let ts = c.loop-first.taken.items in
    let n = c.loop-first.first in
    let e : c.as_slice-in-loop-first.result.now ≡ set ts n true = c.as_slice-in-loop-first.ensures.value in
    subst (λ (k : ℕ). AreWithin k c.args.pairs.now) (sym (ap (λ (xs : List Bool). length xs) e ∙ length-set ts n true ∙ c.loop-first.invariant.size)) c.requires

pub second_number-requires-clause-others : goal.second_number-requires-clause-others
second_number-requires-clause-others c =
    let ts = c.loop-first.taken.items in
    let n = c.loop-first.first in
    λ b h. ap (λ (xs : List Bool). marked xs b) c.as_slice-in-loop-first.ensures.value ∙ free_behind c.args.pairs.now ts n c.loop-first.invariant.searched b h

pub around-requires-clause-begun : goal.around-requires-clause-begun
around-requires-clause-begun c =
    let ts = c.loop-first.taken.items in
    let n = c.loop-first.first in
    let e : c.as_slice-in-loop-first.result.now ≡ set ts n true = search rules in
    let f : c.as_mut_slice.result.now ≡ set ts n true = search rules in
    let h : n < length ts = omega (arith, c.loop-first.invariant.size, c.loop-first-test.true) in
    first_from c.args.pairs.now ts c.as_slice-in-loop-first.result.now c.as_mut_slice.result.now n c.in-Some.second c.in_ok-second_number.field-0
    (subst (λ (k : ℕ). AreWithin k c.args.pairs.now) (sym c.loop-first.invariant.size) c.requires) h c.loop-first.invariant.searched e f c.in-Some.is c.in_ok-second_number.ensures

pub loop-first-preserved : goal.loop-first-preserved
loop-first-preserved c =
    let ts = c.loop-first.taken.items in
    let n = c.loop-first.first in
    let h : n < length ts = omega (arith, c.loop-first.invariant.size, c.loop-first-test.true) in
    record {
      size = length-set ts n true ∙ c.loop-first.invariant.size;
      searched = none_from c.args.pairs.now ts c.as_slice-in-loop-first.result.now n c.in_ok-second_number.field-0 h
          c.loop-first.invariant.searched c.in-None.is c.in_ok-second_number.ensures;
    }

pub returns : goal.returns
returns c =
    let e : c.loop-first.first ≡ c.args.count = omega arith in
    searched_all c.args.pairs.now c.loop-first.taken.items c.args.count c.requires
    (subst (λ (n : ℕ). Searched c.args.pairs.now c.loop-first.taken.items n) e c.loop-first.invariant.searched)
