use Rattle.std.proofs.Common.{◌≡◌, ◌<◌, ℕ, List, [], length, map, get_or, sym, subst, ap, ◌∙◌}
use Rattle.std.specs.List.{All}
use Rattle.class_cycles.specs.Circuits.{Pairs, AreWithin}
use Rattle.class_cycles.specs.Names.{pairs_of}
use Rattle.class_cycles.proofs.StandLemmas.{pairs_within, none_found, first_found, found_within}
use Rattle.class_cycles.proofs.cycle.first_among.Goals as goal

pub first_circuit-requires : goal.first_circuit-requires
first_circuit-requires c =
    let e : c.as_slice.result.now ≡ pairs_of c.args.names.now c.args.told.now = c.as_slice.ensures.value ∙ c.in_ok-pairs.ensures in
    subst (λ (n : ℕ). AreWithin n c.as_slice.result.now) (sym c.in_ok-count.ensures)
    (subst (λ (qs : Pairs). AreWithin (length c.args.names.now) qs) (sym e) (pairs_within c.args.names.now c.args.told.now))

pub returns-in-None : goal.returns-in-None
returns-in-None c =
    let e : c.as_slice.result.now ≡ pairs_of c.args.names.now c.args.told.now = c.as_slice.ensures.value ∙ c.in_ok-pairs.ensures in
    none_found c.args.told.now c.args.names.now c.as_slice.result.now c.in_ok-first_circuit.field-0 c.requires e c.in-None.is c.in_ok-first_circuit.ensures

pub named-requires : goal.named-requires
named-requires c =
    let e : c.as_slice.result.now ≡ pairs_of c.args.names.now c.args.told.now = c.as_slice.ensures.value ∙ c.in_ok-pairs.ensures in
    subst (λ (rs : List ℕ). All (λ i. i < length c.args.names.now) rs) (sym c.as_slice-in-Some.ensures.value)
    (found_within c.args.told.now c.args.names.now c.as_slice.result.now c.in-Some.circuit c.in_ok-first_circuit.field-0 e c.in-Some.is c.in_ok-first_circuit.ensures)

pub returns : goal.returns
returns c =
    let names = c.args.names.now in
    let e : c.as_slice.result.now ≡ pairs_of names c.args.told.now = c.as_slice.ensures.value ∙ c.in_ok-pairs.ensures in
    first_found c.args.told.now names c.as_slice.result.now c.in-Some.circuit c.in_ok-first_circuit.field-0
    c.in_ok-named-in-Some.field-0.items c.requires e c.in-Some.is c.in_ok-first_circuit.ensures
    (c.in_ok-named-in-Some.ensures ∙ ap (λ (rs : List ℕ). map (λ (i : ℕ). get_or names i []) rs) c.as_slice-in-Some.ensures.value)
