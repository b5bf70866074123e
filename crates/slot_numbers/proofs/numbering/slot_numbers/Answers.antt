use Rattle.std.proofs.Common.{List, [], ◌∷◌, ◌++◌, sym, subst}
use Rattle.program_names.specs.declared.slot_id.SlotId.{SlotId}
use Rattle.slot_numbers.specs.Growing.{HasOnly}
use Rattle.slot_numbers.specs.Keys.{Key, key_of, keys_of_slots}
use Rattle.slot_numbers.specs.Numbered.{AreNumbered, IsNumbered, keys_of}
use Rattle.slot_numbers.proofs.GrowLemmas.{keeps_both, only_both}
use Rattle.slot_numbers.proofs.NumberLemmas.{all_push, numbered_later, slots_more}
use Rattle.slot_numbers.proofs.numbering.slot_numbers.Goals as goal

pub loop-slot-preserved : goal.loop-slot-preserved
loop-slot-preserved c =
    let old = keys_of c.args.numbers.now in
    let ks = keys_of c.loop-slot.numbers in
    let js = keys_of c.number.new.self in
    let f = c.args.file in
    let ss = c.loop-slot.yielded in
    let s = c.in-Some.slot in
    let is = c.loop-slot.all.items in
    let (numbered, keeps, only) = c.loop-slot.invariant in (
      subst (λ (ns : List SlotId). AreNumbered js f (ss ++ s ∷ []) ns) (sym c.in_ok-push.ensures.items)
          (all_push (IsNumbered js f) ss is s c.in_ok-number.number (numbered_later ks js f ss is c.in_ok-number.ensures.keeps numbered) c.in_ok-number.ensures.number),
      keeps_both old ks js keeps c.in_ok-number.ensures.keeps,
      subst (λ (ns : List Key). HasOnly old ns js) (sym (slots_more f ss s))
          (only_both old ks js (keys_of_slots f ss) (key_of f s ∷ []) only c.in_ok-number.ensures.only),
    )
