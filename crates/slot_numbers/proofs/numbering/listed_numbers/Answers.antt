use Rattle.std.proofs.Common.{List, [], ◌∷◌, ◌++◌, sym, subst}
use Rattle.program_names.specs.declared.slot_id.SlotId.{SlotId}
use Rattle.slot_numbers.specs.Growing.{HasOnly}
use Rattle.slot_numbers.specs.Keys.{Key, keys_of_pair, keys_of_pairs}
use Rattle.slot_numbers.specs.Numbered.{ArePairsNumbered, IsPairNumbered, keys_of}
use Rattle.slot_numbers.proofs.GrowLemmas.{keeps_both, only_both}
use Rattle.slot_numbers.proofs.NumberLemmas.{all_push, pairs_later, pairs_more}
use Rattle.slot_numbers.proofs.numbering.listed_numbers.Goals as goal

pub loop-pair-preserved : goal.loop-pair-preserved
loop-pair-preserved c =
    let old = keys_of c.args.numbers.now in
    let ks = keys_of c.loop-pair.numbers in
    let js = keys_of c.pair_numbers.new.numbers in
    let f = c.args.file in
    let ps = c.loop-pair.yielded in
    let p = c.in-Some.pair in
    let is = c.loop-pair.all.items in
    let (numbered, keeps, only) = c.loop-pair.invariant in (
      subst (λ (ns : List (SlotId × SlotId)). ArePairsNumbered js f (ps ++ p ∷ []) ns) (sym c.in_ok-push.ensures.items)
          (all_push (IsPairNumbered js f) ps is p c.in_ok-both.both (pairs_later ks js f ps is c.in_ok-both.ensures.keeps numbered) c.in_ok-both.ensures.numbered),
      keeps_both old ks js keeps c.in_ok-both.ensures.keeps,
      subst (λ (ns : List Key). HasOnly old ns js) (sym (pairs_more f ps p))
          (only_both old ks js (keys_of_pairs f ps) (keys_of_pair f p) only c.in_ok-both.ensures.only),
    )
