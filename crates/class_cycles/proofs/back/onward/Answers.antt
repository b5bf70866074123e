use Rattle.std.proofs.Common.{ℕ, Bool, List, length, sym, subst, ap, ◌∙◌}
use Rattle.class_cycles.specs.Circuits.{AreWithin}
use Rattle.class_cycles.specs.Back.{IsLeastAfter}
use Rattle.class_cycles.proofs.BackLemmas.{onward_from}
use Rattle.class_cycles.proofs.back.onward.Goals as goal

pub least_after-requires : goal.least_after-requires
least_after-requires c =
    subst (λ (n : ℕ). AreWithin n c.args.pairs.now) (sym (ap (λ (ms : List Bool). length ms) c.as_slice.ensures.value ∙ c.in_ok-marks.ensures.size)) c.requires.within

pub returns : goal.returns
returns c =
    onward_from c.args.pairs.now c.args.taken.now c.in_ok-marks.marks.items c.args.end c.args.number c.least_after.result c.in_ok-marks.ensures
    (subst (λ (ms : List Bool). IsLeastAfter c.args.pairs.now ms c.args.number c.least_after.result) c.as_slice.ensures.value c.least_after.ensures)
