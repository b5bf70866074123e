use Rattle.std.proofs.Common.{◌<◌, ◌≤◌, ◌+◌, ◌-◌, ◌/◌, [], get_or, length, sym, ◌∙◌, arith}
use Rattle.class_cycles.proofs.PlaceLemmas.{narrowed_less, narrowed_greater, narrowed_all, place_some, same_from_equal}
use Rattle.class_cycles.proofs.place.place.Goals as goal

pub loop-low-preserved-in-Less : goal.loop-low-preserved-in-Less
loop-low-preserved-in-Less c =
    let m = c.loop-low.low + (c.loop-low.high - c.loop-low.low) / 2 in
    let h : m < c.loop-low.high = omega arith in
    narrowed_less c.args.names.now c.args.name.now c.loop-low.low c.loop-low.high m c.requires c.loop-low.invariant h (sym c.compare_at.ensures ∙ c.in-Less.is)

pub returns-in-Equal-clause-value : goal.returns-in-Equal-clause-value
returns-in-Equal-clause-value c =
    let m = c.loop-low.low + (c.loop-low.high - c.loop-low.low) / 2 in
    let h : m < length c.args.names.now = omega (arith, c.loop-low.invariant.within, c.loop-low-test.true) in
    sym (place_some c.args.name.now c.args.names.now m c.requires h (same_from_equal (get_or c.args.names.now m []) c.args.name.now (sym c.compare_at.ensures ∙ c.in-Equal.is)))

pub loop-low-preserved : goal.loop-low-preserved
loop-low-preserved c =
    let m = c.loop-low.low + (c.loop-low.high - c.loop-low.low) / 2 in
    let g : c.loop-low.low ≤ m = omega arith in
    let h : m < c.loop-low.high = omega arith in
    narrowed_greater c.args.names.now c.args.name.now c.loop-low.low c.loop-low.high m c.requires c.loop-low.invariant g h (sym c.compare_at.ensures ∙ c.in-Greater.is)

pub returns-clause-value : goal.returns-clause-value
returns-clause-value c =
    sym (narrowed_all c.args.names.now c.args.name.now c.loop-low.low c.loop-low.high c.loop-low.invariant c.loop-low-test.false)
