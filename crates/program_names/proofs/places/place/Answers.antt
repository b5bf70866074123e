use Rattle.std.proofs.Common.{◌≡◌, ◌+◌, ◌-◌, ◌/◌, Some, Less, Equal, Greater, refl, arith, slice_get}
use Rattle.std.specs.Ordering.{nat_cmp}
use Rattle.std.specs.Cmp.Lexicographic.{slice_cmp}
use Rattle.std.proofs.lemmas.Option.{slice_get_read}
use Rattle.program_names.proofs.PathLemmas.{none_below, none_above, found}
use Rattle.program_names.proofs.places.place.Goals as goal

pub loop-low-preserved-in-Less : goal.loop-low-preserved-in-Less
loop-low-preserved-in-Less c =
    let fs = c.args.files.now in
    let p = c.args.path.now in
    let m = c.loop-low.low + (c.loop-low.high - c.loop-low.low) / 2 in
    let x = c.index-files-middle.result in
    let h : slice_get fs m ≡ Some x = slice_get_read fs _ m x refl (omega arith) c.index-files-middle.is in
    let e : slice_cmp nat_cmp x.0 p ≡ Less = cc in
    record {
      order = omega arith;
      within = c.loop-low.invariant.within;
      below = none_below fs p m x c.requires.ascending h e;
      above = c.loop-low.invariant.above;
    }

pub loop-low-preserved : goal.loop-low-preserved
loop-low-preserved c =
    let fs = c.args.files.now in
    let p = c.args.path.now in
    let m = c.loop-low.low + (c.loop-low.high - c.loop-low.low) / 2 in
    let x = c.index-files-middle.result in
    let h : slice_get fs m ≡ Some x = slice_get_read fs _ m x refl (omega arith) c.index-files-middle.is in
    let e : slice_cmp nat_cmp x.0 p ≡ Greater = cc in
    record {
      order = omega arith;
      within = omega arith;
      below = c.loop-low.invariant.below;
      above = none_above fs p m x c.requires.ascending h e;
    }

pub returns-in-Equal : goal.returns-in-Equal
returns-in-Equal c =
    let fs = c.args.files.now in
    let p = c.args.path.now in
    let m = c.loop-low.low + (c.loop-low.high - c.loop-low.low) / 2 in
    let x = c.index-files-middle.result in
    let h : slice_get fs m ≡ Some x = slice_get_read fs _ m x refl (omega arith) c.index-files-middle.is in
    let e : slice_cmp nat_cmp x.0 p ≡ Equal = cc in
    found fs p m x c.requires.ascending h e
