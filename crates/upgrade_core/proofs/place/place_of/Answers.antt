use Rattle.std.proofs.Common.{◌≡◌, length, ap, sym, refl, ◌∙◌, rules, slice_get}
use Rattle.std.specs.Prelude.{Some, None}
use Rattle.std.proofs.lemmas.Option.{slice_get_read, slice_get_past}
use Rattle.upgrade_core.specs.Names.{place}
use Rattle.upgrade_core.proofs.PlaceLemmas.{no_place, placed, small_of}
use Rattle.upgrade_core.proofs.place.place_of.Goals as goal

pub start_in-requires : goal.start_in-requires
start_in-requires c =
    let h = c.in-Some.ensures.lookup in
    let there : slice_get c.args.files.now c.args.at.file ≡ Some c.in-Some.file.now =
    slice_get_read c.args.files.now (length c.args.files.now) c.args.at.file c.in-Some.file.now refl h.3.0 h.1 in
    small_of c.args.files.now c.in-Some.file.now c.args.at.file 0 there c.requires

pub returns-in_ok-path-in-Some : goal.returns-in_ok-path-in-Some
returns-in_ok-path-in-Some c =
    let h = c.in-Some.ensures.lookup in
    let there : slice_get c.args.files.now c.args.at.file ≡ Some c.in-Some.file.now =
    slice_get_read c.args.files.now (length c.args.files.now) c.args.at.file c.in-Some.file.now refl h.3.0 h.1 in
    λ trees read. ap (λ p. place p c.in_ok-start-in-Some.start) c.in_ok-path-in-Some.ensures
    ∙ placed c.args.files.now c.in-Some.file.now c.args.at c.in_ok-start-in-Some.start there c.in_ok-start-in-Some.ensures trees read

pub returns-in-None : goal.returns-in-None
returns-in-None c =
    let none : slice_get c.args.files.now c.args.at.file ≡ None =
    slice_get_past c.args.files.now c.args.at.file c.in-None.ensures.lookup.3 in
    λ trees read. ap (λ p. place p 0) (c.new-path.ensures ∙ c.new.ensures.bytes) ∙ no_place c.args.files.now trees c.args.at none read
