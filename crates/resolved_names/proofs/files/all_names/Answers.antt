use Rattle.std.proofs.Common.{◌≡◌, ◌≤◌, ◌<◌, ℕ, ◌+◌, List, [], ◌∷◌, ◌++◌, length, get_or, slice_get, Some, refl, sym, ap, subst, ◌∙◌, add-one}
use Rattle.std.proofs.lemmas.Option.{slice_get_read}
use Rattle.program_names.specs.Files.{Files}
use Rattle.program_names.specs.Whole.{files_of}
use Rattle.slot_numbers.specs.Numbered.{keys_of}
use Rattle.resolved_names.specs.declared.file_names.FileNames.{FileNames}
use Rattle.resolved_names.specs.Index.{declared_in}
use Rattle.resolved_names.proofs.FilesLemmas.{AreUpTo, all_names_are, all_slots_are, none_up_to, one_more}
use Rattle.resolved_names.proofs.files.all_names.Goals as goal

pub loop-number-preserved : goal.loop-number-preserved
loop-number-preserved c =
    let es = c.args.index.now.entries in
    let ds = declared_in c.args.told.now in
    let others = c.args.others.now in
    let fs = files_of c.args.program.now in
    let ks = keys_of c.loop-number.numbers in
    let js = keys_of c.tree_names.new.numbers in
    let i = c.loop-number.number in
    let rows = c.loop-number.files.items in
    let x = c.file-item.result in
    let v = c.in_ok-names.names in
    let h = c.in_ok-names.ensures in
    let at : slice_get fs i ≡ Some x =
    slice_get_read fs (length fs) i x refl
    (subst (λ (gs : Files). i < length gs) c.files-file-items.ensures c.loop-number-test.true)
    (c.file-item.is ∙ ap (λ (gs : Files). get_or gs i x) c.files-file-items.ensures) in
    subst (λ (vs : List FileNames). AreUpTo es ds others fs js (i + 1) vs) (sym c.in_ok-push.ensures.items)
    (subst (λ (n : ℕ). AreUpTo es ds others fs js n (rows ++ v ∷ [])) (sym (add-one i))
    (one_more es ds others fs ks js i rows v x at c.loop-number.invariant h.names h.slots h.keeps h.only))

pub returns-clause-names : goal.returns-clause-names
returns-clause-names c =
    let fs = files_of c.args.program.now in
    let i = c.loop-number.number in
    let past : length fs ≤ i = subst (λ (gs : Files). length gs ≤ i) c.files-file-items.ensures c.loop-number-test.false in
    all_names_are c.args.index.now.entries (declared_in c.args.told.now) c.args.others.now fs (keys_of c.loop-number.numbers) i
    c.loop-number.files.items past c.loop-number.invariant

pub returns-clause-slots : goal.returns-clause-slots
returns-clause-slots c =
    let fs = files_of c.args.program.now in
    let i = c.loop-number.number in
    let past : length fs ≤ i = subst (λ (gs : Files). length gs ≤ i) c.files-file-items.ensures c.loop-number-test.false in
    all_slots_are c.args.index.now.entries (declared_in c.args.told.now) c.args.others.now fs (keys_of c.loop-number.numbers) i
    c.loop-number.files.items c.in_ok-slots.slots past c.loop-number.invariant c.in_ok-slots.ensures.apart c.in_ok-slots.ensures.count
