use Rattle.std.proofs.Common.{◌<◌, length, get_or, ap, subst, ◌∙◌}
use Rattle.program_names.specs.Files.{Files}
use Rattle.program_names.proofs.ToldLemmas.{told_more}
use Rattle.program_names.proofs.telling.program_told.Goals as goal

pub loop-number-preserved : goal.loop-number-preserved
loop-number-preserved c =
    let fs = c.args.program.now.files.items in
    let i = c.loop-number.number in
    let x = c.file-item.result in
    told_more fs i x _ c.loop-number.told.items c.add_file.new.told.items
    (subst (λ (gs : Files). i < length gs) c.files-file-items.ensures c.loop-number-test.true)
    (c.file-item.is ∙ ap (λ (gs : Files). get_or gs i x) c.files-file-items.ensures)
    c.loop-number.invariant c.in_ok-add_file.ensures
