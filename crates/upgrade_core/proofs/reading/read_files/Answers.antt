use Rattle.std.proofs.Common.{◌≤◌, length, subst, sym}
use Rattle.upgrade_core.specs.declared.file.SourceFile.{SourceFile}
use Rattle.upgrade_core.proofs.RowLemmas.{rows_more, small_at, unread_at}
use Rattle.upgrade_core.proofs.reading.read_files.Goals as goal

pub read_file-requires : goal.read_file-requires
read_file-requires c =
    subst (λ (f : SourceFile). length f.bytes ≤ 1048576) (sym c.file-item.is)
    (small_at c.args.files.now 0 c.loop-file.file-index c.file-item.result c.requires c.loop-file-test.true)

pub returns-in-Err-clause-err : goal.returns-in-Err-clause-err
returns-in-Err-clause-err c =
    unread_at c.args.files.now c.loop-file.file-index c.file-item.result c.file-item.result c.loop-file.rows.items c.in-Err.fault
    c.loop-file-test.true c.file-item.is c.loop-file.invariant c.in-Err.ensures

pub loop-file-preserved : goal.loop-file-preserved
loop-file-preserved c =
    rows_more c.args.files.now c.loop-file.file-index c.file-item.result c.file-item.result c.loop-file.rows.items c.keep.new.rows.items
    c.in-Ok.row c.loop-file-test.true c.file-item.is c.loop-file.invariant c.in_ok-keep-in-Ok.ensures c.in-Ok.ensures
