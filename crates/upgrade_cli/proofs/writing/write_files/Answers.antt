use Rattle.std.proofs.Common.{map, ◌∙◌}
use Rattle.upgrade_core.specs.Files.{file_of}
use Rattle.upgrade_cli.proofs.WritingLemmas.{goes_on, stops, within, file_at}
use Rattle.upgrade_cli.proofs.writing.write_files.Goals as goal

pub returns-in-Err-clause-told : goal.returns-in-Err-clause-told
returns-in-Err-clause-told g c =
    stops (g.D.TargetTree.files c.args.target.now) (g.D.TargetTree.files c.loop-file.target) (g.D.TargetTree.files c.write_one.new.target)
    (map file_of c.args.files.now) c.loop-file.file-index (file_of c.file-item.result) c.in-Err.stop c.loop-file.invariant.0
    c.in-Err.ensures.told (within c.args.files.now c.loop-file.file-index c.loop-file-test.true)
    (file_at c.args.files.now c.loop-file.file-index c.file-item.result c.loop-file-test.true c.file-item.is)

pub loop-file-preserved : goal.loop-file-preserved
loop-file-preserved g c = (
  goes_on (g.D.TargetTree.files c.args.target.now) (g.D.TargetTree.files c.loop-file.target) (g.D.TargetTree.files c.write_one.new.target)
      (map file_of c.args.files.now) c.loop-file.file-index (file_of c.file-item.result) c.loop-file.invariant.0
      c.in_default.ensures.told (within c.args.files.now c.loop-file.file-index c.loop-file-test.true)
      (file_at c.args.files.now c.loop-file.file-index c.file-item.result c.loop-file-test.true c.file-item.is),
  c.in_default.ensures.cause ∙ c.loop-file.invariant.1,
)
