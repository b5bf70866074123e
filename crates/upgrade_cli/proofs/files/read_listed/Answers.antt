use Rattle.std.proofs.Common.{List, map, subst, sym, ◌∙◌}
use Rattle.std.specs.Prelude.{Option, IfSome, IsSome, Ok, Err}
use Rattle.io_ports.specs.Files as ports
use Rattle.io_ports.specs.Files.{content}
use Rattle.upgrade_core.specs.Files.{file_of}
use Rattle.upgrade_cli.specs.Ready as spec
use Rattle.upgrade_cli.proofs.ReadyLemmas.{is_there, goes_on, stops_at}
use Rattle.upgrade_cli.proofs.files.read_listed.Goals as goal

pub read_next-requires-clause-there : goal.read_next-requires-clause-there
read_next-requires-clause-there g c =
    subst (λ (o : Option (List ports.File)). IfSome o (λ fs. IsSome (content c.path-item.result fs))) (sym c.loop-path.invariant.2)
    (is_there (g.T.SourceTree.files c.args.source.now) c.args.paths.now c.loop-path.path-index c.path-item.result c.requires
    c.loop-path-test.true c.path-item.is)

pub returns-in-Err-clause-told : goal.returns-in-Err-clause-told
returns-in-Err-clause-told g c =
    stops_at (g.T.SourceTree.files c.args.source.now) c.args.paths.now c.loop-path.path-index c.path-item.result c.loop-path.sum
    (map file_of c.loop-path.files.items) (map file_of c.read_next.new.files.items) c.in-Err.stop c.requires c.loop-path-test.true
    c.path-item.is c.loop-path.invariant.0
    (subst (λ (o : Option (List ports.File)). IfSome o (λ fs. spec.IsNext c.path-item.result (content c.path-item.result fs) c.loop-path.sum
    (map file_of c.loop-path.files.items) (Err c.in-Err.stop) (map file_of c.read_next.new.files.items)))
    c.loop-path.invariant.2 c.in-Err.ensures.told)

pub loop-path-preserved : goal.loop-path-preserved
loop-path-preserved g c = (
  goes_on (g.T.SourceTree.files c.args.source.now) c.args.paths.now c.loop-path.path-index c.path-item.result c.loop-path.sum c.in-Ok.more
      (map file_of c.loop-path.files.items) (map file_of c.read_next.new.files.items) c.requires c.loop-path-test.true
      c.path-item.is c.loop-path.invariant.0
      (subst (λ (o : Option (List ports.File)). IfSome o (λ fs. spec.IsNext c.path-item.result (content c.path-item.result fs) c.loop-path.sum
      (map file_of c.loop-path.files.items) (Ok c.in-Ok.more) (map file_of c.read_next.new.files.items)))
      c.loop-path.invariant.2 c.in-Ok.ensures.told),
  c.in-Ok.ensures.few,
  c.in-Ok.ensures.same ∙ c.loop-path.invariant.2,
  c.in-Ok.ensures.settled ∙ c.loop-path.invariant.3,
  c.in-Ok.ensures.cause ∙ c.loop-path.invariant.4,
)
