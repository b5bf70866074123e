use Rattle.std.proofs.Common.{map, sym, ◌∙◌}
use Rattle.upgrade_core.specs.Files.{file_of}
use Rattle.upgrade_core.specs.Rows.{trees_of}
use Rattle.upgrade_core.proofs.PlanLemmas.{plan_of}
use Rattle.upgrade_core.proofs.RowLemmas.{all_read, trees_read}
use Rattle.upgrade_core.proofs.whole.upgrade_files.Goals as goal

pub upgrade_named-requires : goal.upgrade_named-requires
upgrade_named-requires c = all_read (map file_of c.args.files.now) c.in-Ok.rows.items c.in-Ok.ensures.ok

pub returns-in-Ok : goal.returns-in-Ok
returns-in-Ok c =
    plan_of c.args.settings.now (map file_of c.args.files.now) (trees_of c.in-Ok.rows.items) c.upgrade_named.result
    (sym c.limit_of.ensures ∙ c.in_default.is) (trees_read (map file_of c.args.files.now) c.in-Ok.rows.items c.in-Ok.ensures.ok) c.upgrade_named.ensures
