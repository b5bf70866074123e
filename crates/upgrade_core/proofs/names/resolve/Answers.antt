use Rattle.std.proofs.Common.{subst, sym}
use Rattle.std.specs.Option.{option_copied}
use Rattle.std.specs.Prelude.{Err}
use Rattle.program_names.specs.Entries.{paths_of}
use Rattle.program_names.specs.Table.{table_of}
use Rattle.program_names.specs.Whole.{files_of}
use Rattle.upgrade_core.specs.declared.fault.UpgradeFault.{UpgradeFault}
use Rattle.upgrade_core.specs.Named.{IsResolving}
use Rattle.upgrade_core.specs.Rows.{trees_of}
use Rattle.upgrade_core.proofs.EntryLemmas.{clear}
use Rattle.upgrade_core.proofs.NameLemmas.{paths_are, facts_are, clear_are, refused_is}
use Rattle.upgrade_core.proofs.names.resolve.Goals as goal

pub returns-in-Ok : goal.returns-in-Ok
returns-in-Ok c =
    let fs = files_of c.args.program.now in
    clear_are c.args.settings.now (trees_of fs) (paths_of fs) (table_of fs) (option_copied c.entries.result) (option_copied c.prepend.result)
    (paths_are fs) (facts_are fs) c.entries.ensures c.prepend.ensures
    (clear fs c.args.program.now.ascending (table_of fs) (option_copied c.entries.result) (option_copied c.prepend.result)
    c.in-Ok.ensures.unrefused)

pub returns-in-Err : goal.returns-in-Err
returns-in-Err c =
    let fs = files_of c.args.program.now in
    subst (λ (x : UpgradeFault). IsResolving c.args.settings.now (trees_of fs) (Err x)) (sym c.refused.ensures)
    (refused_is c.args.settings.now (trees_of fs) (paths_of fs) (table_of fs) (option_copied c.entries.result) (option_copied c.prepend.result)
    (paths_are fs) (facts_are fs) c.entries.ensures c.prepend.ensures c.in-Err.fault c.in-Err.ensures.refused)
