-- The parts of an upgrade behind the reading.
use Rattle.std.specs.Prelude.{◌≡◌, ◌<◌, ◌^◌, IsTrue, length, Result, Ok, Err}
use Rattle.program_names.specs.Files.{Files, are_ascending, nodes_in, tokens_in}
use Rattle.resolved_names.specs.declared.names_fault.NamesFault.{NamesFault}
use Rattle.resolved_names.specs.declared.names_fault.NamesFault.TheVariants as names
use Rattle.rule_tables.specs.SettingsView.{SettingsView}
use Rattle.upgrade_core.specs.declared.fault.UpgradeFault.{UpgradeFault}
use Rattle.upgrade_core.specs.declared.fault.UpgradeFault.TheVariants as fault
use Rattle.upgrade_core.specs.declared.upgraded.Upgraded.{Upgraded}
use Rattle.upgrade_core.specs.Files.{Trees}
use Rattle.upgrade_core.specs.Made.{IsOf}
use Rattle.upgrade_core.specs.Names.{IsNamesFault, AreResolved}

-- files as `Program::new` wants them
pub record AreProgram (files : Files) : Type 0 where
  pub ascending : IsTrue (are_ascending files)
  pub few_files : length files < 2 ^ 32
  pub few_nodes : nodes_in files < 2 ^ 31
  pub few_tokens : tokens_in files < 2 ^ 30

-- why an upgrade is refused where the names are
abbrev pub refused : NamesFault → UpgradeFault
refused names.Memory = fault.Memory
refused (names.NoFile path) = fault.Names (names.NoFile path)
refused (names.Twice name first second) = fault.Names (names.Twice name first second)
refused (names.Cycle classes) = fault.Names (names.Cycle classes)

-- what the resolution of names may answer
abbrev pub IsResolving : SettingsView → Trees → Result (Unit {0}) UpgradeFault → Type 0
IsResolving settings trees (Ok x) = AreResolved settings trees
IsResolving settings trees (Err (fault.Names n)) = IsNamesFault settings trees n
IsResolving settings trees (Err fault.Memory) = Unit {0}
IsResolving settings trees (Err _) = ⊥

-- and what is made of the trees
abbrev pub IsPlanOf : SettingsView → Trees → Result Upgraded UpgradeFault → Type 0
IsPlanOf settings trees (Ok u) = AreResolved settings trees × IsOf settings trees u
IsPlanOf settings trees (Err (fault.Names n)) = IsNamesFault settings trees n
IsPlanOf settings trees (Err fault.Memory) = Unit {0}
IsPlanOf settings trees (Err _) = ⊥
