-- What an upgrade answers, and what stands in the sinks after it.
use Rattle.std.specs.Prelude.{◌≡◌, ◌⊎◌, ℕ, List, Some, None, Result, Ok, Err}
use Rattle.io_ports.specs.Files as ports
use Rattle.io_ports.specs.declared.fault.PortFault.{PortFault}
use Rattle.io_ports.specs.declared.fault.PortFault.TheVariants as port
use Rattle.io_ports.specs.declared.report.Report.{Report}
use Rattle.rule_tables.specs.SettingsView.{SettingsView}
use Rattle.upgrade_core.specs.declared.fault.UpgradeFault.{UpgradeFault}
use Rattle.upgrade_core.specs.declared.fault.UpgradeFault.TheVariants as fault
use Rattle.upgrade_core.specs.declared.upgraded.Upgraded.{Upgraded}
use Rattle.upgrade_core.specs.Limits.{limit_of}
use Rattle.upgrade_core.specs.Made.{IsOf}
use Rattle.report_handing.specs.Sinks.{Sinks, HandedAll, HandedSome, IsSameButAt}
use Rattle.upgrade_core.specs.Files.{Trees}
use Rattle.upgrade_core.specs.Names.{IsNamesFault, AreResolved}
use Rattle.upgrade_core.specs.Trees.{AreRead, IsFirstUnread}
use Rattle.upgrade_core.specs.Upgrade.{AreReported}

-- ---- the answer

-- All files have trees within the limits, and their names are not refused.
pub record IsClear (settings : SettingsView) (files : List ports.File) (trees : Trees) : Type 0 where
  pub limits : limit_of files ≡ None
  pub read : AreRead files trees
  pub names : AreResolved settings trees

-- Each refusal comes only where it should: the limits are asked before the trees, and these before the names.
abbrev pub IsRefused : SettingsView → List ports.File → UpgradeFault → Type 0
IsRefused settings files (fault.Limit l) = limit_of files ≡ Some l
IsRefused settings files (fault.Source path) = (limit_of files ≡ None) × IsFirstUnread files path
IsRefused settings files (fault.Names n) =
    (limit_of files ≡ None) × (trees : Trees) × AreRead files trees × IsNamesFault settings trees n
IsRefused settings files (fault.Sink at) = (trees : Trees) × IsClear settings files trees
IsRefused settings files fault.Memory = Unit {0}

abbrev pub IsOutcome : SettingsView → List ports.File → Result Upgraded UpgradeFault → Type 0
IsOutcome settings files (Ok u) = (trees : Trees) × IsClear settings files trees × IsOf settings trees u
IsOutcome settings files (Err fault) = IsRefused settings files fault

-- the same before any sink is called
abbrev pub IsPlan : SettingsView → List ports.File → Result Upgraded UpgradeFault → Type 0
IsPlan settings files (Ok u) = (trees : Trees) × IsClear settings files trees × IsOf settings trees u
IsPlan settings files (Err (fault.Sink at)) = ⊥
IsPlan settings files (Err fault) = IsRefused settings files fault

-- ---- the sinks

-- the reports that are handed out
abbrev pub ArePlanned : SettingsView → List ports.File → List Report → Type 0
ArePlanned settings files rs = (trees : Trees) × IsClear settings files trees × AreReported settings trees rs

-- What the sinks hold afterwards. A refusal leaves them as they were. Where one failed, its count alone rose; it and those
-- behind it hold one report less than those before it, or all hold every report, and those before it are finished. For want
-- of memory they may be left so too, at any place.
abbrev pub AreLeft : SettingsView → List ports.File → Result Upgraded UpgradeFault → Sinks → Sinks → Type 0
AreLeft settings files (Ok u) old new = HandedAll u.reports.items old new
AreLeft settings files (Err (fault.Sink at)) old new =
    (rs : List Report) × ArePlanned settings files rs × HandedSome rs at old new × IsSameButAt at old.faults new.faults
AreLeft settings files (Err fault.Memory) old new =
    (new ≡ old)
    ⊎ ((rs : List Report) × (at : ℕ) × ArePlanned settings files rs × HandedSome rs at old new × (new.faults ≡ old.faults))
AreLeft settings files (Err fault) old new = new ≡ old

-- a refusal before any sink is called leaves them
abbrev pub Keeps : Result Upgraded UpgradeFault → Type 0 → Type 0
Keeps (Err (fault.Limit l)) P = P
Keeps (Err (fault.Source path)) P = P
Keeps (Err (fault.Names n)) P = P
Keeps _ P = Unit {0}

-- why an upgrade is refused where the sink at a place refused
abbrev pub sink_fault : PortFault → ℕ → UpgradeFault
sink_fault port.Failed at = fault.Sink at
sink_fault port.Memory at = fault.Memory
