-- What the parts of a run do.
use Rattle.std.specs.Prelude.{◌≡◌, ◌⊎◌, ℕ, Bool, true, false, List, length, map, Option, Some, None, IfSome, Result, Ok, Err}
use Rattle.command_words.specs.Words.{Asked}
use Rattle.io_ports.specs.Causes.{Rose}
use Rattle.io_ports.specs.Files as ports
use Rattle.io_ports.specs.Files.{content}
use Rattle.rule_tables.specs.SettingsView.{SettingsView}
use Rattle.upgrade_core.specs.declared.upgraded.Upgraded.{Upgraded}
use Rattle.upgrade_core.specs.declared.fault.UpgradeFault.{UpgradeFault}
use Rattle.upgrade_core.specs.Files.{file_of}
use Rattle.upgrade_core.specs.Outcome as core
use Rattle.report_handing.specs.Sinks.{Sinks}
use Rattle.upgrade_cli.specs.declared.stop.Stop.{Stop}
use Rattle.upgrade_cli.specs.declared.stop.Stop.TheVariants as stop
use Rattle.upgrade_cli.specs.declared.stop.Summary.{Summary}
use Rattle.upgrade_cli.specs.Outcome.{name_of, writes, IsOutcome, SinksLeft, TargetLeft}
use Rattle.upgrade_cli.specs.Stops.{IsUpgradeStop}
use Rattle.upgrade_cli.specs.Writing.{ArePut}
pub use Rattle.upgrade_cli.specs.Run.{TargetCause}

-- what is counted of an upgrade
abbrev pub summary_of : Upgraded → Summary
summary_of u = record {
  files = length u.files.items;
  edits = u.edits;
  reports = length u.reports.items;
  stops = u.stops;
}

-- an upgrade, with its refusals as stops
abbrev pub IsUpgrading : SettingsView → List ports.File → Result Upgraded Stop → Sinks → Sinks → Type 0
IsUpgrading settings files (Ok u) old new =
    core.IsOutcome settings files (Ok u) × core.AreLeft settings files (Ok u) old new
IsUpgrading settings files (Err stop) old new =
    (fault : UpgradeFault) × IsUpgradeStop files fault stop
    × core.IsOutcome settings files (Err fault) × core.AreLeft settings files (Err fault) old new

-- a stop of the upgrade
abbrev pub IsOfUpgrade : Result Upgraded Stop → Type 0
IsOfUpgrade (Ok u) = Unit {0}
IsOfUpgrade (Err stop.Usage) = ⊥
IsOfUpgrade (Err (stop.Limit l)) = Unit {0}
IsOfUpgrade (Err stop.NoSettings) = ⊥
IsOfUpgrade (Err (stop.Settings fault)) = ⊥
IsOfUpgrade (Err (stop.Source path)) = Unit {0}
IsOfUpgrade (Err (stop.Names names)) = Unit {0}
IsOfUpgrade (Err stop.SourceFault) = ⊥
IsOfUpgrade (Err stop.SinkFault) = Unit {0}
IsOfUpgrade (Err stop.TargetFault) = ⊥
IsOfUpgrade (Err stop.Memory) = Unit {0}

-- the writing, if it is asked for
abbrev pub IsWriting : Bool → List ports.File → Result (Unit {0}) Stop → List ports.File → Option (List ports.File) → Type 0
IsWriting true files result old new = ArePut files result old new
IsWriting false files result old new = (result ≡ Ok tt) × (new ≡ Some old)

abbrev pub IsOfWriting : Bool → Result (Unit {0}) Stop → Type 0
IsOfWriting asked (Ok x) = Unit {0}
IsOfWriting asked (Err stop.TargetFault) = asked ≡ true
IsOfWriting asked (Err stop.Memory) = asked ≡ true
IsOfWriting asked (Err _) = ⊥

-- All that a command does but its line: what it comes to, and what stands afterwards.
pub record IsDoing
    (asked : Asked) (stored files : List ports.File) (came : Result Summary Stop) (old new : Sinks)
    (before after : Option (List ports.File)) : Type 0 where
  pub outcome : IsOutcome (content (name_of asked) stored) files came
  pub sinks : SinksLeft (content (name_of asked) stored) files came old new
  pub target : IfSome before (λ b. TargetLeft (writes asked) (content (name_of asked) stored) files came b after)

-- the words were not refused
abbrev pub IsNotUsage : Result Summary Stop → Type 0
IsNotUsage (Err stop.Usage) = ⊥
IsNotUsage _ = Unit {0}

-- the words are refused exactly where they ask for nothing
abbrev pub IsUsage : Option Asked → Result Summary Stop → Type 0
IsUsage None came = (came ≡ Err stop.Usage) ⊎ (came ≡ Err stop.Memory)
IsUsage (Some asked) came = came ≡ Err stop.Usage → ⊥
