-- From the parts of an upgrade to its answer.
use Rattle.std.proofs.Common.{◌≡◌, ◌<◌, ℕ, Bool, true, false, List, length, map, refl, inl, inr, if◌then◌else◌, nat_lt}
use Rattle.std.specs.Prelude.{Option, Some, None, Result, Ok, Err}
use Rattle.io_ports.specs.Files as ports
use Rattle.io_ports.specs.declared.fault.PortFault.{PortFault}
use Rattle.io_ports.specs.declared.fault.PortFault.TheVariants as port
use Rattle.io_ports.specs.declared.report.Report.{Report}
use Rattle.rule_tables.specs.SettingsView.{SettingsView}
use Rattle.report_handing.specs.Handing.{HaveCause}
use Rattle.report_handing.specs.Sinks.{Sinks, HandedSome}
use Rattle.upgrade_core.specs.declared.fault.LimitKind.TheVariants as kind
use Rattle.upgrade_core.specs.declared.fault.UpgradeFault.{UpgradeFault}
use Rattle.upgrade_core.specs.declared.fault.UpgradeFault.TheVariants as fault
use Rattle.upgrade_core.specs.declared.upgraded.Upgraded.{Upgraded}
use Rattle.upgrade_core.specs.Files.{Trees}
use Rattle.upgrade_core.specs.Limits.{limit, limit_of, bytes_limit}
use Rattle.upgrade_core.specs.Named.{IsPlanOf}
use Rattle.upgrade_core.specs.Rows.{IsReadFault}
use Rattle.upgrade_core.specs.Trees.{AreRead}
use Rattle.upgrade_core.specs.Outcome.{IsPlan, IsOutcome, IsRefused, AreLeft, Keeps, ArePlanned, sink_fault}

-- few files are limited by their bytes alone
pub few : (files : List ports.File) → limit_of files ≡ None → bytes_limit 0 files ≡ None
few files e = by (nat_lt 2000 (length files)) e
  where
    by : (b : Bool) → (if b then limit kind.Files (length files) else bytes_limit 0 files) ≡ None → bytes_limit 0 files ≡ None
    by true h = absurd (let no : ⊥ = cc in no)
    by false h = h

-- a refusal of the reading
pub read_refused : (settings : SettingsView) (files : List ports.File) (x : UpgradeFault) → limit_of files ≡ None
    → IsReadFault files x → IsPlan settings files (Err x)
read_refused settings files (fault.Source path) e h = (e, h)
read_refused settings files (fault.Names n) e h = absurd h
read_refused settings files (fault.Limit l) e h = absurd h
read_refused settings files (fault.Sink at) e h = absurd h
read_refused settings files fault.Memory e h = tt

-- what is made of the trees of files within the limits
pub plan_of : (settings : SettingsView) (files : List ports.File) (trees : Trees) (r : Result Upgraded UpgradeFault)
    → limit_of files ≡ None → AreRead files trees → IsPlanOf settings trees r → IsPlan settings files r
plan_of settings files trees (Ok u) e read h = (trees, record { limits = e; read = read; names = h.0 }, h.1)
plan_of settings files trees (Err (fault.Source path)) e read h = absurd h
plan_of settings files trees (Err (fault.Names n)) e read h = (e, trees, read, h)
plan_of settings files trees (Err (fault.Limit l)) e read h = absurd h
plan_of settings files trees (Err (fault.Sink at)) e read h = absurd h
plan_of settings files trees (Err fault.Memory) e read h = tt

-- what comes before any sink is called
pub planned : (settings : SettingsView) (files : List ports.File) (r : Result Upgraded UpgradeFault) → IsPlan settings files r
    → IsOutcome settings files r
planned settings files (Ok u) h = h
planned settings files (Err (fault.Source path)) h = h
planned settings files (Err (fault.Names n)) h = h
planned settings files (Err (fault.Limit l)) h = h
planned settings files (Err (fault.Sink at)) h = absurd h
planned settings files (Err fault.Memory) h = h

-- leaves the sinks
pub untouched : (settings : SettingsView) (files : List ports.File) (x : UpgradeFault) (sinks : Sinks) → IsPlan settings files (Err x)
    → AreLeft settings files (Err x) sinks sinks
untouched settings files (fault.Source path) sinks h = refl
untouched settings files (fault.Names n) sinks h = refl
untouched settings files (fault.Limit l) sinks h = refl
untouched settings files (fault.Sink at) sinks h = absurd h
untouched settings files fault.Memory sinks h = inl refl

-- where a sink refused
pub sink_refused : (settings : SettingsView) (files : List ports.File) (u : Upgraded) (f : PortFault) (at : ℕ)
    → IsPlan settings files (Ok u) → IsOutcome settings files (Err (sink_fault f at))
sink_refused settings files u port.Failed at h = (h.0, h.1)
sink_refused settings files u port.Memory at h = tt

pub sinks_left : (settings : SettingsView) (files : List ports.File) (u : Upgraded) (f : PortFault) (at : ℕ) (old new : Sinks)
    → IsPlan settings files (Ok u) → HandedSome u.reports.items at old new → HaveCause f at old.faults new.faults
    → AreLeft settings files (Err (sink_fault f at)) old new
sinks_left settings files u port.Failed at old new h some cause =
    (u.reports.items, (h.0, h.1, h.2.reports), some, cause)
sinks_left settings files u port.Memory at old new h some cause =
    inr (u.reports.items, at, (h.0, h.1, h.2.reports), some, cause)
