-- What a run comes to, by its settings file and its sources, and what stands in the sinks and the target after it.
use Rattle.std.specs.Prelude.{◌≡◌, ◌⊎◌, ℕ, Bool, true, false, List, length, Option, Some, None, Result, Ok, Err}
use Rattle.command_words.specs.Words.{Asked, ToUpgrade, ToCheck}
use Rattle.io_ports.specs.Files as ports
use Rattle.io_ports.specs.declared.report.Report.{Report}
use Rattle.rule_tables.specs.SettingsView.{SettingsView}
use Rattle.upgrade_core.specs.declared.fault.LimitFault.{LimitFault}
use Rattle.resolved_names.specs.declared.names_fault.NamesFault.{NamesFault}
use Rattle.upgrade_core.specs.Names.{IsNamesFault}
use Rattle.upgrade_core.specs.Outcome.{IsClear}
use Rattle.report_handing.specs.Sinks.{Sinks, HandedAll, HandedSome, IsSameButAt}
use Rattle.upgrade_core.specs.Files.{Trees}
use Rattle.upgrade_core.specs.Trees.{AreRead, IsFirstUnread}
use Rattle.upgrade_core.specs.Upgrade.{AreReported, written, edits_in_all, reports_in_all, stops_in_all}
use Rattle.upgrade_cli.specs.declared.stop.Stop.{Stop}
use Rattle.upgrade_cli.specs.declared.stop.Stop.TheVariants as stop
use Rattle.upgrade_cli.specs.declared.stop.Summary.{Summary}
use Rattle.upgrade_cli.specs.Ready.{first_limit, said}
use Rattle.upgrade_cli.specs.Stops.{IsToldOf}
use Rattle.upgrade_cli.specs.Writing.{put_all, IsCutOff, IsPrefix}

-- ---- what was asked for

-- the name of the settings file
abbrev pub name_of : Asked → List ℕ
name_of (ToUpgrade name) = name
name_of (ToCheck name) = name

-- whether the target is written
abbrev pub writes : Asked → Bool
writes (ToUpgrade name) = true
writes (ToCheck name) = false

-- ---- what a run comes to

-- what is counted
abbrev pub counts : SettingsView → Trees → Summary
counts settings trees = record {
  files = length trees;
  edits = edits_in_all settings trees;
  reports = reports_in_all settings trees;
  stops = stops_in_all settings trees;
}

-- by settings: the trees come before the names
abbrev pub ComesBy : SettingsView → List ports.File → Result Summary Stop → Type 0
ComesBy settings files (Ok s) = (trees : Trees) × IsClear settings files trees × (s ≡ counts settings trees)
ComesBy settings files (Err (stop.Source path)) = IsFirstUnread files path
ComesBy settings files (Err (stop.Names told)) =
    (trees : Trees) × AreRead files trees × ((fault : NamesFault) × IsNamesFault settings trees fault × IsToldOf trees fault told)
ComesBy settings files (Err _) = ⊥

-- by the first size that passes its limit, and what the settings file says
abbrev pub ComesWith : Option LimitFault → Result SettingsView Stop → List ports.File → Result Summary Stop → Type 0
ComesWith (Some l) says files came = came ≡ Err (stop.Limit l)
ComesWith None (Err stop) files came = came ≡ Err stop
ComesWith None (Ok settings) files came = ComesBy settings files came

-- What a run comes to: the sizes come first, then the settings, the trees, and the names.
abbrev pub Comes : Option (List ℕ) → List ports.File → Result Summary Stop → Type 0
Comes content files came = ComesWith (first_limit content files) (said content) files came

-- nothing is refused: the settings, and the trees of the files
pub record Through (content : Option (List ℕ)) (files : List ports.File) : Type 0 where
  pub settings : SettingsView
  pub trees : Trees
  pub limits : first_limit content files ≡ None
  pub are_said : said content ≡ Ok settings
  pub clear : IsClear settings files trees

-- The same with faults and want of memory. A sink and the target fail only where nothing is refused.
abbrev pub IsOutcome : Option (List ℕ) → List ports.File → Result Summary Stop → Type 0
IsOutcome content files (Err stop.SourceFault) = Unit {0}
IsOutcome content files (Err stop.SinkFault) = Through content files
IsOutcome content files (Err stop.TargetFault) = Through content files
IsOutcome content files (Err stop.Memory) = Unit {0}
IsOutcome content files came = Comes content files came

-- ---- what stands afterwards

-- the reports that are handed out
pub record Planned (content : Option (List ℕ)) (files : List ports.File) : Type 0 where
  pub through : Through content files
  pub reports : List Report
  pub are : AreReported through.settings through.trees reports

-- all sinks took all reports, and are finished
pub record AreHanded (content : Option (List ℕ)) (files : List ports.File) (old new : Sinks) : Type 0 where
  pub planned : Planned content files
  pub handed : HandedAll planned.reports old new

-- the sink at a place refused
pub record AreStopped (content : Option (List ℕ)) (files : List ports.File) (old new : Sinks) : Type 0 where
  pub planned : Planned content files
  pub at : ℕ
  pub handed : HandedSome planned.reports at old new

-- its count alone rose
pub record HaveFailed (content : Option (List ℕ)) (files : List ports.File) (old new : Sinks) : Type 0 where
  pub stopped : AreStopped content files old new
  pub rose : IsSameButAt stopped.at old.faults new.faults

-- no count rose
pub record HaveStopped (content : Option (List ℕ)) (files : List ports.File) (old new : Sinks) : Type 0 where
  pub stopped : AreStopped content files old new
  pub same : new.faults ≡ old.faults

-- The sinks: a refusal leaves them as they were.
abbrev pub SinksLeft : Option (List ℕ) → List ports.File → Result Summary Stop → Sinks → Sinks → Type 0
SinksLeft content files (Ok s) old new = AreHanded content files old new
SinksLeft content files (Err stop.TargetFault) old new = AreHanded content files old new
SinksLeft content files (Err stop.SinkFault) old new = HaveFailed content files old new
SinksLeft content files (Err stop.Memory) old new =
    (new ≡ old) ⊎ (HaveStopped content files old new ⊎ AreHanded content files old new)
SinksLeft content files (Err _) old new = new ≡ old

-- what is written of the files
abbrev pub planned_files : {content : Option (List ℕ)} {files : List ports.File} → Through content files → List ports.File
planned_files t = written t.settings t.trees

-- the target's files, where all was done
abbrev pub with_written : Bool → List ports.File → List ports.File → List ports.File
with_written true new before = put_all new before
with_written false new before = before

-- The target: a refusal leaves it as it was, and `check` too.
abbrev pub TargetLeft : Bool → Option (List ℕ) → List ports.File → Result Summary Stop
    → List ports.File → Option (List ports.File) → Type 0
TargetLeft writes content files (Ok s) old new =
    (t : Through content files) × (s ≡ counts t.settings t.trees) × (new ≡ Some (with_written writes (planned_files t) old))
TargetLeft writes content files (Err stop.TargetFault) old new =
    (writes ≡ true) × (t : Through content files) × IsCutOff (planned_files t) old new
TargetLeft writes content files (Err stop.Memory) old new =
    (new ≡ Some old) ⊎ ((writes ≡ true) × (t : Through content files) × IsPrefix (planned_files t) old new)
TargetLeft writes content files (Err _) old new = new ≡ Some old
