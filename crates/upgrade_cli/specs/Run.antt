-- What a run answers, and what stands after it.
use Rattle.std.specs.Prelude.{◌≡◌, ◌⊎◌, ◌==◌, ◌++◌, ℕ, Bool, true, false, List, Option, Some, IfSome, Result, Ok, Err}
use Rattle.command_words.specs.Words.{Asked}
use Rattle.io_ports.specs.Causes.{Rose}
use Rattle.io_ports.specs.Files as ports
use Rattle.io_ports.specs.Files.{content}
use Rattle.report_handing.specs.Sinks.{Sinks, IsSameButAt}
use Rattle.upgrade_cli.specs.declared.stop.Status.{Status}
use Rattle.upgrade_cli.specs.declared.stop.Status.TheVariants as status
use Rattle.upgrade_cli.specs.declared.stop.Stop.{Stop}
use Rattle.upgrade_cli.specs.declared.stop.Stop.TheVariants as stop
use Rattle.upgrade_cli.specs.declared.stop.Summary.{Summary}
use Rattle.upgrade_cli.specs.Lines.{line, stop_line}
use Rattle.upgrade_cli.specs.Outcome.{name_of, writes, Comes, IsOutcome, SinksLeft, TargetLeft}

-- ---- statuses

abbrev pub of_stop : Stop → Status
of_stop stop.Usage = status.Usage
of_stop (stop.Limit l) = status.Limit
of_stop stop.NoSettings = status.Settings
of_stop (stop.Settings fault) = status.Settings
of_stop (stop.Source path) = status.Source
of_stop (stop.Names fault) = status.Names
of_stop stop.SourceFault = status.Fault
of_stop stop.SinkFault = status.Fault
of_stop stop.TargetFault = status.Fault
of_stop stop.Memory = status.Memory

-- where all was done: whether no report stops the claim
abbrev pub of_done : Bool → Status
of_done true = status.Done
of_done false = status.Reported

-- the status of what a run came to
abbrev pub status_of : Result Summary Stop → Status
status_of (Ok s) = of_done (s.stops == 0)
status_of (Err e) = of_stop e

-- the exit status
abbrev pub number_of : Status → ℕ
number_of status.Done = 0
number_of status.Reported = 2
number_of status.Usage = 64
number_of status.Source = 65
number_of status.Settings = 66
number_of status.Names = 67
number_of status.Limit = 68
number_of status.Fault = 74
number_of status.Memory = 71

-- a status is the one that is wanted, or tells of a fault or of want of memory
abbrev pub Answers : Status → Status → Type 0
Answers status.Fault wanted = Unit {0}
Answers status.Memory wanted = Unit {0}
Answers result wanted = result ≡ wanted

-- all was done
abbrev pub AllDone : Status → Type 0
AllDone status.Done = Unit {0}
AllDone status.Reported = Unit {0}
AllDone _ = ⊥

-- unless the status tells of a fault or of want of memory
abbrev pub Unless : Status → Type 0 → Type 0
Unless status.Fault P = Unit {0}
Unless status.Memory P = Unit {0}
Unless _ P = P

-- where the words, the sources or the settings are refused
abbrev pub KeepsAt : Status → Type 0 → Type 0
KeepsAt status.Usage P = P
KeepsAt status.Source P = P
KeepsAt status.Settings P = P
KeepsAt status.Names P = P
KeepsAt status.Limit P = P
KeepsAt _ P = Unit {0}

-- ---- faults

-- the counts of the source, of the sinks and of the target
pub record Counts : Type 0 where
  pub source : ℕ
  pub sinks : List ℕ
  pub target : ℕ

-- the count of one of the sinks rose
abbrev pub OneRose : List ℕ → List ℕ → Type 0
OneRose ns ms = (at : ℕ) × IsSameButAt at ns ms

-- A fault of the source, of a sink or of the target only where its count rose; no other outcome changes one.
abbrev pub HaveCauses : {X : Type 0} → Result X Stop → Counts → Counts → Type 0
HaveCauses (Err stop.SourceFault) c c' = Rose c.source c'.source × (c'.sinks ≡ c.sinks) × (c'.target ≡ c.target)
HaveCauses (Err stop.SinkFault) c c' = (c'.source ≡ c.source) × OneRose c.sinks c'.sinks × (c'.target ≡ c.target)
HaveCauses (Err stop.TargetFault) c c' = (c'.source ≡ c.source) × (c'.sinks ≡ c.sinks) × Rose c.target c'.target
HaveCauses _ c c' = (c'.source ≡ c.source) × (c'.sinks ≡ c.sinks) × (c'.target ≡ c.target)

-- the same of the sinks alone
abbrev pub SinkCause : {X : Type 0} → Result X Stop → List ℕ → List ℕ → Type 0
SinkCause (Err stop.SinkFault) before now = OneRose before now
SinkCause _ before now = now ≡ before

-- the same of the source alone, and of the target alone
abbrev pub SourceCause : {X : Type 0} → Result X Stop → ℕ → ℕ → Type 0
SourceCause (Err stop.SourceFault) before now = Rose before now
SourceCause _ before now = now ≡ before

abbrev pub TargetCause : {X : Type 0} → Result X Stop → ℕ → ℕ → Type 0
TargetCause (Err stop.TargetFault) before now = Rose before now
TargetCause _ before now = now ≡ before

-- a fault that doesn't tell of the source, a sink or the target only where the count of `out` rose
abbrev pub OutCause : Status → Result Summary Stop → ℕ → ℕ → Type 0
OutCause status.Fault (Err stop.SourceFault) before now = Unit {0}
OutCause status.Fault (Err stop.SinkFault) before now = Unit {0}
OutCause status.Fault (Err stop.TargetFault) before now = Unit {0}
OutCause status.Fault came before now = Rose before now
OutCause status.Memory came before now = Unit {0}
OutCause _ came before now = now ≡ before

-- a count rose: of the source, of a sink, of the target or of `out`
abbrev pub AnyRose : Counts → Counts → ℕ → ℕ → Type 0
AnyRose c c' o o' = Rose c.source c'.source ⊎ (OneRose c.sinks c'.sinks ⊎ (Rose c.target c'.target ⊎ Rose o o'))

abbrev pub NoneRose : Counts → Counts → ℕ → ℕ → Type 0
NoneRose c c' o o' = (c'.source ≡ c.source) × (c'.sinks ≡ c.sinks) × (c'.target ≡ c.target) × (o' ≡ o)

-- whatever stops a run, but a fault of the target and want of memory, leaves the target
abbrev pub Keeps : {X : Type 0} → Result X Stop → Type 0 → Type 0
Keeps (Ok x) P = Unit {0}
Keeps (Err stop.TargetFault) P = Unit {0}
Keeps (Err stop.Memory) P = Unit {0}
Keeps (Err _) P = P

-- and, but a fault of a sink besides, the sinks
abbrev pub KeepsSinks : {X : Type 0} → Result X Stop → Type 0 → Type 0
KeepsSinks (Ok x) P = Unit {0}
KeepsSinks (Err stop.SinkFault) P = Unit {0}
KeepsSinks (Err stop.TargetFault) P = Unit {0}
KeepsSinks (Err stop.Memory) P = Unit {0}
KeepsSinks (Err _) P = P

-- ---- what is put on `out`

-- the line was added
abbrev pub Added : List ℕ → List ℕ → Option (List ℕ) → Type 0
Added old bytes now = now ≡ Some (old ++ bytes)

-- the line of refused words
abbrev pub usage_line : List ℕ
usage_line = stop_line stop.Usage

-- The line of the outcome was put; with a fault, unless the count of `out` rose.
abbrev pub LinePut : Status → Result Summary Stop → List ℕ → Option (List ℕ) → ℕ → ℕ → Type 0
LinePut status.Memory came old now o o' = Unit {0}
LinePut status.Fault came old now o o' = Added old (line came) now ⊎ Rose o o'
LinePut _ came old now o o' = Added old (line came) now

-- ---- the run, over told sources

-- what is told, before a run or after it: the target's files, the sinks, and the bytes on `out` with its count of faults
pub record Outside : Type 0 where
  pub target : Option (List ports.File)
  pub sinks : Sinks
  pub held : Option (List ℕ)
  pub faults : ℕ

-- What a run that was asked for came to, over settings files and sources; its status, what stands in the sinks and the
-- target, and the line on `out` where that tells its bytes.
pub record Told (asked : Asked) (stored files : List ports.File) (old new : Outside) (result : Status) : Type 0 where
  pub came : Result Summary Stop
  pub outcome : IsOutcome (content (name_of asked) stored) files came
  pub answer : Answers result (status_of came)
  pub sinks : SinksLeft (content (name_of asked) stored) files came old.sinks new.sinks
  pub target : IfSome old.target (λ before. TargetLeft (writes asked) (content (name_of asked) stored) files came before new.target)
  pub line_put : IfSome old.held (λ held. LinePut result came held new.held old.faults new.faults)

-- Each status comes where it should: that of whatever the run comes to.
abbrev pub IsExact : Asked → List ports.File → List ports.File → Status → Type 0
IsExact asked stored files result =
    (came : Result Summary Stop) → Comes (content (name_of asked) stored) files came → Answers result (status_of came)

-- The line after a fault names an object whose count rose; there is none where the count of `out` rose.
abbrev pub FaultLine : Counts → Counts → ℕ → ℕ → List ℕ → Option (List ℕ) → Type 0
FaultLine c c' o o' old now =
    (Rose c.source c'.source × Added old (line (Err stop.SourceFault)) now)
    ⊎ ((OneRose c.sinks c'.sinks × Added old (line (Err stop.SinkFault)) now)
    ⊎ ((Rose c.target c'.target × Added old (line (Err stop.TargetFault)) now) ⊎ Rose o o'))
