-- What the handing of reports does, sink by sink and report by report.
use Rattle.std.specs.Prelude.{◌≡◌, ◌<◌, ◌∷◌, ◌++◌, [], ℕ, List, length, map, true, Result, Ok, Err}
use Rattle.io_ports.specs.declared.fault.PortFault.{PortFault}
use Rattle.io_ports.specs.declared.fault.PortFault.TheVariants.{Failed, Memory}
use Rattle.io_ports.specs.declared.report.Report.{Report}
use Rattle.report_handing.specs.declared.sinks.SinkStop.{SinkStop}
use Rattle.report_handing.specs.Sinks.{Sinks, gave, took, closed, HandedAll, HandedSome, IsSameButAt}
pub use Rattle.report_handing.specs.Sinks.{AllOpen, sinks_by}

-- the counts where a sink refused: its own rose where it failed, and no other changed
abbrev pub HaveCause : PortFault → ℕ → List ℕ → List ℕ → Type 0
HaveCause Failed at old new = IsSameButAt at old new
HaveCause Memory at old new = new ≡ old

-- one report
abbrev pub IsHanding : Report → Result (Unit {0}) SinkStop → Sinks → Sinks → Type 0
IsHanding r (Ok x) old new =
    (new.lists ≡ map (λ l. l ++ r ∷ []) old.lists) × (new.finished ≡ old.finished) × (new.faults ≡ old.faults)
IsHanding r (Err stop) old new =
    (stop.at < length old.lists) × (new.lists ≡ took stop.at r old.lists) × (new.finished ≡ old.finished)
    × HaveCause stop.fault stop.at old.faults new.faults

-- the end
abbrev pub IsFinishing : Result (Unit {0}) SinkStop → Sinks → Sinks → Type 0
IsFinishing (Ok x) old new =
    (new.lists ≡ old.lists) × (new.finished ≡ map (λ b. true) old.finished) × (new.faults ≡ old.faults)
IsFinishing (Err stop) old new =
    (stop.at < length old.lists) × (new.lists ≡ old.lists) × (new.finished ≡ closed stop.at old.finished)
    × HaveCause stop.fault stop.at old.faults new.faults

-- all of it
abbrev pub IsHandingOut : List Report → Result (Unit {0}) SinkStop → Sinks → Sinks → Type 0
IsHandingOut rs (Ok x) old new = HandedAll rs old new
IsHandingOut rs (Err stop) old new =
    (stop.at < length old.lists) × HandedSome rs stop.at old new × HaveCause stop.fault stop.at old.faults new.faults
