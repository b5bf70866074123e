-- What a sink of reports does to its list, and what it puts.
use Rattle.std.specs.Prelude.{◌≡◌, ℕ, List, [], ◌∷◌, ◌++◌, Option, Some, Result, IfSome, OnOk, OnErr, IsErrOf}
use Rattle.io_ports.specs.Files.{Appends}
use Rattle.io_ports.specs.declared.fault.PortFault.{PortFault}
use Rattle.io_ports.specs.declared.fault.PortFault.TheVariants.{Failed}
use Rattle.io_ports.specs.declared.report.Report.{Report}

-- an Ok takes the report behind the others, and no other answer changes the list
pub record Takes (report : Report) (result : Result Unit PortFault) (old new : List Report) : Type 0 where
  pub ok : OnOk result (new ≡ old ++ report ∷ [])
  pub err : OnErr result (new ≡ old)

-- a call put this text and nothing else on a sink of bytes, where the sink tells its bytes
abbrev pub PutsText : List ℕ → Result Unit PortFault → Option (List ℕ) → Option (List ℕ) → Type 0
PutsText text result before after = IfSome before (λ bytes. Appends text result bytes after)

-- the lines of all reports, in order
abbrev pub lines : (Report → List ℕ) → List Report → List ℕ
lines line_of [] = []
lines line_of (r ∷ rs) = line_of r ++ lines line_of rs

-- a sink of bytes that tells some first bytes and then the lines of the reports
abbrev pub Written : (Report → List ℕ) → List ℕ → List Report → Option (List ℕ) → Type 0
Written line_of began reports held = held ≡ Some (began ++ lines line_of reports)

-- whatever bytes stood there when the sink was made: where the lines of the list stood behind them and
-- nothing failed, they still do
abbrev pub StaysWritten : (Report → List ℕ) → Result Unit PortFault → List Report → Option (List ℕ) → List Report → Option (List ℕ) → Type 0
StaysWritten line_of result old before new after =
    (began : List ℕ) → ¬ IsErrOf result Failed → Written line_of began old before → Written line_of began new after
