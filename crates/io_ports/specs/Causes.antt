-- When a port may answer a fault.
use Rattle.std.specs.Prelude.{◌≡◌, ℕ, ◌+◌, ◌-◌, ◌^◌, ◌≤◌, min, Result, OnOk, IsErrOf}
use Rattle.io_ports.specs.declared.fault.PortFault.{PortFault}
use Rattle.io_ports.specs.declared.fault.PortFault.TheVariants.{Failed, Memory}

-- the count rose, or stands at its last value
abbrev pub Rose : ℕ → ℕ → Type 0
Rose before now = min (before + 1) (2 ^ 64 - 1) ≤ now

-- `Failed` only where the count rose; no other answer changes it
pub record HasCause {T : Type 0} (before now : ℕ) (result : Result T PortFault) : Type 0 where
  pub later : before ≤ now
  pub ok : OnOk result (now ≡ before)
  pub failed : IsErrOf result Failed → Rose before now
  pub memory : IsErrOf result Memory → now ≡ before
