-- What the causes of a port say.
use Rattle.std.proofs.Common.{Result, IsErrOf, arith}
use Rattle.io_ports.specs.Causes.{HasCause}
use Rattle.io_ports.specs.declared.fault.PortFault.{PortFault}
use Rattle.io_ports.specs.declared.fault.PortFault.TheVariants.{Failed}

-- where the count stays at 0, no call answers `Failed`
pub never_fails : {T : Type 0} (result : Result T PortFault) → HasCause 0 0 result → IsErrOf result Failed → ⊥
never_fails result h e = omega (arith, h.failed e)
