-- The limits on a program's size: this project's own.
use Rattle.std.specs.Prelude.{ℕ, ◌+◌, if◌then◌else◌, nat_lt, List, [], ◌∷◌, length, Option, Some, None}
use Rattle.io_ports.specs.Files as ports
use Rattle.upgrade_core.specs.declared.fault.LimitFault.{LimitFault}
use Rattle.upgrade_core.specs.declared.fault.LimitKind.{LimitKind}
use Rattle.upgrade_core.specs.declared.fault.LimitKind.TheVariants as kind

-- a size that is told
abbrev pub limit : LimitKind → ℕ → Option LimitFault
limit kind number = Some (record { kind = kind; number = number })

-- The first size that passes its limit, behind so many bytes: of each file its own bytes, and then the bytes so far.
abbrev pub bytes_limit : ℕ → List ports.File → Option LimitFault
bytes_limit sum [] = None
bytes_limit sum (f ∷ fs) =
    if nat_lt 1048576 (length f.1) then limit kind.FileBytes 1048577
    else (if nat_lt 4194304 (sum + length f.1) then limit kind.AllBytes 4194305 else bytes_limit (sum + length f.1) fs)

-- The number of files comes first.
abbrev pub limit_of : List ports.File → Option LimitFault
limit_of files = if nat_lt 2000 (length files) then limit kind.Files (length files) else bytes_limit 0 files
