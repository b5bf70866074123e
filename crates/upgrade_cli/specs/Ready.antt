-- What a run needs of the outside: its settings and its files, and what is refused of them.
use Rattle.std.specs.Prelude.{
  ◌≡◌,
  ◌≤◌,
  ◌<◌,
  ◌^◌,
  ◌+◌,
  ℕ,
  Bool,
  true,
  false,
  if◌then◌else◌,
  nat_lt,
  List,
  [],
  ◌∷◌,
  ◌++◌,
  length,
  map,
  take,
  drop,
  Option,
  Some,
  None,
  option_map,
  IfSome,
  Result,
  Ok,
  Err,
  Vec,
}
use Rattle.std.specs.declared.alloc.Global.{Global}
use Rattle.io_ports.specs.Files as ports
use Rattle.io_ports.specs.Files.{IsTree}
use Rattle.rule_tables.specs.declared.settings_fault.SettingsFault.{SettingsFault}
use Rattle.rule_tables.specs.KeyTable.{outcome}
use Rattle.rule_tables.specs.SettingsView.{SettingsView}
use Rattle.upgrade_core.specs.declared.fault.LimitFault.{LimitFault}
use Rattle.upgrade_core.specs.declared.fault.LimitKind.TheVariants as kind
use Rattle.upgrade_core.specs.declared.file.SourceFile.{SourceFile}
use Rattle.upgrade_core.specs.Files.{file_of}
use Rattle.upgrade_core.specs.Limits.{bytes_limit, limit_of}
use Rattle.upgrade_cli.specs.declared.ready.Ready.{Ready}
use Rattle.upgrade_cli.specs.declared.stop.Stop.{Stop}
use Rattle.upgrade_cli.specs.declared.stop.Stop.TheVariants as stop
use Rattle.upgrade_cli.specs.Stops.{settings_stop}

-- ---- what the settings file says

-- whether it has more than 65,536 bytes
abbrev pub is_long : Option (List ℕ) → Bool
is_long None = false
is_long (Some bytes) = nat_lt 65536 (length bytes)

-- the settings of its bytes
abbrev pub said_by : Result SettingsView SettingsFault → Result SettingsView Stop
said_by (Ok settings) = Ok settings
said_by (Err fault) = Err (settings_stop fault)

-- its settings; it may be absent or refused
abbrev pub said : Option (List ℕ) → Result SettingsView Stop
said None = Err stop.NoSettings
said (Some bytes) = said_by (outcome bytes)

-- ---- what is refused before any tree is read

-- the first size that passes its limit: that of the settings, and then those of the files
abbrev pub first_limit : Option (List ℕ) → List ports.File → Option LimitFault
first_limit content files =
    if is_long content then Some (record { kind = kind.SettingsBytes; number = 65537 }) else limit_of files

-- ---- the parts of the reading

-- a stop of a reading that isn't told: a size, a fault of the source, or want of memory
abbrev pub IsAnyListing : {X : Type 0} → Result X Stop → Type 0
IsAnyListing (Ok x) = Unit {0}
IsAnyListing (Err (stop.Limit l)) = Unit {0}
IsAnyListing (Err stop.SourceFault) = Unit {0}
IsAnyListing (Err stop.Memory) = Unit {0}
IsAnyListing (Err _) = ⊥

-- the same, or of the settings
abbrev pub IsOfReading : {X : Type 0} → Result X Stop → Type 0
IsOfReading (Ok x) = Unit {0}
IsOfReading (Err (stop.Limit l)) = Unit {0}
IsOfReading (Err stop.NoSettings) = Unit {0}
IsOfReading (Err (stop.Settings fault)) = Unit {0}
IsOfReading (Err stop.SourceFault) = Unit {0}
IsOfReading (Err stop.Memory) = Unit {0}
IsOfReading (Err _) = ⊥

-- the limit on the number of files
abbrev pub IsTooMany : ℕ → LimitFault → Type 0
IsTooMany count l = (2000 < count) × (l ≡ record { kind = kind.Files; number = count })

-- paths that were listed are few enough
abbrev pub IsWithin : Vec (List ℕ) Global → Result (Vec (List ℕ) Global) Stop → Type 0
IsWithin paths (Ok kept) = (kept ≡ paths) × (length paths.items ≤ 2000)
IsWithin paths (Err (stop.Limit l)) = IsTooMany (length paths.items) l
IsWithin paths (Err _) = ⊥

-- what a listing of these files may answer
abbrev pub IsListing : List ports.File → Result (Vec (List ℕ) Global) Stop → Type 0
IsListing files (Ok paths) = IsTree files × (paths.items ≡ map (λ f. f.0) files) × (length files ≤ 2000)
IsListing files (Err (stop.Limit l)) = IsTooMany (length files) l
IsListing files (Err stop.SourceFault) = Unit {0}
IsListing files (Err stop.Memory) = Unit {0}
IsListing files (Err _) = ⊥

-- the limit on the bytes of a file
abbrev pub IsTooLong : ℕ → LimitFault → Type 0
IsTooLong count l = (1048576 < count) × (l ≡ record { kind = kind.FileBytes; number = 1048577 })

-- what a reading of these bytes may answer
abbrev pub IsReading : Option (List ℕ) → Result (Vec ℕ Global) Stop → Type 0
IsReading o (Ok v) = o ≡ Some v.items
IsReading o (Err (stop.Limit l)) = IfSome o (λ bytes. IsTooLong (length bytes) l)
IsReading o (Err stop.SourceFault) = Unit {0}
IsReading o (Err stop.Memory) = Unit {0}
IsReading o (Err _) = ⊥

-- a reading that may not be told
abbrev pub IsAnyReading : Result (Vec ℕ Global) Stop → Type 0
IsAnyReading (Ok v) = length v.items ≤ 1048576
IsAnyReading (Err (stop.Limit l)) = Unit {0}
IsAnyReading (Err stop.SourceFault) = Unit {0}
IsAnyReading (Err stop.Memory) = Unit {0}
IsAnyReading (Err _) = ⊥

-- bytes so far, and bytes of one more file
abbrev pub AreFew : ℕ → ℕ → Type 0
AreFew sum count = (sum ≤ 4194304) × (count ≤ 1048576)

-- their sum, or the limit on the bytes of all files
abbrev pub IsAdding : ℕ → ℕ → Result ℕ Stop → Type 0
IsAdding sum count (Ok n) = (n ≡ sum + count) × (n ≤ 4194304)
IsAdding sum count (Err (stop.Limit l)) =
    (4194304 < sum + count) × (l ≡ record { kind = kind.AllBytes; number = 4194305 })
IsAdding sum count (Err _) = ⊥

-- what the reading of the next file may answer, behind files of so many bytes, and the files that are read then
abbrev pub IsNext : List ℕ → Option (List ℕ) → ℕ → List ports.File → Result ℕ Stop → List ports.File → Type 0
IsNext path o sum old (Ok n) new =
    (bytes : List ℕ) × (o ≡ Some bytes) × (length bytes ≤ 1048576) × (n ≡ sum + length bytes) × (n ≤ 4194304)
    × (new ≡ old ++ (path, bytes) ∷ [])
IsNext path o sum old (Err (stop.Limit l)) new =
    (bytes : List ℕ) × (o ≡ Some bytes) × (bytes_limit sum ((path, bytes) ∷ []) ≡ Some l)
IsNext path o sum old (Err stop.SourceFault) new = Unit {0}
IsNext path o sum old (Err stop.Memory) new = Unit {0}
IsNext path o sum old (Err _) new = ⊥

-- the first so many of these files are read, and have so many bytes
pub record Progress (files done : List ports.File) (sum count : ℕ) : Type 0 where
  pub are : done ≡ take count files
  pub left : bytes_limit sum (drop count files) ≡ bytes_limit 0 files

-- what the reading of these files may answer
abbrev pub AreReading : List ports.File → Result (Vec SourceFile Global) Stop → Type 0
AreReading files (Ok v) = (map file_of v.items ≡ files) × (bytes_limit 0 files ≡ None)
AreReading files (Err (stop.Limit l)) = bytes_limit 0 files ≡ Some l
AreReading files (Err stop.SourceFault) = Unit {0}
AreReading files (Err stop.Memory) = Unit {0}
AreReading files (Err _) = ⊥

-- and that of the listing and the reading
abbrev pub IsFiles : List ports.File → Result (Vec SourceFile Global) Stop → Type 0
IsFiles files (Ok v) = (map file_of v.items ≡ files) × (limit_of files ≡ None)
IsFiles files (Err (stop.Limit l)) = limit_of files ≡ Some l
IsFiles files (Err stop.SourceFault) = Unit {0}
IsFiles files (Err stop.Memory) = Unit {0}
IsFiles files (Err _) = ⊥

-- the bytes of a settings file
abbrev pub bytes_of : Option (Vec ℕ Global) → Option (List ℕ)
bytes_of o = option_map (λ v. v.items) o

-- what the reading of the settings file may answer
abbrev pub IsSettingsReading : Option (List ℕ) → Result (Option (Vec ℕ Global)) Stop → Type 0
IsSettingsReading content (Ok o) = (bytes_of o ≡ content) × (is_long content ≡ false)
IsSettingsReading content (Err (stop.Limit l)) =
    (is_long content ≡ true) × (l ≡ record { kind = kind.SettingsBytes; number = 65537 })
IsSettingsReading content (Err stop.SourceFault) = Unit {0}
IsSettingsReading content (Err stop.Memory) = Unit {0}
IsSettingsReading content (Err _) = ⊥

-- what the bytes say, unless memory is wanting
abbrev pub IsSaid : Option (List ℕ) → Result SettingsView Stop → Type 0
IsSaid content (Ok settings) = said content ≡ Ok settings
IsSaid content (Err stop.NoSettings) = said content ≡ Err stop.NoSettings
IsSaid content (Err (stop.Settings fault)) = said content ≡ Err (stop.Settings fault)
IsSaid content (Err stop.Memory) = Unit {0}
IsSaid content (Err _) = ⊥

-- what the whole reading may answer: the sizes come first, and then the settings
abbrev pub IsReady : Option (List ℕ) → List ports.File → Result Ready Stop → Type 0
IsReady content files (Ok r) =
    (map file_of r.files.items ≡ files) × (first_limit content files ≡ None) × (said content ≡ Ok r.settings)
IsReady content files (Err (stop.Limit l)) = first_limit content files ≡ Some l
IsReady content files (Err stop.NoSettings) = (first_limit content files ≡ None) × (said content ≡ Err stop.NoSettings)
IsReady content files (Err (stop.Settings fault)) =
    (first_limit content files ≡ None) × (said content ≡ Err (stop.Settings fault))
IsReady content files (Err stop.SourceFault) = Unit {0}
IsReady content files (Err stop.Memory) = Unit {0}
IsReady content files (Err _) = ⊥
