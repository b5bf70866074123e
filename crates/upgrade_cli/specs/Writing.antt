-- What is written to the target.
use Rattle.std.specs.Prelude.{◌≡◌, ℕ, List, [], ◌∷◌, take, slice_get, Option, Some, Result, Ok, Err}
use Rattle.io_ports.specs.Files as ports
use Rattle.io_ports.specs.Files.{put_file, KeepsOthers}
use Rattle.upgrade_cli.specs.declared.stop.Stop.{Stop}
use Rattle.upgrade_cli.specs.declared.stop.Stop.TheVariants as stop

-- a target's files, with these under their paths
abbrev pub put_all : List ports.File → List ports.File → List ports.File
put_all [] before = before
put_all (f ∷ fs) before = put_all fs (put_file f.0 f.1 before)

-- a put of one file
abbrev pub IsPut : ports.File → Result (Unit {0}) Stop → List ports.File → Option (List ports.File) → Type 0
IsPut f (Ok x) old new = new ≡ Some (put_file f.0 f.1 old)
IsPut f (Err stop.TargetFault) old new = (files : List ports.File) × (new ≡ Some files) × KeepsOthers f.0 old files
IsPut f (Err stop.Memory) old new = new ≡ Some old
IsPut f (Err _) old new = ⊥

-- the first so many files were put, and the next one is unspecified
pub record IsCutOff (files : List ports.File) (old : List ports.File) (new : Option (List ports.File)) : Type 0 where
  pub count : ℕ
  pub failed : ports.File
  pub is_next : slice_get files count ≡ Some failed
  pub stands : List ports.File
  pub are : new ≡ Some stands
  pub others : KeepsOthers failed.0 (put_all (take count files) old) stands

-- the first so many files were put
pub record IsPrefix (files : List ports.File) (old : List ports.File) (new : Option (List ports.File)) : Type 0 where
  pub count : ℕ
  pub are : new ≡ Some (put_all (take count files) old)

-- puts of all of them
abbrev pub ArePut : List ports.File → Result (Unit {0}) Stop → List ports.File → Option (List ports.File) → Type 0
ArePut files (Ok x) old new = new ≡ Some (put_all files old)
ArePut files (Err stop.TargetFault) old new = IsCutOff files old new
ArePut files (Err stop.Memory) old new = IsPrefix files old new
ArePut files (Err _) old new = ⊥

-- a fault of the target, or want of memory
abbrev pub IsOfWriting : {X : Type 0} → Result X Stop → Type 0
IsOfWriting (Ok x) = Unit {0}
IsOfWriting (Err stop.TargetFault) = Unit {0}
IsOfWriting (Err stop.Memory) = Unit {0}
IsOfWriting (Err _) = ⊥
