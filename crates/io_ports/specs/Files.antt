-- Files by path, and what the calls on them do.
use Rattle.std.specs.Prelude.{◌≡◌, ◌≢◌, ℕ, List, [], ◌∷◌, ◌++◌, length, take, if◌then◌else◌, nat_eq, nat_lt, IsTrue, codes, Option, Some, None, Result, OnOk, IsErrOf}
use Rattle.std.specs.Ordering.{nat_cmp}
use Rattle.std.specs.declared.cmp.Ordering.TheVariants.{Less}
use Rattle.std.specs.List.{ends_with}
use Rattle.std.specs.Str.{bytes_eq}
use Rattle.std.specs.Cmp.Lexicographic.{slice_cmp}
use Rattle.std.specs.BTreeMap.{insert_entry}
use Rattle.io_ports.specs.declared.fault.PortFault.{PortFault}
use Rattle.io_ports.specs.declared.fault.PortFault.TheVariants.{Failed, Memory}
use Rattle.io_ports.specs.declared.source.Found.{Found}
use Rattle.io_ports.specs.declared.source.Found.TheVariants.{Whole, Longer, Absent}

-- a path with its bytes
abbrev pub File : Type 0
File = List ℕ × List ℕ

-- the bytes of a path
abbrev pub content : List ℕ → List File → Option (List ℕ)
content path [] = None
content path (f ∷ fs) = if bytes_eq f.0 path then Some f.1 else content path fs

-- what a read answers, and what it appends
abbrev pub found : Option (List ℕ) → ℕ → Found
found None max = Absent
found (Some bytes) max = if nat_lt max (length bytes) then Longer else Whole

abbrev pub appended : Option (List ℕ) → ℕ → List ℕ
appended None max = []
appended (Some bytes) max = if nat_lt max (length bytes) then [] else bytes

-- a read of a path, over told files
pub record Reads (files : List File) (path : List ℕ) (max : ℕ) (came : Found) (old new : List ℕ) : Type 0 where
  pub answer : came ≡ found (content path files) max
  pub bytes : new ≡ old ++ appended (content path files) max

-- a file set to these bytes, in byte order of paths
abbrev pub put_file : List ℕ → List ℕ → List File → List File
put_file path bytes files = insert_entry (slice_cmp nat_cmp) files path bytes

-- other files are as before
abbrev pub KeepsOthers : List ℕ → List File → List File → Type 0
KeepsOthers path old new = (q : List ℕ) → q ≢ path → content q new ≡ content q old

-- what a put does, over told files
pub record Puts (path bytes : List ℕ) (result : Result Unit PortFault) (old : List File) (new : Option (List File)) : Type 0 where
  pub ok : OnOk result (new ≡ Some (put_file path bytes old))
  pub failed : IsErrOf result Failed → (files : List File) × (new ≡ Some files) × KeepsOthers path old files
  pub memory : IsErrOf result Memory → new ≡ Some old

-- what a put at the end does, over told bytes
pub record Appends (bytes : List ℕ) (result : Result Unit PortFault) (old : List ℕ) (new : Option (List ℕ)) : Type 0 where
  pub ok : OnOk result (new ≡ Some (old ++ bytes))
  pub failed : IsErrOf result Failed → (n : ℕ) × (new ≡ Some (old ++ take n bytes))
  pub memory : IsErrOf result Memory → new ≡ Some old

-- each path is below the next
abbrev pub IsTree : List File → Type 0
IsTree [] = Unit {0}
IsTree (f ∷ []) = Unit {0}
IsTree (f ∷ g ∷ fs) = (slice_cmp nat_cmp f.0 g.0 ≡ Less) × IsTree (g ∷ fs)

-- all these paths are below a path
abbrev pub AllBelow : List ℕ → List (List ℕ) → Type 0
AllBelow path [] = Unit {0}
AllBelow path (p ∷ ps) = (slice_cmp nat_cmp p path ≡ Less) × AllBelow path ps

-- a path whose name ends in `.php`
abbrev pub EndsInPhp : List ℕ → Type 0
EndsInPhp path = IsTrue (ends_with nat_eq path (codes ".php"))

-- each path ends in `.php`
abbrev pub ArePhp : List File → Type 0
ArePhp [] = Unit {0}
ArePhp (f ∷ fs) = EndsInPhp f.0 × ArePhp fs

-- the files of a tree of sources
abbrev pub IsSources : List File → Type 0
IsSources files = IsTree files × ArePhp files

-- no name stands twice
abbrev pub AreDistinct : List File → Type 0
AreDistinct [] = Unit {0}
AreDistinct (f ∷ fs) = (content f.0 fs ≡ None) × AreDistinct fs
