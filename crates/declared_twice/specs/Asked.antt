-- What is asked of entries, and what is answered.
use Rattle.std.specs.Prelude.{◌≡◌, ◌<◌, ℕ, false, List, [], ◌∷◌, length, Vec, Option, Some, None}
use Rattle.std.specs.Option.{ForSome}
use Rattle.std.specs.declared.alloc.Global.{Global}
use Rattle.graph_search.specs.Marks.{AreBelow}
use Rattle.program_names.specs.Entries.{AreEntries, AreFiles, IsPrepend, absent, paths_of}
use Rattle.program_names.specs.Files.{Files}
use Rattle.program_names.specs.Table.{Completes, has_text, table_of}
use Rattle.scope_names.specs.Numbers.{counted}
use Rattle.declared_twice.specs.declared.entries.Entries.{Entries}
use Rattle.declared_twice.specs.declared.entries_fault.EntriesFault.{EntriesFault}
use Rattle.declared_twice.specs.declared.entries_fault.EntriesFault.TheVariants.{NoFile, Memory}

-- a fault names the path that is absent, or is want of memory
abbrev pub IsFault : Option (List ℕ) → EntriesFault → Type 0
IsFault path (NoFile p) = path ≡ Some p
IsFault path Memory = Unit {0}

-- no file has this path, or memory was wanting
abbrev pub IsAbsent : List (List ℕ) → List ℕ → EntriesFault → Type 0
IsAbsent paths path (NoFile p) = (p ≡ path) × (has_text path paths ≡ false)
IsAbsent paths path Memory = Unit {0}

-- the paths of a list, if there is one
abbrev pub listed_paths : Option (List (List ℕ)) → List (List ℕ)
listed_paths None = []
listed_paths (Some ps) = ps

-- the one path, if there is one
abbrev pub one_path : Option (List ℕ) → List (List ℕ)
one_path None = []
one_path (Some p) = p ∷ []

-- these are the files of a list of paths, if there is one
abbrev pub AreListed : List (List ℕ) → Option (List (List ℕ)) → Option (Vec ℕ Global) → Type 0
AreListed paths None None = Unit {0}
AreListed paths None (Some fs) = ⊥
AreListed paths (Some ps) None = ⊥
AreListed paths (Some ps) (Some fs) = AreFiles paths ps fs.items

-- Entries and then, in the order of paths, each file that no entry so far reaches; all are numbers of files.
pub record IsCompleted (fs : Files) (listed all : List ℕ) : Type 0 where
  pub completes : Completes (paths_of fs) (table_of fs) listed (counted 0 (length (paths_of fs))) all
  pub within : AreBelow all (length fs)

-- every file, or the files of a list and those that complete them
abbrev pub AreAll : Files → Option (Vec ℕ Global) → List ℕ → Type 0
AreAll fs None all = all ≡ counted 0 (length (paths_of fs))
AreAll fs (Some listed) all = IsCompleted fs listed.items all

-- Every path that is asked for is a file's; these are the entries, and the file before each, by number.
pub record AreEntriesOf (fs : Files) (listed : Option (List (List ℕ))) (prepend : Option (List ℕ)) (e : Entries) : Type 0 where
  pub present : absent (paths_of fs) listed prepend ≡ None
  pub entries : AreEntries (paths_of fs) (table_of fs) listed e.files.items
  pub before : IsPrepend (paths_of fs) prepend e.prepend
  pub within : AreBelow e.files.items (length fs)
  pub before_within : ForSome e.prepend (λ p. p < length fs)
