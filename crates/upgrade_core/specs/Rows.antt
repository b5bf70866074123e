-- The trees of files as the code reads them.
use Rattle.std.specs.Prelude.{◌≡◌, ℕ, List, [], ◌∷◌, map, Option, Some, None, Result, Ok, Err}
use Rattle.php_tree.specs.declared.version.Version.TheVariants.{V74}
use Rattle.php_tree.specs.Tree.{File}
use Rattle.php_rows.specs.File.{file_in}
use Rattle.php_rows.specs.declared.file.RowTree.{RowTree}
use Rattle.php_reading.specs.Reading.{Reads}
use Rattle.io_ports.specs.Files as ports
use Rattle.upgrade_core.specs.declared.fault.UpgradeFault.{UpgradeFault}
use Rattle.upgrade_core.specs.declared.fault.UpgradeFault.TheVariants as fault
use Rattle.upgrade_core.specs.Files.{Trees}
use Rattle.upgrade_core.specs.Trees.{HasNoTree, IsFirstUnread}

abbrev pub Rows : Type 0
Rows = List (List ℕ × RowTree)

-- the tree of a row, by its path
abbrev pub tree_of : List ℕ × RowTree → List ℕ × File
tree_of row = (row.0, file_in row.1)

abbrev pub trees_of : Rows → Trees
trees_of rows = map tree_of rows

-- the row of a file
abbrev pub IsRow : ports.File → List ℕ × RowTree → Type 0
IsRow f row = (row.0 ≡ f.0) × Reads V74 f.1 (file_in row.1)

-- the rows of all files, one by one
abbrev pub AreRows : List ports.File → Rows → Type 0
AreRows [] [] = Unit {0}
AreRows (f ∷ fs) (row ∷ rows) = IsRow f row × AreRows fs rows
AreRows files rows = ⊥

-- each is what 7.4 reads in some bytes
abbrev pub AreAllRead : Rows → Type 0
AreAllRead [] = Unit {0}
AreAllRead (row ∷ rows) = ((bytes : List ℕ) × Reads V74 bytes (file_in row.1)) × AreAllRead rows

-- the tree of some bytes, or none where they have no tree
abbrev pub MayBeRead : List ℕ → Option RowTree → Type 0
MayBeRead bytes None = HasNoTree bytes
MayBeRead bytes (Some tree) = Reads V74 bytes (file_in tree)

-- what the reading of a file may answer
abbrev pub IsFileReading : ports.File → Result (List ℕ × RowTree) UpgradeFault → Type 0
IsFileReading f (Ok row) = IsRow f row
IsFileReading f (Err (fault.Source path)) = (path ≡ f.0) × HasNoTree f.1
IsFileReading f (Err fault.Memory) = Unit {0}
IsFileReading f (Err _) = ⊥

-- and that of all files, where it is refused
abbrev pub IsReadFault : List ports.File → UpgradeFault → Type 0
IsReadFault files (fault.Source path) = IsFirstUnread files path
IsReadFault files fault.Memory = Unit {0}
IsReadFault files _ = ⊥
