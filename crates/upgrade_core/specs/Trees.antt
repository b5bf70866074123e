-- What 7.4 reads in the files of a program.
use Rattle.std.specs.Prelude.{◌≡◌, ◌⊎◌, ℕ, List, [], ◌∷◌, Result, Ok, Err}
use Rattle.php_tree.specs.declared.version.Version.TheVariants.{V74}
use Rattle.php_tree.specs.Tree.{File}
use Rattle.php_reading.specs.Reading.{Reads}
use Rattle.io_ports.specs.Files as ports
use Rattle.upgrade_core.specs.Files.{Trees}

-- 7.4 reads no tree in these bytes
abbrev pub HasNoTree : List ℕ → Type 0
HasNoTree bytes = (t : File) → Reads V74 bytes t → ⊥

-- the tree of a file, by its path
abbrev pub IsRead : ports.File → List ℕ × File → Type 0
IsRead f t = (t.0 ≡ f.0) × Reads V74 f.1 t.1

-- the trees of all files, one by one
abbrev pub AreRead : List ports.File → Trees → Type 0
AreRead [] [] = Unit {0}
AreRead (f ∷ fs) (t ∷ ts) = IsRead f t × AreRead fs ts
AreRead files trees = ⊥

-- the path of the first file that has no tree
abbrev pub IsFirstUnread : List ports.File → List ℕ → Type 0
IsFirstUnread [] path = ⊥
IsFirstUnread (f ∷ fs) path =
    ((path ≡ f.0) × HasNoTree f.1) ⊎ (((t : File) × Reads V74 f.1 t) × IsFirstUnread fs path)
