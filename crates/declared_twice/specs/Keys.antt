-- What declarations are compared by: those that a run begins with, and that it makes once.
use Rattle.std.specs.Prelude.{◌≡◌, ◌<◌, ℕ, ◌+◌, Bool, true, ◌&&◌, if◌then◌else◌, List, [], ◌∷◌, length, map, slice_get, Option, Some, None}
use Rattle.std.specs.Borrow.{Bor}
use Rattle.node_names.specs.declared.name_sort.NameSort.{NameSort}
use Rattle.file_declarations.specs.declared.declaration.Declaration.{Declaration}
use Rattle.file_declarations.specs.declared.told.Told.{Told}
use Rattle.file_declarations.specs.declared.told.Told.TheVariants.{Declares, Extends, Includes}
use Rattle.graph_search.specs.Graph.{Graph, marked}
use Rattle.program_names.specs.Table.{is_declared_once}
use Rattle.declared_twice.specs.Later.{IsFirstAt}
use Rattle.declared_twice.specs.Runs.{Meets}

-- the declaration that is told, if it is one
abbrev pub declaration_of : Told → Option Declaration
declaration_of (Declares d) = Some d
declaration_of (Extends c p) = None
declaration_of (Includes f path) = None

-- the declarations among what is told
abbrev pub declared_in : List Told → List Declaration
declared_in [] = []
declared_in (Declares d ∷ ts) = d ∷ declared_in ts
declared_in (Extends c p ∷ ts) = declared_in ts
declared_in (Includes f path ∷ ts) = declared_in ts

-- the declarations that are lent
abbrev pub lent : List (Bor Declaration) → List Declaration
lent ds = map (λ d. d.now) ds

-- the sort and the text of a name
abbrev pub Key : Type 0
Key = NameSort × List ℕ

-- the name of a declaration that a run begins with and makes once
abbrev pub key_of : Declaration → Option Key
key_of d = if d.is_top && is_declared_once d.name.sort then Some (d.name.sort, d.name.text) else None

abbrev pub lent_key : NameSort × Bor (List ℕ) → Key
lent_key k = (k.0, k.1.now)

-- a declaration with a key stands at a place
pub record HasKey (ds : List Declaration) (k : Key) (j : ℕ) : Type 0 where
  pub declaration : Declaration
  pub at : slice_get ds j ≡ Some declaration
  pub key : key_of declaration ≡ Some k

-- for each place of a declaration with a key the next place of one with the same key, and none for the others
pub record AreNext (ds : List Declaration) (ns : List (Option ℕ)) : Type 0 where
  pub size : length ns ≡ length ds
  pub each : (i : ℕ) (k : Key) → HasKey ds k i → (n : Option ℕ) × (slice_get ns i ≡ Some n) × IsFirstAt (HasKey ds k) (i + 1) n
  pub none : (i : ℕ) (d : Declaration) → slice_get ds i ≡ Some d → key_of d ≡ None → slice_get ns i ≡ Some None

-- no place has a next one
abbrev pub HasNoNext : List (Option ℕ) → Type 0
HasNoNext ns = (i j : ℕ) → slice_get ns i ≡ Some (Some j) → ⊥

-- a declaration with a key, in a file that is marked, stands at a place
pub record IsMetAt (ds : List Declaration) (ms : List Bool) (k : Key) (j : ℕ) : Type 0 where
  pub has : HasKey ds k j
  pub met : marked ms has.declaration.at.file ≡ true

-- two declarations of one key whose files one entry leads to
pub record ClashAt (ds : List Declaration) (next : Graph) (entries : List ℕ) (i j : ℕ) : Type 0 where
  pub order : i < j
  pub key : Key
  pub first : HasKey ds key i
  pub second : HasKey ds key j
  pub meets : Meets next entries first.declaration.at.file second.declaration.at.file

-- each declaration stands in one of so many files
abbrev pub AreInFiles : ℕ → List Declaration → Type 0
AreInFiles n ds = (j : ℕ) (d : Declaration) → slice_get ds j ≡ Some d → d.at.file < n
