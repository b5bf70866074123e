-- Declarations by their names.
use Rattle.std.specs.Prelude.{◌≡◌, ℕ, if◌then◌else◌, List, [], ◌∷◌, Vec, slice_get, Option, Some, None}
use Rattle.std.specs.declared.alloc.Global.{Global}
use Rattle.std.specs.Map.{lookup}
use Rattle.std.specs.Str.{bytes_eq}
use Rattle.node_names.specs.declared.name_sort.NameSort.{NameSort}
use Rattle.node_names.specs.declared.name_sort.NameSort.TheVariants as sort
use Rattle.file_declarations.specs.declared.declaration.Declaration.{Declaration}
use Rattle.file_declarations.specs.declared.node_ref.NodeRef.{NodeRef}
use Rattle.file_declarations.specs.declared.told.Told.{Told}
use Rattle.file_declarations.specs.declared.told.Told.TheVariants.{Declares, Extends, Includes}
use Rattle.resolved_names.specs.declared.found.Found.{Found}
use Rattle.resolved_names.specs.declared.found.Found.TheVariants.{Nothing, At, Each}

abbrev pub sort_code : NameSort → ℕ
sort_code sort.Function = 0
sort_code sort.Class = 1
sort_code sort.Constant = 2
sort_code sort.Method = 3
sort_code sort.ClassConstant = 4
sort_code sort.Property = 5

-- a name as one text
abbrev pub key : NameSort → List ℕ → List ℕ
key k w = sort_code k ∷ w

-- the nodes that declare the name of a key
abbrev pub keyed : List ℕ → List Declaration → List NodeRef
keyed w [] = []
keyed w (d ∷ ds) = if bytes_eq (key d.name.sort d.name.text) w then d.at ∷ keyed w ds else keyed w ds

-- keys, and what is kept under each
abbrev pub Entries : Type 0
Entries = List (Vec ℕ Global × Vec NodeRef Global)

abbrev pub items_if : Option (Vec NodeRef Global) → List NodeRef
items_if None = []
items_if (Some v) = v.items

abbrev pub kept : Entries → List ℕ → List NodeRef
kept es w = items_if (lookup (λ k. bytes_eq w k.items) es)

-- under each key its declarations are kept
abbrev pub IsIndex : Entries → List Declaration → Type 0
IsIndex es ds = (k : Vec ℕ Global) → kept es k.items ≡ keyed k.items ds

-- the declarations among what is told
abbrev pub declared_in : List Told → List Declaration
declared_in [] = []
declared_in (Declares d ∷ ts) = d ∷ declared_in ts
declared_in (Extends c p ∷ ts) = declared_in ts
declared_in (Includes f path ∷ ts) = declared_in ts

-- ---- what a use was found to stand for

abbrev pub entry_at : Option (Vec ℕ Global × Vec NodeRef Global) → List NodeRef
entry_at None = []
entry_at (Some e) = e.1.items

abbrev pub kept_at : Entries → Option ℕ → List NodeRef
kept_at es None = []
kept_at es (Some i) = entry_at (slice_get es i)

abbrev pub found_in : Entries → Found → List NodeRef
found_in es Nothing = []
found_in es (At i) = entry_at (slice_get es i)
found_in es (Each v) = v.items
