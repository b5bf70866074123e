-- The classes that are declared, but for those that every program knows.
use Rattle.std.specs.Prelude.{ℕ, ◌+◌, Bool, true, false, ◌&&◌, not, is_some, if◌then◌else◌, List, [], ◌∷◌, ◌++◌, Option, Some, None}
use Rattle.std.specs.Str.{bytes_eq}
use Rattle.node_names.specs.declared.name.Name.{Name}
use Rattle.node_names.specs.declared.name_sort.NameSort.{NameSort}
use Rattle.node_names.specs.declared.name_sort.NameSort.TheVariants as sort
use Rattle.file_declarations.specs.declared.told.Told.{Told}
use Rattle.file_declarations.specs.declared.told.Told.TheVariants.{Declares, Extends, Includes}
use Rattle.program_names.specs.Classes.{known_classes, place_of}

abbrev pub is_class : NameSort → Bool
is_class sort.Class = true
is_class s = false

-- whether a name is that of a class which not every program knows
abbrev pub is_other : Name → Bool
is_other n = is_class n.sort && not (is_some (place_of n.text known_classes))

abbrev pub other_if : Name → List (List ℕ)
other_if n = if is_other n then n.text ∷ [] else []

-- the names of those classes
abbrev pub others_in : List Told → List (List ℕ)
others_in [] = []
others_in (Declares d ∷ ts) = other_if d.name ++ others_in ts
others_in (Extends c p ∷ ts) = others_in ts
others_in (Includes f path ∷ ts) = others_in ts

-- a place, if this is what stands there, or else one behind it
abbrev pub found_or : Bool → ℕ → Option ℕ → Option ℕ
found_or is place rest = if is then Some place else rest

-- where a name stands, the first place having a number
abbrev pub place_from : ℕ → List ℕ → List (List ℕ) → Option ℕ
place_from k n [] = None
place_from k n (m ∷ ms) = found_or (bytes_eq n m) k (place_from (k + 1) n ms)
