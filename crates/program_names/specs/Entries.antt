-- Entries: the files with which a run may start. (The settings list them; the file that runs before each entry is the one of
-- PHP's directive "auto_prepend_file".)
use Rattle.std.specs.Prelude.{◌≡◌, ℕ, List, [], ◌∷◌, ◌++◌, length, map, slice_get, if◌then◌else◌, Option, Some, None}
use Rattle.scope_names.specs.Numbers.{counted}
use Rattle.program_names.specs.Files.{Files}
use Rattle.program_names.specs.Table.{Table, Completes, has_text}

-- the paths of a program's files
abbrev pub paths_of : Files → List (List ℕ)
paths_of fs = map (λ f. f.0) fs

-- ---- what is asked for

-- the paths that are asked for: those of the list, if there is one, and then that of the file before each entry
abbrev pub asked : Option (List (List ℕ)) → Option (List ℕ) → List (List ℕ)
asked None None = []
asked None (Some path) = path ∷ []
asked (Some listed) None = listed
asked (Some listed) (Some path) = listed ++ path ∷ []

-- the first of some paths that no file has
abbrev pub first_absent : List (List ℕ) → List (List ℕ) → Option (List ℕ)
first_absent paths [] = None
first_absent paths (w ∷ ws) = if has_text w paths then first_absent paths ws else Some w

-- the first path that is asked for and that no file has
abbrev pub absent : List (List ℕ) → Option (List (List ℕ)) → Option (List ℕ) → Option (List ℕ)
absent paths listed prepend = first_absent paths (asked listed prepend)

-- ---- numbers of files

-- these files have these paths
abbrev pub AreFiles : List (List ℕ) → List (List ℕ) → List ℕ → Type 0
AreFiles paths asked_for numbers = map (λ f. slice_get paths f) numbers ≡ map (λ w. Some w) asked_for

-- The entries by number: without a list every file; with one the files that it lists, and then, in the order of paths, each
-- file that no entry so far reaches by includes.
abbrev pub AreEntries : List (List ℕ) → Table → Option (List (List ℕ)) → List ℕ → Type 0
AreEntries paths t None entries = entries ≡ counted 0 (length paths)
AreEntries paths t (Some listed) entries =
    (numbers : List ℕ) × AreFiles paths listed numbers × Completes paths t numbers (counted 0 (length paths)) entries

-- the number of the file before each entry, if there is one
abbrev pub IsPrepend : List (List ℕ) → Option (List ℕ) → Option ℕ → Type 0
IsPrepend paths None number = number ≡ None
IsPrepend paths (Some path) None = ⊥
IsPrepend paths (Some path) (Some number) = slice_get paths number ≡ Some path
