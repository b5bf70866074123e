-- What a `use` imports: names, each under an alias (PHP manual, "Using namespaces: Aliasing/Importing"; RFC "Group Use
-- Declarations").
use Rattle.std.specs.Prelude.{ℕ, Bool, true, if◌then◌else◌, codes, List, [], ◌∷◌, ◌++◌}
use Rattle.std.specs.Str.{str_to_ascii_lowercase}
use Rattle.scope_names.specs.Words.{has_word, is_keyword, between_ends, last_part, without_root, first_word, drop_first}

-- what a name is the name of
pub data Sort : Type 0 where
  OfClass : Sort
  OfFunction : Sort
  OfConstant : Sort

-- an alias, in lower case but for a constant's, and the full name that it stands for, without a backslash in front
pub record Import : Type 0 where
  pub sort : Sort
  pub alias : List ℕ
  pub full : List ℕ

-- an alias as it is compared: without case, but for that of a constant
abbrev pub as_alias : Sort → List ℕ → List ℕ
as_alias OfClass alias = str_to_ascii_lowercase alias
as_alias OfFunction alias = str_to_ascii_lowercase alias
as_alias OfConstant alias = alias

abbrev pub import : Sort → List ℕ → List ℕ → Import
import sort alias full = record { sort = sort; alias = as_alias sort alias; full = without_root full }

-- the import of a name's words: the name alone, or the name, `as` and the alias
abbrev pub named : Sort → List ℕ → List (List ℕ) → List Import
named sort before [] = []
named sort before (name ∷ []) = import sort (last_part name) (before ++ name) ∷ []
named sort before (name ∷ as_ ∷ []) = []
named sort before (name ∷ as_ ∷ alias ∷ more) = import sort alias (before ++ name) ∷ []

-- which sort a word asks for, or else this one
abbrev pub sort_by : List ℕ → Sort → Sort
sort_by w sort =
    if is_keyword (codes "function") w then OfFunction else (if is_keyword (codes "const") w then OfConstant else sort)

-- whether a word asks for a sort
abbrev pub asks_sort : List ℕ → Bool
asks_sort w = if is_keyword (codes "function") w then true else is_keyword (codes "const") w

-- words without the one that asks for a sort
abbrev pub without_sort : List (List ℕ) → List (List ℕ)
without_sort ws = if asks_sort (first_word ws) then drop_first ws else ws

-- the imports of several names behind a common front, each with its own sort or else this one
abbrev pub imports_behind : Sort → List ℕ → List (List (List ℕ)) → List Import
imports_behind sort before [] = []
imports_behind sort before (ws ∷ more) =
    named (sort_by (first_word ws) sort) before (without_sort ws) ++ imports_behind sort before more

-- the imports of the words behind `use` and its sort: names, or a name with further ones in braces
abbrev pub imports_of : Sort → List (List ℕ) → List Import
imports_of sort ws =
    if has_word (codes "{") ws
    then imports_behind sort (first_word ws) (between_ends (drop_first (drop_first ws)))
    else imports_behind sort [] (between_ends ws)

-- the imports of the words of a use
abbrev pub imports : List (List ℕ) → List Import
imports ws = imports_of (sort_by (first_word (drop_first ws)) OfClass) (without_sort (drop_first ws))
