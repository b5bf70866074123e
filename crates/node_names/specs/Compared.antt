-- Names as they are compared: those of functions, classes and methods without ASCII case, those of constants with case but
-- for the namespace in front. (PHP manual, "Functions", "Constants", "Namespaces": "Overview".)
use Rattle.std.specs.Prelude.{ℕ, Bool, false, ◌||◌, ◌==◌, if◌then◌else◌, List, [], ◌∷◌, ◌++◌, map}
use Rattle.std.specs.Str.{str_to_ascii_lowercase}
use Rattle.node_names.specs.declared.name.Name.{Name}
use Rattle.node_names.specs.declared.name_sort.NameSort.{NameSort}
use Rattle.node_names.specs.declared.name_sort.NameSort.TheVariants as sort

abbrev pub has_backslash : List ℕ → Bool
has_backslash [] = false
has_backslash (b ∷ bs) = b == 92 || has_backslash bs

-- the bytes up to the last backslash in lower case
abbrev pub lower_space : List ℕ → List ℕ
lower_space [] = []
lower_space (b ∷ bs) =
    if has_backslash (b ∷ bs) then str_to_ascii_lowercase (b ∷ []) ++ lower_space bs else b ∷ bs

-- a full name as it is compared
abbrev pub compared : NameSort → List ℕ → List ℕ
compared sort.Function name = str_to_ascii_lowercase name
compared sort.Class name = str_to_ascii_lowercase name
compared sort.Constant name = lower_space name
compared sort.Method name = str_to_ascii_lowercase name
compared sort.ClassConstant name = name
compared sort.Property name = name

-- a name that is used: the names that it may stand for
pub record Use : Type 0 where
  pub sort : NameSort
  pub texts : List (List ℕ)

abbrev pub name : NameSort → List ℕ → Name
name k full = record { sort = k; text = compared k full }

abbrev pub use_of : NameSort → List (List ℕ) → Use
use_of k fulls = record { sort = k; texts = map (compared k) fulls }

abbrev pub names_of : NameSort → List (List ℕ) → List Name
names_of k fulls = map (name k) fulls
