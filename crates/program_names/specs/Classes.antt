-- The numbers of classes (PHP manual, "Predefined Interfaces and Classes", "Predefined Exceptions").
use Rattle.std.specs.Prelude.{◌≡◌, ℕ, suc, ◌+◌, Bool, true, false, if◌then◌else◌, codes, List, [], ◌∷◌, ◌++◌, Contains, Option, Some, None, option_map}
use Rattle.std.specs.Ordering.{nat_cmp}
use Rattle.std.specs.declared.cmp.Ordering.TheVariants.{Less}
use Rattle.std.specs.Cmp.Lexicographic.{slice_cmp}
use Rattle.std.specs.Str.{bytes_eq}
use Rattle.php_tree.specs.declared.kind.NodeKind.{NodeKind}
use Rattle.php_tree.specs.declared.kind.NodeKind.TheVariants as kind
use Rattle.node_names.specs.declared.name.Name.{Name}
use Rattle.node_names.specs.declared.name_sort.NameSort.TheVariants as sort
use Rattle.file_declarations.specs.declared.node_ref.NodeRef.{NodeRef}
use Rattle.file_declarations.specs.declared.declaration.Declaration.{Declaration}
use Rattle.program_names.specs.Table.{Table, all_declared, fact_at}

-- `stdClass`, and the exception classes
abbrev pub known_classes : List (List ℕ)
known_classes =
    codes "stdclass" ∷ codes "throwable" ∷ codes "exception" ∷ codes "error" ∷ codes "typeerror"
    ∷ codes "argumentcounterror" ∷ codes "arithmeticerror" ∷ codes "divisionbyzeroerror" ∷ codes "errorexception"
    ∷ codes "logicexception" ∷ codes "runtimeexception" ∷ []

-- strictly in the order of bytes
abbrev pub AreAscending : List (List ℕ) → Type 0
AreAscending [] = Unit {0}
AreAscending (n ∷ []) = Unit {0}
AreAscending (n ∷ m ∷ ns) = (slice_cmp nat_cmp n m ≡ Less) × AreAscending (m ∷ ns)

-- a class or an interface of this name is declared
pub record IsDeclared (t : Table) (class : List ℕ) : Type 0 where
  pub declaration : Declaration
  pub among : Contains (all_declared t) declaration
  pub name : declaration.name ≡ record { sort = sort.Class; text = class }

-- the names of the other classes and interfaces that are declared, in the order of bytes
pub record AreOthers (t : Table) (names : List (List ℕ)) : Type 0 where
  pub ascending : AreAscending names
  pub declared : (n : List ℕ) → Contains names n → IsDeclared t n
  pub unknown : (n : List ℕ) → Contains names n → ¬ Contains known_classes n
  pub all : (n : List ℕ) → IsDeclared t n → ¬ Contains known_classes n → Contains names n

-- how many names stand before one, if it is there
abbrev pub place_of : List ℕ → List (List ℕ) → Option ℕ
place_of n [] = None
place_of n (m ∷ ms) = if bytes_eq n m then Some 0 else option_map (λ i. suc i) (place_of n ms)

-- the number of a class by its name, as names are compared
abbrev pub number_of : List (List ℕ) → List ℕ → Option ℕ
number_of others class = place_of class (known_classes ++ others)

abbrev pub is_class_like : NodeKind → Bool
is_class_like kind.Class = true
is_class_like kind.Interface = true
is_class_like k = false

abbrev pub first_number : List (List ℕ) → List Name → Option ℕ
first_number others [] = None
first_number others (n ∷ ns) = number_of others n.text

-- the number of the class or interface that a node declares
abbrev pub class_number : Table → List (List ℕ) → NodeRef → Option ℕ
class_number t others at = elim (fact_at t at) [
  | None ↦ None
  | Some x ↦ if is_class_like x.kind then first_number others x.declares else None
]
