-- The names of a program's files: what each name stands for, and what the resolution of names refuses.
use Rattle.std.specs.Prelude.{◌≡◌, ◌<◌, ℕ, zero, suc, ◌+◌, Bool, true, false, ◌&&◌, ◌||◌, if◌then◌else◌, List, [], ◌∷◌, ◌++◌, length, slice_get, Contains, Option, Some, None, ◌⊎◌}
use Rattle.std.specs.Ordering.{nat_cmp}
use Rattle.std.specs.declared.cmp.Ordering.TheVariants.{Less}
use Rattle.std.specs.Cmp.Lexicographic.{slice_cmp}
use Rattle.std.specs.Str.{bytes_eq}
use Rattle.php_rows.specs.File.{file_in}
use Rattle.node_names.specs.declared.name_sort.NameSort.{NameSort}
use Rattle.node_names.specs.declared.name_sort.NameSort.TheVariants as sort
use Rattle.file_declarations.specs.declared.declaration.Declaration.{Declaration}
use Rattle.file_declarations.specs.declared.node_ref.NodeRef.{NodeRef}
use Rattle.node_names.specs.declared.name.Name.{Name}
use Rattle.node_names.specs.Compared.{Use}
use Rattle.node_names.specs.Facts.{Fact, file_facts}
use Rattle.program_names.specs.Files.{Files}

-- what the nodes of each file tell
abbrev pub table_of : Files → List (List Fact)
table_of [] = []
table_of (f ∷ fs) = file_facts f.0 (file_in f.1).statements ∷ table_of fs

abbrev pub Table : Type 0
Table = List (List Fact)

-- ---- declarations

-- the declarations of some names at a node
abbrev pub declared_at : NodeRef → Bool → List Name → List Declaration
declared_at at top [] = []
declared_at at top (n ∷ ns) = record { name = n; at = at; is_top = top } ∷ declared_at at top ns

-- the declarations of a file's nodes, from the node with a number on
abbrev pub in_nodes : ℕ → ℕ → List Fact → List Declaration
in_nodes f n [] = []
in_nodes f n (x ∷ xs) = declared_at (record { file = f; node = n }) x.is_top x.declares ++ in_nodes f (suc n) xs

-- the declarations of the files, from the one with a number on, in the order of paths and places
abbrev pub in_files : ℕ → Table → List Declaration
in_files f [] = []
in_files f (xs ∷ more) = in_nodes f zero xs ++ in_files (suc f) more

abbrev pub all_declared : Table → List Declaration
all_declared t = in_files zero t

abbrev pub same_sort : NameSort → NameSort → Bool
same_sort sort.Function sort.Function = true
same_sort sort.Class sort.Class = true
same_sort sort.Constant sort.Constant = true
same_sort sort.Method sort.Method = true
same_sort sort.ClassConstant sort.ClassConstant = true
same_sort sort.Property sort.Property = true
same_sort a b = false

abbrev pub has_text : List ℕ → List (List ℕ) → Bool
has_text w [] = false
has_text w (t ∷ ts) = bytes_eq w t || has_text w ts

-- the nodes that declare a name of a sort and a text, in the order of paths and places
abbrev pub declared_as : NameSort → List ℕ → List Declaration → List NodeRef
declared_as k w [] = []
declared_as k w (d ∷ ds) =
    if same_sort d.name.sort k && bytes_eq d.name.text w then d.at ∷ declared_as k w ds else declared_as k w ds

-- the same for each of some texts, one after another
abbrev pub declared_as_each : NameSort → List (List ℕ) → List Declaration → List NodeRef
declared_as_each k [] ds = []
declared_as_each k (w ∷ ws) ds = declared_as k w ds ++ declared_as_each k ws ds

-- The nodes that declare what a use stands for: those of each full name that it may have, in the order in which these are
-- looked for, and of one name in the order of paths and places.
abbrev pub declared_by : Use → List Declaration → List NodeRef
declared_by u ds = declared_as_each u.sort u.texts ds

-- what the node with a number in the file with a number tells
abbrev pub fact_at : Table → NodeRef → Option Fact
fact_at t at = elim (slice_get t at.file) [ None ↦ None | Some xs ↦ slice_get xs at.node ]

-- Every declaration of name n, from 0, that a node uses; none where it uses no such name.
abbrev pub declarations : Table → NodeRef → ℕ → List NodeRef
declarations t at n = elim (fact_at t at) [
  | None ↦ []
  | Some x ↦ (elim (slice_get x.uses n) [ None ↦ [] | Some u ↦ declared_by u (all_declared t) ])
]

-- ---- what a file reaches by includes (PHP manual, "include")

-- a node of the one file includes the other
pub record Includes (paths : List (List ℕ)) (t : Table) (from to : ℕ) : Type 0 where
  pub facts : List Fact
  pub of : slice_get t from ≡ Some facts
  pub node : ℕ
  pub fact : Fact
  pub at : slice_get facts node ≡ Some fact
  pub path : List ℕ
  pub asked : fact.includes ≡ Some path
  pub is : slice_get paths to ≡ Some path

-- a file reaches itself, and what is reached by a file that it includes
pub data Reaches (paths : List (List ℕ)) (t : Table) : ℕ → ℕ → Type 0 where
  here : (f : ℕ) → f < length t → Reaches paths t f f
  through : (f g h : ℕ) → Includes paths t f g → Reaches paths t g h → Reaches paths t f h

-- one of some files, or the file that runs before each, reaches a file
abbrev pub IsReached : List (List ℕ) → Table → List ℕ → ℕ → Type 0
IsReached paths t es f = (e : ℕ) × Contains es e × Reaches paths t e f

-- Entries from those that are listed: in the order of paths, each file is one that no entry so far reaches.
pub data Completes (paths : List (List ℕ)) (t : Table) : List ℕ → List ℕ → List ℕ → Type 0 where
  done : (es : List ℕ) → Completes paths t es [] es
  reached : (es fs out : List ℕ) (f : ℕ) → IsReached paths t es f → Completes paths t es fs out → Completes paths t es (f ∷ fs) out
  added : (es fs out : List ℕ) (f : ℕ) → ¬ IsReached paths t es f → Completes paths t (es ++ f ∷ []) fs out → Completes paths t es (f ∷ fs) out

-- ---- names that are declared twice

-- functions, classes and constants, which a run declares once
abbrev pub is_declared_once : NameSort → Bool
is_declared_once sort.Function = true
is_declared_once sort.Class = true
is_declared_once sort.Constant = true
is_declared_once s = false

abbrev pub is_same_name : Name → Name → Bool
is_same_name a b = same_sort a.sort b.sort && bytes_eq a.text b.text

-- an entry, and the file that runs before each
abbrev pub with_prepend : ℕ → Option ℕ → List ℕ
with_prepend e None = e ∷ []
with_prepend e (Some p) = e ∷ p ∷ []

-- one run that starts with an entry reaches both files; the file that runs before each entry counts as reached
abbrev pub AreTogether : List (List ℕ) → Table → List ℕ → Option ℕ → ℕ → ℕ → Type 0
AreTogether paths t entries prepend f g =
    (e : ℕ) × Contains entries e × IsReached paths t (with_prepend e prepend) f × IsReached paths t (with_prepend e prepend) g

-- two declarations by their numbers among all, in the order of paths and places, that one run would both begin with
pub record Clash (paths : List (List ℕ)) (t : Table) (entries : List ℕ) (prepend : Option ℕ) (i j : ℕ) : Type 0 where
  pub order : i < j
  pub first : Declaration
  pub second : Declaration
  pub is_first : slice_get (all_declared t) i ≡ Some first
  pub is_second : slice_get (all_declared t) j ≡ Some second
  pub once : is_declared_once first.name.sort ≡ true
  pub same : is_same_name first.name second.name ≡ true
  pub tops : (first.is_top ≡ true) × (second.is_top ≡ true)
  pub together : AreTogether paths t entries prepend first.at.file second.at.file

-- one pair stands before another: by its first declaration, and then by its second
abbrev pub IsBefore : ℕ × ℕ → ℕ × ℕ → Type 0
IsBefore p q = (p.0 < q.0) ⊎ ((p.0 ≡ q.0) × (p.1 < q.1))

-- the pair that comes first
pub record IsFirstClash (paths : List (List ℕ)) (t : Table) (entries : List ℕ) (prepend : Option ℕ) (i j : ℕ) : Type 0 where
  pub is : Clash paths t entries prepend i j
  pub first : (k l : ℕ) → Clash paths t entries prepend k l → ¬ IsBefore (k, l) (i, j)

-- ---- cycles of classes

-- a class of the one name extends one of the other
pub record Extends (t : Table) (class parent : List ℕ) : Type 0 where
  pub at : NodeRef
  pub fact : Fact
  pub is : fact_at t at ≡ Some fact
  pub declares : Contains fact.declares (record { sort = sort.Class; text = class })
  pub extends : Contains fact.extends parent

-- each name extends the next, and the last one this name
abbrev pub ExtendsTo : Table → List ℕ → List ℕ → List (List ℕ) → Type 0
ExtendsTo t end name [] = Extends t name end
ExtendsTo t end name (next ∷ more) = Extends t name next × ExtendsTo t end next more

-- a name stands before each of some, byte by byte
abbrev pub IsLeast : List ℕ → List (List ℕ) → Type 0
IsLeast name [] = Unit {0}
IsLeast name (n ∷ ns) = (slice_cmp nat_cmp name n ≡ Less) × IsLeast name ns

abbrev pub AreApart : List (List ℕ) → Type 0
AreApart [] = Unit {0}
AreApart (n ∷ ns) = (¬ Contains ns n) × AreApart ns

-- A cycle of classes that has no name twice, written from its least name on.
abbrev pub IsCycle : Table → List (List ℕ) → Type 0
IsCycle t [] = ⊥
IsCycle t (n ∷ ns) = IsLeast n ns × AreApart ns × ExtendsTo t n n ns

-- the cycle that comes first in the order of dictionaries
pub record IsFirstCycle (t : Table) (names : List (List ℕ)) : Type 0 where
  pub is : IsCycle t names
  pub first : (other : List (List ℕ)) → IsCycle t other → ¬ (slice_cmp (slice_cmp nat_cmp) other names ≡ Less)
