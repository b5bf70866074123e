-- What the resolution of names answers: names, or the first refusal that stands; a path that no file has comes before a name
-- that is declared twice, and this before a cycle of classes.
use Rattle.std.specs.Prelude.{◌≡◌, ℕ, List, Option, Some, None}
use Rattle.file_declarations.specs.declared.node_ref.NodeRef.{NodeRef}
use Rattle.program_names.specs.Table.{Table, Clash, IsCycle, IsFirstCycle}
use Rattle.program_names.specs.Entries.{absent, AreEntries, IsPrepend}
use Rattle.resolved_names.specs.declared.names.Names.{Names}
use Rattle.resolved_names.specs.declared.names_fault.NamesFault.{NamesFault}
use Rattle.resolved_names.specs.declared.names_fault.NamesFault.TheVariants.{Twice, Cycle, NoFile, Memory}
use Rattle.resolved_names.specs.Reads.{AreNames, entries_of, prepend_of}
use Rattle.resolved_names.specs.Refusals.{IsClash}

-- The files that are asked for are there: these are the entries, and the file before each, by number.
pub record IsAsked (paths : List (List ℕ)) (t : Table) (listed : Option (List (List ℕ))) (prepend : Option (List ℕ)) (es : List ℕ) (p : Option ℕ) : Type 0 where
  pub found : absent paths listed prepend ≡ None
  pub entries : AreEntries paths t listed es
  pub prepended : IsPrepend paths prepend p

-- no run begins with two declarations of one name
abbrev pub IsDeclaredOnce : List (List ℕ) → Table → List ℕ → Option ℕ → Type 0
IsDeclaredOnce paths t es p = (i j : ℕ) → ¬ Clash paths t es p i j

-- no class extends itself
abbrev pub HasNoCycle : Table → Type 0
HasNoCycle t = (classes : List (List ℕ)) → ¬ IsCycle t classes

-- Nothing is refused: the files that are asked for are there, no run begins with two declarations of one name, and no class
-- extends itself.
pub record IsUnrefused (paths : List (List ℕ)) (t : Table) (listed : Option (List (List ℕ))) (prepend : Option (List ℕ)) : Type 0 where
  pub es : List ℕ
  pub p : Option ℕ
  pub asked : IsAsked paths t listed prepend es p
  pub once : IsDeclaredOnce paths t es p
  pub no_cycle : HasNoCycle t

-- nothing is refused, and these are the names
pub record IsResolved (paths : List (List ℕ)) (t : Table) (listed : Option (List (List ℕ))) (prepend : Option (List ℕ)) (ns : Names) : Type 0 where
  pub asked : IsAsked paths t listed prepend (entries_of ns) (prepend_of ns)
  pub once : IsDeclaredOnce paths t (entries_of ns) (prepend_of ns)
  pub no_cycle : HasNoCycle t
  pub names : AreNames ns t

-- the first two declarations of one name that one run begins with
pub record IsTwice (paths : List (List ℕ)) (t : Table) (listed : Option (List (List ℕ))) (prepend : Option (List ℕ)) (name : List ℕ) (first second : NodeRef) : Type 0 where
  pub es : List ℕ
  pub p : Option ℕ
  pub asked : IsAsked paths t listed prepend es p
  pub clash : IsClash paths t es p name first second

-- the first cycle of classes, where no name is declared twice
pub record IsCyclic (paths : List (List ℕ)) (t : Table) (listed : Option (List (List ℕ))) (prepend : Option (List ℕ)) (classes : List (List ℕ)) : Type 0 where
  pub es : List ℕ
  pub p : Option ℕ
  pub asked : IsAsked paths t listed prepend es p
  pub once : IsDeclaredOnce paths t es p
  pub cycle : IsFirstCycle t classes

-- each refusal comes exactly where its cause stands, and none before it
abbrev pub IsNamesFault : List (List ℕ) → Table → Option (List (List ℕ)) → Option (List ℕ) → NamesFault → Type 0
IsNamesFault paths t listed prepend (NoFile path) = absent paths listed prepend ≡ Some path
IsNamesFault paths t listed prepend (Twice name first second) = IsTwice paths t listed prepend name first second
IsNamesFault paths t listed prepend (Cycle classes) = IsCyclic paths t listed prepend classes.items
IsNamesFault paths t listed prepend Memory = Unit {0}

-- the refusals of these entries that come after a path that no file has
abbrev pub IsLaterFault : List (List ℕ) → Table → List ℕ → Option ℕ → NamesFault → Type 0
IsLaterFault paths t es p (NoFile path) = ⊥
IsLaterFault paths t es p (Twice name first second) = IsClash paths t es p name first second
IsLaterFault paths t es p (Cycle classes) = IsDeclaredOnce paths t es p × IsFirstCycle t classes.items
IsLaterFault paths t es p Memory = Unit {0}
