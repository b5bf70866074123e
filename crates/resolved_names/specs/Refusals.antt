-- The refusals, one after another.
use Rattle.std.specs.Prelude.{◌≡◌, ℕ, List, Option, Some}
use Rattle.file_declarations.specs.declared.node_ref.NodeRef.{NodeRef}
use Rattle.program_names.specs.Table.{Table, IsFirstClash, IsFirstCycle}
use Rattle.resolved_names.specs.declared.names_fault.NamesFault.{NamesFault}
use Rattle.resolved_names.specs.declared.names_fault.NamesFault.TheVariants.{Twice, Cycle, NoFile, Memory}

-- this path is absent, or memory was wanting
abbrev pub IsNoFile : Option (List ℕ) → NamesFault → Type 0
IsNoFile path (NoFile p) = path ≡ Some p
IsNoFile path (Twice name first second) = ⊥
IsNoFile path (Cycle classes) = ⊥
IsNoFile path Memory = Unit {0}

-- the first clash, by its name and its two nodes
pub record IsClash (paths : List (List ℕ)) (t : Table) (es : List ℕ) (p : Option ℕ) (name : List ℕ) (first second : NodeRef) : Type 0 where
  pub i : ℕ
  pub j : ℕ
  pub clash : IsFirstClash paths t es p i j
  pub name_is : clash.is.first.name.text ≡ name
  pub first_is : clash.is.first.at ≡ first
  pub second_is : clash.is.second.at ≡ second

-- this is the first clash, or memory was wanting
abbrev pub IsClashFault : List (List ℕ) → Table → List ℕ → Option ℕ → NamesFault → Type 0
IsClashFault paths t es p (NoFile path) = ⊥
IsClashFault paths t es p (Twice name first second) = IsClash paths t es p name first second
IsClashFault paths t es p (Cycle classes) = ⊥
IsClashFault paths t es p Memory = Unit {0}

-- this is the first cycle, or memory was wanting
abbrev pub IsCycleFault : Table → NamesFault → Type 0
IsCycleFault t (NoFile path) = ⊥
IsCycleFault t (Twice name first second) = ⊥
IsCycleFault t (Cycle classes) = IsFirstCycle t classes.items
IsCycleFault t Memory = Unit {0}
