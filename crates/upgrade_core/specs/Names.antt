-- The names of a program's trees: what is refused of them, and where what is told stands.
use Rattle.std.specs.Prelude.{◌≡◌, ℕ, List, [], map, slice_get, Option, Some, None}
use Rattle.php_tree.specs.Ids.{span_at}
use Rattle.php_tree.specs.Tree.{File}
use Rattle.file_declarations.specs.declared.node_ref.NodeRef.{NodeRef}
use Rattle.node_names.specs.Facts.{file_facts}
use Rattle.program_names.specs.Table.{Table}
use Rattle.resolved_names.specs.declared.names_fault.NamesFault.{NamesFault}
use Rattle.resolved_names.specs.declared.names_fault.NamesFault.TheVariants as names
use Rattle.resolved_names.specs.Resolved as resolved
use Rattle.rule_tables.specs.SettingsView.{SettingsView}
use Rattle.upgrade_core.specs.declared.place.Place.{Place}
use Rattle.upgrade_core.specs.Files.{Trees}

-- the paths of the files
abbrev pub paths : Trees → List (List ℕ)
paths trees = map (λ t. t.0) trees

-- what the nodes of each file tell of names
abbrev pub facts : Trees → Table
facts trees = map (λ t. file_facts t.0 t.1.statements) trees

-- The names are refused: an entry or the file before each isn't there, or one run would begin with two declarations of one
-- name, or classes extend one another in a cycle; the first of these.
abbrev pub IsNamesFault : SettingsView → Trees → NamesFault → Type 0
IsNamesFault settings trees names.Memory = ⊥
IsNamesFault settings trees (names.NoFile path) =
    resolved.IsNamesFault (paths trees) (facts trees) settings.entries settings.prepend (names.NoFile path)
IsNamesFault settings trees (names.Twice name first second) =
    resolved.IsNamesFault (paths trees) (facts trees) settings.entries settings.prepend (names.Twice name first second)
IsNamesFault settings trees (names.Cycle classes) =
    resolved.IsNamesFault (paths trees) (facts trees) settings.entries settings.prepend (names.Cycle classes)

-- None of these stands: the files that are asked for are there; however a run may start, it doesn't begin with two
-- declarations of one name; and no class extends itself.
pub record AreClear (paths : List (List ℕ)) (t : Table) (listed : Option (List (List ℕ))) (prepend : Option (List ℕ)) : Type 0 where
  pub entries : List ℕ
  pub first : Option ℕ
  pub asked : resolved.IsAsked paths t listed prepend entries first
  pub once : (es : List ℕ) (p : Option ℕ) → resolved.IsAsked paths t listed prepend es p → resolved.IsDeclaredOnce paths t es p
  pub no_cycle : resolved.HasNoCycle t

abbrev pub AreResolved : SettingsView → Trees → Type 0
AreResolved settings trees = AreClear (paths trees) (facts trees) settings.entries settings.prepend

-- ---- places

-- the byte at which the node with a number begins; 0 where there is no such node
abbrev pub start_in : File → ℕ → ℕ
start_in tree node = elim (span_at tree node) [ None ↦ 0 | Some span ↦ span.0 ]

abbrev pub place : List ℕ → ℕ → Place
place path start = record { path = path; start = start }

-- where a node stands: the path of its file, and the byte at which it begins
abbrev pub place_at : Trees → NodeRef → Place
place_at trees at = elim (slice_get trees at.file) [ None ↦ place [] 0 | Some t ↦ place t.0 (start_in t.1 at.node) ]
