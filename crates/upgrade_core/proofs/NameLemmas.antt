-- Names of rows are those of their trees.
use Rattle.std.proofs.Common.{◌≡◌, ℕ, List, [], ◌∷◌, length, map, take, slice_range, ◌+◌, ◌-◌, ◌<◌, refl, ap, sym, ◌∙◌, subst, arith}
use Rattle.std.specs.Prelude.{Option, Err}
use Rattle.std.proofs.lemmas.List.{length-map, length-take-le}
use Rattle.php_tree.specs.Tree.{leaves}
use Rattle.php_terminals.specs.Marked.{token_at}
use Rattle.php_rows.specs.declared.file.RowTree.{RowTree}
use Rattle.php_rows.specs.File.{file_in, tokens_of}
use Rattle.php_rows.proofs.Leaves.{leaves_read}
use Rattle.node_names.specs.Facts.{file_facts}
use Rattle.program_names.specs.Entries.{paths_of}
use Rattle.program_names.specs.Table.{Table, table_of}
use Rattle.resolved_names.specs.declared.names_fault.NamesFault.{NamesFault}
use Rattle.resolved_names.specs.declared.names_fault.NamesFault.TheVariants as names
use Rattle.resolved_names.specs.Resolved as resolved
use Rattle.rule_tables.specs.SettingsView.{SettingsView}
use Rattle.upgrade_core.specs.Files.{Trees}
use Rattle.upgrade_core.specs.Named.{refused, IsResolving}
use Rattle.upgrade_core.specs.Names.{paths, facts, AreClear, AreResolved}
use Rattle.upgrade_core.specs.Rows.{Rows, trees_of}

pub paths_are : (rows : Rows) → paths_of rows ≡ paths (trees_of rows)
paths_are [] = refl
paths_are (row ∷ rows) = ap (λ (ps : List (List ℕ)). row.0 ∷ ps) (paths_are rows)

pub facts_are : (rows : Rows) → table_of rows ≡ facts (trees_of rows)
facts_are [] = refl
facts_are (row ∷ rows) = ap (λ (t : Table). file_facts row.0 (file_in row.1).statements ∷ t) (facts_are rows)

-- what is said of the files is said of the trees
module _ (settings : SettingsView) (trees : Trees) (ps : List (List ℕ)) (t : Table) (listed : Option (List (List ℕ))) (prepend : Option (List ℕ))
    (ps_are : ps ≡ paths trees) (t_is : t ≡ facts trees) (listed_are : listed ≡ settings.entries) (prepend_is : prepend ≡ settings.prepend) where
  pub clear_are : AreClear ps t listed prepend → AreResolved settings trees
  clear_are h =
      subst (λ (x : List (List ℕ)). AreClear x (facts trees) settings.entries settings.prepend) ps_are
      (subst (λ (x : Table). AreClear ps x settings.entries settings.prepend) t_is
      (subst (λ (x : Option (List (List ℕ))). AreClear ps t x settings.prepend) listed_are
      (subst (λ (x : Option (List ℕ)). AreClear ps t listed x) prepend_is h)))

  moved : (fault : NamesFault) → resolved.IsNamesFault ps t listed prepend fault
      → resolved.IsNamesFault (paths trees) (facts trees) settings.entries settings.prepend fault
  moved fault h =
      subst (λ (x : List (List ℕ)). resolved.IsNamesFault x (facts trees) settings.entries settings.prepend fault) ps_are
      (subst (λ (x : Table). resolved.IsNamesFault ps x settings.entries settings.prepend fault) t_is
      (subst (λ (x : Option (List (List ℕ))). resolved.IsNamesFault ps t x settings.prepend fault) listed_are
      (subst (λ (x : Option (List ℕ)). resolved.IsNamesFault ps t listed x fault) prepend_is h)))

  pub refused_is : (fault : NamesFault) → resolved.IsNamesFault ps t listed prepend fault
      → IsResolving settings trees (Err (refused fault))
  refused_is (names.NoFile path) h = moved (names.NoFile path) h
  refused_is (names.Twice name first second) h = moved (names.Twice name first second) h
  refused_is (names.Cycle classes) h = moved (names.Cycle classes) h
  refused_is names.Memory h = tt

-- a file's tokens are those of its nodes, and the one at its end
pub tokens_counted : (r : RowTree) → length r.marks.items ≡ length (leaves (file_in r).statements) + 1
tokens_counted r =
    let n = length r.marks.items - 1 in
    let some : 0 < length r.marks.items = r.ended in
    let many : length (tokens_of r) ≡ length r.marks.items = length-map r.marks.items (token_at r.bytes.items) in
    let leaved = ap length (leaves_read (length r.nodes.items) 0 n r.nodes.items (tokens_of r) r.nested) in
    let taken : length (take n (tokens_of r)) ≡ n = length-take-le n (tokens_of r) (omega arith) in
    let whole : length (slice_range (tokens_of r) 0 n) ≡ length (take n (tokens_of r)) = ap (λ k. length (take k (tokens_of r))) (sub_zero n) in
    let all : length (leaves (file_in r).statements) ≡ n = leaved ∙ whole ∙ taken in
    omega arith
  where
    sub_zero : (k : ℕ) → k - 0 ≡ k
    sub_zero k = omega arith
