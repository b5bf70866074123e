-- The headline: what stands after all was done, and what it does in 8.3.
use Rattle.std.specs.Prelude.{◌≡◌, ℕ, List, [], ◌∷◌, ◌++◌, length, Option, Some, None, IfSome, Ok}
use Rattle.command_words.specs.Words.{Asked}
use Rattle.span_edits.specs.EditList.{AreApart}
use Rattle.span_edits.specs.Splice.{spliced}
use Rattle.php_tree.specs.Tree.{File, file_printed}
use Rattle.php_tree.specs.declared.version.Version.TheVariants.{V74, V83}
use Rattle.php_reading.specs.Reading.{Reads}
use Rattle.rule_tables.specs.SettingsView.{SettingsView}
use Rattle.written_reading.specs.Laws.{IsRead}
use Rattle.io_ports.specs.Files as ports
use Rattle.io_ports.specs.Files.{content}
use Rattle.upgrade_core.specs.Files.{Trees}
use Rattle.upgrade_core.specs.Meaning.{MeansTheSame}
use Rattle.upgrade_core.specs.Upgrade.{edits, rewritten, reports}
use Rattle.upgrade_cli.specs.declared.stop.Status.{Status}
use Rattle.upgrade_cli.specs.Lines.{summary_line}
use Rattle.upgrade_cli.specs.Outcome.{Through, name_of, writes, planned_files, with_written, counts}
use Rattle.upgrade_cli.specs.Run.{status_of}

-- 8.3 reads in what is written exactly the rewritten tree, and no other, where the source has no report.
abbrev pub ReadsBack : SettingsView → File → Type 0
ReadsBack settings tree =
    reports settings tree ≡ [] → IsRead V83 (rewritten settings tree)

-- What is written of a file's bytes, which 7.4 reads as this tree by all of its tokens and all of its grammar: the rewritten
-- tree, printed. It is the bytes with the file's edits made, and the edits stand apart within them: each other byte stays.
pub record IsWritten (settings : SettingsView) (bytes : List ℕ) (tree : File) (out : List ℕ) : Type 0 where
  pub source : Reads V74 bytes tree
  pub printed : out ≡ file_printed (rewritten settings tree)
  pub spliced_in : out ≡ spliced bytes (edits settings tree)
  pub apart : AreApart 0 (edits settings tree) (length bytes)
  pub reads_back : ReadsBack settings tree

-- the files of a program, one by one: by its path, each tree is that of the file, and these bytes are written of it
abbrev pub AreWritten : SettingsView → List ports.File → Trees → List ports.File → Type 0
AreWritten settings [] [] [] = Unit {0}
AreWritten settings (f ∷ fs) (t ∷ ts) (w ∷ ws) =
    (t.0 ≡ f.0) × (w.0 ≡ f.0) × IsWritten settings f.1 t.1 w.1 × AreWritten settings fs ts ws
AreWritten settings files trees written = ⊥

-- Nothing is refused: the settings are those of their file, and all sources have these trees in 7.4. The target holds what is
-- written of them, and its other files, or with `check` what it held. The line has the counts, and the status is 2 exactly
-- where a report stops the claim. The rewritten trees do in 8.3 what the sources do in 7.4.
pub record Headline
    (asked : Asked) (stored files before : List ports.File) (after : Option (List ports.File))
    (held held' : Option (List ℕ)) (result : Status) : Type 0 where
  pub through : Through (content (name_of asked) stored) files
  pub written : AreWritten through.settings files through.trees (planned_files through)
  pub target : after ≡ Some (with_written (writes asked) (planned_files through) before)
  pub line : IfSome held (λ old. held' ≡ Some (old ++ summary_line (counts through.settings through.trees)))
  pub status : result ≡ status_of (Ok (counts through.settings through.trees))
  pub means_the_same : MeansTheSame through.settings through.trees
