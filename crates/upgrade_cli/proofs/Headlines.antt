-- From what a run did to the headline.
use Rattle.std.proofs.Common.{◌≡◌, ℕ, zero, suc, List, [], ◌∷◌, ◌++◌, length, map, All, refl, ap, sym, ◌∙◌, subst, arith}
use Rattle.std.specs.Prelude.{Option, Some, None, IfSome, Result, Ok, Err}
use Rattle.command_words.specs.Words.{Asked}
use Rattle.span_edits.specs.EditList.{AreApart}
use Rattle.span_edits.specs.Splice.{spliced}
use Rattle.php_tree.specs.Tree.{File, file_printed}
use Rattle.php_tree.specs.declared.version.Version.TheVariants.{V74}
use Rattle.php_reading.specs.Reading.{Reads}
use Rattle.php_reading.proofs.Trees.{is_printed}
use Rattle.rule_tables.specs.SettingsView.{SettingsView}
use Rattle.tracked_changes.proofs.Splicing.{edits_are_apart}
use Rattle.syntax_rules.specs.Rewritten.{patches_by, draft_by}
use Rattle.syntax_upgrade.specs.RulesOn.{rules_in}
use Rattle.syntax_rules.proofs.TogetherKeeps.{syntax_is_rewritten}
use Rattle.syntax_upgrade.proofs.NextEdit.{makes_rewritten_by}
use Rattle.written_reading.specs.edited.Laws.{WrittenFilesAreRead}
use Rattle.io_ports.specs.Files as ports
use Rattle.io_ports.specs.Files.{content}
use Rattle.report_handing.specs.Sinks.{Sinks}
use Rattle.upgrade_core.proofs.MeaningLemmas.{meaning_stays}
use Rattle.upgrade_core.specs.Files.{Trees}
use Rattle.upgrade_core.specs.Trees.{AreRead}
use Rattle.upgrade_core.specs.Upgrade.{edits, rewritten, written}
use Rattle.upgrade_cli.specs.declared.stop.Status.{Status}
use Rattle.upgrade_cli.specs.declared.stop.Status.TheVariants as status
use Rattle.upgrade_cli.specs.declared.stop.Stop.{Stop}
use Rattle.upgrade_cli.specs.declared.stop.Stop.TheVariants as stop
use Rattle.upgrade_cli.specs.declared.stop.Summary.{Summary}
use Rattle.upgrade_cli.specs.Lines.{summary_line}
use Rattle.upgrade_cli.specs.Outcome.{name_of, writes, counts, TargetLeft, planned_files, with_written}
use Rattle.upgrade_cli.specs.Run.{of_stop, status_of, Answers, AllDone, LinePut}
use Rattle.upgrade_cli.specs.Whole.{IsDoing}
use Rattle.upgrade_cli.specs.Headline.{Headline, IsWritten, AreWritten}
use Rattle.upgrade_cli.proofs.Clear.{clear_is_read}

-- ---- what is written

edits_apart : (s : SettingsView) (t : File) → AreApart 0 (edits s t) (length (file_printed t))
edits_apart s t =
    subst (λ (bs : List ℕ). AreApart 0 (edits s t) (length bs))
    (syntax_is_rewritten.bytes (record { wraps = patches_by (rules_in s) t.statements; rules = rules_in s }) t)
    (edits_are_apart (draft_by (rules_in s) t))

file_written : WrittenFilesAreRead → (s : SettingsView) (bytes : List ℕ) (t : File) → Reads V74 bytes t
    → IsWritten s bytes t (file_printed (rewritten s t))
file_written law s bytes t r = record {
  source = r;
  printed = refl;
  spliced_in = sym (makes_rewritten_by (rules_in s) t) ∙ ap (λ bs. spliced bs (edits s t)) (is_printed V74 bytes t r);
  apart = subst (λ (bs : List ℕ). AreApart 0 (edits s t) (length bs)) (is_printed V74 bytes t r) (edits_apart s t);
  reads_back = clear_is_read law s bytes t r;
}

are_written : WrittenFilesAreRead → (s : SettingsView) (files : List ports.File) (trees : Trees) → AreRead files trees
    → AreWritten s files trees (written s trees)
are_written law s [] [] r = tt
are_written law s [] (t ∷ ts) r = absurd r
are_written law s (f ∷ fs) [] r = absurd r
are_written law s (f ∷ fs) (t ∷ ts) r = (r.0.0, r.0.0, file_written law s f.1 t.1 r.0.1, are_written law s fs ts r.1)

-- ---- all of it

module _ (law : WrittenFilesAreRead) (asked : Asked) (stored files before : List ports.File) (after : Option (List ports.File))
    (held held' : Option (List ℕ)) (result : Status) where
  -- all was done, and the line was put
  done_headline : (s : Summary) → TargetLeft (writes asked) (content (name_of asked) stored) files (Ok s) before after
      → result ≡ status_of (Ok s) → IfSome held (λ old. held' ≡ Some (old ++ summary_line s))
      → Headline asked stored files before after held held' result
  done_headline s t e l = record {
    through = t.0;
    written = are_written law t.0.settings files t.0.trees t.0.clear.read;
    target = t.2;
    line = line_of held l;
    status = e ∙ ap (λ (x : Summary). status_of (Ok x)) t.1;
    means_the_same = meaning_stays t.0.settings files t.0.trees t.0.clear.read;
  }
    where
      line_of : (h : Option (List ℕ)) → IfSome h (λ old. held' ≡ Some (old ++ summary_line s))
          → IfSome h (λ old. held' ≡ Some (old ++ summary_line (counts t.0.settings t.0.trees)))
      line_of None x = tt
      line_of (Some old) x = x ∙ ap (λ (n : Summary). Some (old ++ summary_line n)) t.1

not_done : (e : Stop) → AllDone (of_stop e) → ⊥
not_done stop.Usage h = h
not_done (stop.Limit l) h = h
not_done stop.NoSettings h = h
not_done (stop.Settings fault) h = h
not_done (stop.Source path) h = h
not_done (stop.Names fault) h = h
not_done stop.SourceFault h = h
not_done stop.SinkFault h = h
not_done stop.TargetFault h = h
not_done stop.Memory h = h

-- the line of what was done
line_done : (result : Status) (came : Result Summary Stop) (held held' : Option (List ℕ)) (o o' : ℕ) → AllDone result
    → IfSome held (λ old. LinePut result came old held' o o') → (s : Summary) → came ≡ Ok s
    → IfSome held (λ old. held' ≡ Some (old ++ summary_line s))
line_done result came None held' o o' a l s e = tt
line_done status.Done came (Some old) held' o o' a l s e =
    subst (λ (x : Result Summary Stop). LinePut status.Done x old held' o o') e l
line_done status.Reported came (Some old) held' o o' a l s e =
    subst (λ (x : Result Summary Stop). LinePut status.Reported x old held' o o') e l
line_done status.Usage came (Some old) held' o o' a l s e = absurd a
line_done status.Source came (Some old) held' o o' a l s e = absurd a
line_done status.Settings came (Some old) held' o o' a l s e = absurd a
line_done status.Names came (Some old) held' o o' a l s e = absurd a
line_done status.Limit came (Some old) held' o o' a l s e = absurd a
line_done status.Fault came (Some old) held' o o' a l s e = absurd a
line_done status.Memory came (Some old) held' o o' a l s e = absurd a

-- the status where all was done is the one that is wanted
wanted : (result w : Status) → AllDone result → Answers result w → result ≡ w
wanted status.Done w a h = h
wanted status.Reported w a h = h
wanted status.Usage w a h = absurd a
wanted status.Source w a h = absurd a
wanted status.Settings w a h = absurd a
wanted status.Names w a h = absurd a
wanted status.Limit w a h = absurd a
wanted status.Fault w a h = absurd a
wanted status.Memory w a h = absurd a

came_headline : WrittenFilesAreRead → (asked : Asked) (stored files before : List ports.File) (after : Option (List ports.File))
    (held held' : Option (List ℕ)) (came : Result Summary Stop) (result : Status)
    → TargetLeft (writes asked) (content (name_of asked) stored) files came before after → AllDone result → result ≡ status_of came
    → ((s : Summary) → came ≡ Ok s → IfSome held (λ old. held' ≡ Some (old ++ summary_line s)))
    → Headline asked stored files before after held held' result
came_headline law asked stored files before after held held' (Ok s) result t a e l =
    done_headline law asked stored files before after held held' result s t e (l s refl)
came_headline law asked stored files before after held held' (Err x) result t a e l =
    absurd (not_done x (subst (λ (y : Status). AllDone y) e a))

-- what a run came to, where all was done
pub run_headline : WrittenFilesAreRead → (a : Option Asked) (ss fs ds after : Option (List ports.File)) (old new : Sinks)
    (held held' : Option (List ℕ)) (o o' : ℕ) (came : Result Summary Stop) (result : Status)
    → IfSome a (λ x. IfSome ss (λ st. IfSome fs (λ f. IsDoing x st f came old new ds after)))
    → Answers result (status_of came) → IfSome held (λ h. LinePut result came h held' o o')
    → IfSome a (λ x. IfSome ss (λ st. IfSome fs (λ f. IfSome ds (λ d. AllDone result → Headline x st f d after held held' result))))
run_headline law None ss fs ds after old new held held' o o' came result told answer line = tt
run_headline law (Some x) None fs ds after old new held held' o o' came result told answer line = tt
run_headline law (Some x) (Some st) None ds after old new held held' o o' came result told answer line = tt
run_headline law (Some x) (Some st) (Some f) None after old new held held' o o' came result told answer line = tt
run_headline law (Some x) (Some st) (Some f) (Some d) after old new held held' o o' came result told answer line =
    λ a. came_headline law x st f d after held held' came result told.target a (wanted result (status_of came) a answer)
    (line_done result came held held' o o' a line)
