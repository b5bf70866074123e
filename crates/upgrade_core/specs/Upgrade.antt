-- What an upgrade makes of the trees of a program, by its settings.
use Rattle.std.specs.Prelude.{◌≡◌, ◌==◌, ◌*◌, ◌^◌, ℕ, ◌+◌, Bool, true, false, List, [], ◌∷◌, ◌++◌, length, map, count_by, sum_by}
use Rattle.std.specs.List.Sorted.{IsNonDecreasingBy, IsPermutation}
use Rattle.io_ports.specs.Files as ports
use Rattle.io_ports.specs.declared.report.Report.{Report}
use Rattle.io_ports.specs.declared.report.Weight.{Weight}
use Rattle.io_ports.specs.declared.report.Weight.TheVariants as weight
use Rattle.php_tree.specs.Tree.{File, file_printed}
use Rattle.rule_tables.specs.SettingsView.{SettingsView}
use Rattle.rule_tables.specs.Causes.{cause_number}
use Rattle.span_edits.specs.declared.edit.Edit.{Edit}
use Rattle.syntax_rules.specs.Rewritten as rules
use Rattle.syntax_upgrade.specs.Found as found
use Rattle.syntax_upgrade.specs.Reports as reporting
use Rattle.syntax_upgrade.specs.RulesOn.{rules_in}
use Rattle.upgrade_core.specs.Files.{Trees}

-- ---- one file, by the rules that the settings leave on

-- its tree for 8.3
abbrev pub rewritten : SettingsView → File → File
rewritten settings t = rules.rewritten_by (rules_in settings) t

-- the edits that make it
abbrev pub edits : SettingsView → File → List Edit
edits settings t = rules.edits_by (rules_in settings) t

-- what is reported of it: its undecided places, and those that rules which are off would edit
abbrev pub reports : SettingsView → File → List found.Report
reports settings t = reporting.reports_by (rules_in settings) t

-- ---- reports, as sinks take them

-- a report of a place in the file of a path
pub record IsReportOf (path : List ℕ) (place : found.Report) (r : Report) : Type 0 where
  pub file : r.path ≡ path
  pub start : r.span.start ≡ place.start
  pub end : r.span.end ≡ place.end
  pub code : r.code ≡ place.code
  pub cause : r.cause ≡ cause_number place.cause
  pub weight : r.weight ≡ place.weight

-- the reports of some places, one by one
abbrev pub AreReportsOf : List ℕ → List found.Report → List Report → Type 0
AreReportsOf path [] [] = Unit {0}
AreReportsOf path (place ∷ places) (r ∷ rs) = IsReportOf path place r × AreReportsOf path places rs
AreReportsOf path places rs = ⊥

-- A number by which the reports of a file are in order of start, then end, then code: each end is below 2^32, and each code
-- below 2^16.
abbrev pub order_of : Report → ℕ
order_of r = r.span.start * 2 ^ 32 * 2 ^ 16 + r.span.end * 2 ^ 16 + r.code

-- the reports of a file, in order
pub record AreOf (settings : SettingsView) (tree : List ℕ × File) (own : List Report) : Type 0 where
  pub found : List found.Report
  pub all : IsPermutation (reports settings tree.1) found
  pub are : AreReportsOf tree.0 found own
  pub ordered : IsNonDecreasingBy order_of own

-- the reports of all files: those of one behind those of another, in the order of the files
abbrev pub AreReported : SettingsView → Trees → List Report → Type 0
AreReported settings [] rs = rs ≡ []
AreReported settings (t ∷ ts) rs =
    (own : List Report) × (more : List Report) × (rs ≡ own ++ more) × AreOf settings t own × AreReported settings ts more

-- whether a report is one after which nothing is claimed
abbrev pub stops : Weight → Bool
stops weight.Note = false
stops weight.Stop = true
stops weight.Compile = true

-- ---- all files

-- the files for 8.3, by their paths
abbrev pub written : SettingsView → Trees → List ports.File
written settings trees = map (λ t. (t.0, file_printed (rewritten settings t.1))) trees

abbrev pub edits_in_all : SettingsView → Trees → ℕ
edits_in_all settings trees = sum_by (λ t. length (edits settings t.1)) trees

abbrev pub reports_in_all : SettingsView → Trees → ℕ
reports_in_all settings trees = sum_by (λ t. length (reports settings t.1)) trees

-- how many of the reports are such
abbrev pub stops_in_all : SettingsView → Trees → ℕ
stops_in_all settings trees = sum_by (λ t. count_by (λ r. stops r.weight) (reports settings t.1)) trees
