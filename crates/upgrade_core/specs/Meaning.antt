-- What a program does in 8.3 once it is rewritten.
use Rattle.std.specs.Prelude.{List, map, All, IsTrue}
use Rattle.io_ports.specs.Files as ports
use Rattle.php_meaning.specs.runs.Run.{Mark}
use Rattle.php_meaning.specs.laws.Laws.{KeepsMeaning, KeepsRuns}
use Rattle.php_meaning.specs.laws.Asking.{asks_nothing}
use Rattle.rule_tables.specs.SettingsView.{SettingsView}
use Rattle.syntax_rules.specs.NestedTernary.{program}
use Rattle.upgrade_core.specs.Files.{Trees}
use Rattle.upgrade_core.specs.Trees.{AreRead}
use Rattle.upgrade_core.specs.Upgrade.{rewritten}

-- the same files, rewritten
abbrev pub all_rewritten : SettingsView → Trees → Trees
all_rewritten settings trees = map (λ t. (t.0, rewritten settings t.1)) trees

-- From every entry, on every input and for every bound, the rewritten files' 8.3 run has the echo and the end of the files'
-- 7.4 run, wherever that one stays inside the profile and asks at no point where the versions differ. It is so whichever places are
-- marked as ends of the 7.4 run, and so with no mark: a place that is reported is run like any other. Each run starts with the
-- file that the settings name for it. Files without an operator that may ask need not meet the last premise.
pub record MeansTheSame (settings : SettingsView) (trees : Trees) : Type 0 where
  pub meaning : (marks : List Mark) → KeepsMeaning (program trees settings.prepend) marks
      (program (all_rewritten settings trees) settings.prepend)
  pub runs : All (λ f. IsTrue (asks_nothing f.1)) (program trees settings.prepend).files
      → (marks : List Mark) → KeepsRuns (program trees settings.prepend) marks
      (program (all_rewritten settings trees) settings.prepend)

-- the same of the trees that 7.4 reads in some files, where it reads some in all of them
abbrev pub MeaningStays : SettingsView → List ports.File → Type 0
MeaningStays settings files = (trees : Trees) → AreRead files trees → MeansTheSame settings trees
