-- What is made of the trees of a program, file by file.
use Rattle.std.specs.Prelude.{◌≡◌, ◌++◌, ◌+◌, ℕ, List, [], ◌∷◌, length, map, count_by}
use Rattle.std.specs.List.Sorted.{IsNonDecreasingBy, IsPermutation}
use Rattle.io_ports.specs.declared.report.Report.{Report}
use Rattle.php_tree.specs.Tree.{File, file_printed}
use Rattle.rule_tables.specs.SettingsView.{SettingsView}
use Rattle.syntax_upgrade.specs.declared.whole.Upgrade.{Upgrade}
use Rattle.syntax_upgrade.specs.Found as found
use Rattle.upgrade_core.specs.declared.upgraded.Upgraded.{Upgraded}
use Rattle.upgrade_core.specs.Files.{file_of, Trees}
use Rattle.upgrade_core.specs.Upgrade.{rewritten, edits, reports, stops, AreReportsOf, written, edits_in_all, stops_in_all, AreReported}

-- one file
pub record IsOfTree (settings : SettingsView) (t : File) (u : Upgrade) : Type 0 where
  pub bytes_are : u.bytes.items ≡ file_printed (rewritten settings t)
  pub edits_are : u.edits ≡ length (edits settings t)
  pub reports_are : IsPermutation (reports settings t) (map found.found_of u.reports.items)
  pub ordered : IsNonDecreasingBy found.order_of u.reports.items

-- of no files
pub record IsNothing (u : Upgraded) : Type 0 where
  pub files : u.files.items ≡ []
  pub edits : u.edits ≡ 0
  pub reports : u.reports.items ≡ []
  pub stops : u.stops ≡ 0

-- reports of some places, put behind others
pub record AreAdded (path : List ℕ) (places : List found.Report) (old new : List Report) : Type 0 where
  pub own : List Report
  pub are : new ≡ old ++ own
  pub of : AreReportsOf path places own

-- a file, put behind the others
pub record IsAdded (path : List ℕ) (one : Upgrade) (old new : Upgraded) : Type 0 where
  pub files : map file_of new.files.items ≡ map file_of old.files.items ++ (path, one.bytes.items) ∷ []
  pub edits : new.edits ≡ old.edits + one.edits
  pub reports : AreAdded path (map found.found_of one.reports.items) old.reports.items new.reports.items
  pub stops : new.stops ≡ old.stops + count_by (λ x. stops (found.found_of x).weight) one.reports.items

-- all files
pub record IsOf (settings : SettingsView) (trees : Trees) (u : Upgraded) : Type 0 where
  pub files : map file_of u.files.items ≡ written settings trees
  pub edits : u.edits ≡ edits_in_all settings trees
  pub reports : AreReported settings trees u.reports.items
  pub stops : u.stops ≡ stops_in_all settings trees
