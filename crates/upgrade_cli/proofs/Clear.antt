-- Files without a report: 8.3 reads what is written of them.
use Rattle.std.proofs.Common.{◌≡◌, ℕ, List, [], ◌∷◌, ◌++◌, sym, subst, refl}
use Rattle.php_tree.specs.declared.version.Version.TheVariants.{V74, V83}
use Rattle.php_tree.specs.Tree.{File}
use Rattle.php_reading.specs.Reading.{Reads}
use Rattle.rule_tables.specs.SettingsView.{SettingsView}
use Rattle.syntax_upgrade.specs.OffPlaces.{off_reports}
use Rattle.syntax_upgrade.specs.Reports.{reports}
use Rattle.syntax_upgrade.specs.RulesOn.{rules_in}
use Rattle.written_reading.specs.Laws.{IsRead}
use Rattle.written_reading.specs.edited.Laws.{WrittenFilesAreRead}
use Rattle.nothing_reported.proofs.Whole.{nothing_reported}
use Rattle.rules_off.proofs.Files.{rules_off}
use Rattle.upgrade_cli.specs.Headline.{ReadsBack}

-- nothing in front of nothing
both_none : {X : Type 0} (xs ys : List X) → xs ++ ys ≡ [] → (xs ≡ []) × (ys ≡ [])
both_none [] ys e = (refl, e)
both_none (x ∷ xs) ys e = absurd (let no : ⊥ = cc in no)

-- What is written is what all rules write, and that is read.
pub clear_is_read : WrittenFilesAreRead → (s : SettingsView) (bytes : List ℕ) (f : File) → Reads V74 bytes f → ReadsBack s f
clear_is_read written_is_read s bytes f r e =
    let none = both_none (reports f) (off_reports (rules_in s) f) e in
    subst (λ (x : File). IsRead V83 x) (sym (rules_off.same_file (rules_in s) f (rules_off.aside bytes f r) none.1))
    (written_is_read bytes f r (nothing_reported.by_reports bytes f r none.0) (nothing_reported.no_nullsafe f none.0)
    (nothing_reported.no_traits f none.0))
