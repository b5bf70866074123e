-- Rewritten programs keep their meaning.
use Rattle.std.proofs.Common.{ℕ, zero, suc, List, [], ◌∷◌, All, arith}
use Rattle.php_tree.specs.Tree.{File}
use Rattle.php_tree.specs.declared.version.Version.TheVariants.{V74}
use Rattle.php_shapes.specs.Shapes.{Shape}
use Rattle.php_meaning.specs.runs.World.{Bytes}
use Rattle.php_meaning.proofs.Silent.{inside_is_covered}
use Rattle.rule_tables.specs.SettingsView.{SettingsView}
use Rattle.syntax_rules.specs.NestedTernary.{program}
use Rattle.syntax_upgrade.specs.RulesOn.{rules_in}
use Rattle.rewriting_keeps.specs.Laws.{NamesAreDirect}
use Rattle.rewriting_keeps.proofs.DirectNames.{read_names_are_direct}
use Rattle.rewriting_keeps.proofs.Kept.{shaped_files_keep_meaning}
use Rattle.io_ports.specs.Files as ports
use Rattle.upgrade_core.specs.Files.{Trees}
use Rattle.upgrade_core.specs.Meaning.{MeansTheSame, MeaningStays, all_rewritten}
use Rattle.upgrade_core.specs.Trees.{AreRead}
use Rattle.upgrade_core.proofs.Refusals.{shaped}

-- one more of which something holds
all_more : {X : Type 0} (P : X → Type 0) (x : X) (xs : List X) → P x → All P xs → All P (x ∷ xs)
all_more P x xs h rest = λ k d below. by k d below
  where
    by : All P (x ∷ xs)
    by zero d below = h
    by (suc k) d below = rest k d (omega (arith, below))

are_shaped : (files : List ports.File) (trees : Trees) → AreRead files trees → All (λ f. Shape V74 f.1) trees
are_shaped [] [] r = λ k d below. absurd (omega (arith, below))
are_shaped [] (t ∷ ts) r = absurd r
are_shaped (f ∷ fs) [] r = absurd r
are_shaped (f ∷ fs) (t ∷ ts) r =
    all_more (λ (g : Bytes × File). Shape V74 g.1) t ts (shaped f.1 t.1 r.0.1) (are_shaped fs ts r.1)

are_direct : (files : List ports.File) (trees : Trees) → AreRead files trees → All (λ f. NamesAreDirect f.1.statements) trees
are_direct [] [] r = λ k d below. absurd (omega (arith, below))
are_direct [] (t ∷ ts) r = absurd r
are_direct (f ∷ fs) [] r = absurd r
are_direct (f ∷ fs) (t ∷ ts) r =
    all_more (λ (g : Bytes × File). NamesAreDirect g.1.statements) t ts (read_names_are_direct f.1 t.1 r.0.1) (are_direct fs ts r.1)

means_the_same : (s : SettingsView) (trees : Trees) → All (λ f. Shape V74 f.1) trees
    → All (λ f. NamesAreDirect f.1.statements) trees → MeansTheSame s trees
means_the_same s trees h d =
    record {
      meaning = λ marks. shaped_files_keep_meaning (rules_in s) trees s.prepend marks h d;
      runs = λ asks marks. inside_is_covered (program trees s.prepend) (program (all_rewritten s trees) s.prepend) marks asks
          (shaped_files_keep_meaning (rules_in s) trees s.prepend marks h d);
    }

pub meaning_stays : (s : SettingsView) (files : List ports.File) → MeaningStays s files
meaning_stays s files trees r = means_the_same s trees (are_shaped files trees r) (are_direct files trees r)
