use Rattle.php_rows.specs.File.{file_in}
use Rattle.upgrade_core.proofs.Refusals.{shaped}
use Rattle.upgrade_core.proofs.upgraded.upgrade_tree.Goals as goal

pub upgraded-requires : goal.upgraded-requires
upgraded-requires c = record {
  quotable = c.quoted_texts_are_walked.ensures (file_in c.args.tree.now) (shaped c.requires.0 (file_in c.args.tree.now) c.requires.1);
}
