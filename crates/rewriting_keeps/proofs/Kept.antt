-- Files with the shape of the grammar keep their meaning.
use Rattle.std.proofs.Common.{List, All}
use Rattle.php_tree.specs.declared.version.Version.TheVariants.{V74}
use Rattle.php_tree.specs.Tree.{File}
use Rattle.php_shapes.specs.Shapes.{Shape}
use Rattle.php_meaning.specs.runs.World.{Bytes}
use Rattle.syntax_rules.specs.Keeps.{AreFormed}
use Rattle.syntax_rules.proofs.Kept.{rewriting_keeps_meaning}
use Rattle.rewriting_keeps.specs.Laws.{NamesAreDirect, ShapedFilesKeepMeaning}
use Rattle.rewriting_keeps.proofs.Formed.{shaped_files_are_formed}

all_formed : (files : List (Bytes × File)) → All (λ f. Shape V74 f.1) files → All (λ f. NamesAreDirect f.1.statements) files
    → All (λ f. AreFormed f.1.statements) files
all_formed files h d = λ k e below. shaped_files_are_formed _ (h k e below) (d k e below)

pub shaped_files_keep_meaning : ShapedFilesKeepMeaning
shaped_files_keep_meaning r files prepend marks h d = rewriting_keeps_meaning r files prepend marks (all_formed files h d)
