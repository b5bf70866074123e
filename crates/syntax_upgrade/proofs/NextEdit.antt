-- The edits of a file make the rewritten file.
use Rattle.std.proofs.Common.{◌≡◌}
use Rattle.span_edits.specs.Splice.{spliced}
use Rattle.php_tree.specs.Tree.{File, file_printed}
use Rattle.syntax_rules.specs.declared.rules.Rules.{Rules}
use Rattle.syntax_rules.specs.Rewritten.{patches_by, edits, edits_by, rewritten, rewritten_by}
use Rattle.syntax_rules.specs.Together.{every_rule}
use Rattle.syntax_rules.proofs.TogetherKeeps.{syntax_is_rewritten}

pub makes_rewritten_by : (r : Rules) (f : File) → spliced (file_printed f) (edits_by r f) ≡ file_printed (rewritten_by r f)
makes_rewritten_by r f = syntax_is_rewritten.written (record { wraps = patches_by r f.statements; rules = r }) f

pub makes_rewritten : (f : File) → spliced (file_printed f) (edits f) ≡ file_printed (rewritten f)
makes_rewritten f = makes_rewritten_by every_rule f
