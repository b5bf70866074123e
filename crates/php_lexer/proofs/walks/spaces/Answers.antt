use Rattle.std.proofs.Common.{◌∙◌}
use Rattle.php_lexer.proofs.RunLemmas.{spaces_run}
use Rattle.php_lexer.proofs.walks.spaces.Goals as goal

pub returns-clause-count : goal.returns-clause-count
returns-clause-count c = c.space_count.ensures.count ∙ spaces_run c.args.label.now c.args.first c.args.bytes.now
