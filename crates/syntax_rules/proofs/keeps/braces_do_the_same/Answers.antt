use Rattle.syntax_rules.proofs.RewritesAcross.{braces_do_the_same}
use Rattle.syntax_rules.proofs.keeps.braces_do_the_same.Goals as goal

pub returns : goal.returns
returns c = braces_do_the_same
