use Rattle.std.proofs.Common.{sym, ◌∙◌}
use Rattle.php_terminals.specs.Tokens.{tokens_in}
use Rattle.syntax_upgrade.specs.Heads.{own_of}
use Rattle.syntax_upgrade.specs.Words.{seen}
use Rattle.syntax_upgrade.proofs.Fronts.{loose_first}
use Rattle.syntax_upgrade.proofs.split_name.run.Goals as goal

pub returns-then-not-may_go_on-clause-ended : goal.returns-then-not-may_go_on-clause-ended
returns-then-not-may_go_on-clause-ended c = λ r n f h.
    loose_first n (own_of r c.args.braces) (tokens_in c.args.tokens) c.loop-count.count (seen c.word_of.result) f c.word_of.ensures
    (sym c.may_go_on.ensures ∙ c.if-not-may_go_on.true)
