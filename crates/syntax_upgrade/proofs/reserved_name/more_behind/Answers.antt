use Rattle.std.proofs.Common.{ap, ◌∙◌}
use Rattle.syntax_upgrade.specs.declared.split_name.Ahead.{Ahead}
use Rattle.syntax_rules.specs.Together.{every_rule}
use Rattle.syntax_upgrade.specs.Words.{seen}
use Rattle.syntax_upgrade.proofs.SameHeads.{same_more}
use Rattle.syntax_upgrade.proofs.reserved_name.more_behind.Goals as goal

pub returns : goal.returns
returns c = λ f e. ap (λ (a : Ahead). a.more) (c.in_ok-ahead.ensures every_rule f e) ∙ same_more (seen c.args.token) f
