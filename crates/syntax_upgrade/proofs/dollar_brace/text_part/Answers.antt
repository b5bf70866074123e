use Rattle.std.proofs.Common.{◌≡◌}
use Rattle.syntax_upgrade.specs.declared.dollar_brace.Role.TheVariants as code
use Rattle.syntax_upgrade.proofs.dollar_brace.text_part.Goals as goal

pub returns-in-Other : goal.returns-in-Other
returns-in-Other c = λ around i. let e : c.args.role ≡ code.Other = c.in-Other.is in rw e (c.opened.ensures around i)
