use Rattle.std.proofs.Common.{length}
use Rattle.php_terminals.specs.Tokens.{tokens_in}
use Rattle.php_forms.specs.declared.item.Group.TheVariants.{Statements}
use Rattle.php_exprs.specs.Built.{behind}
use Rattle.php_exprs.specs.Parsed.{Repeated}
use Rattle.php_exprs.proofs.statements.statements.Given as goal

abbrev pub invariant-repeats : goal.invariant-repeats
invariant-repeats l = Repeated l.version (tokens_in l.tokens) l.limit 7 Statements (l.fn.row, l.fn.reach) (l.row, l.reach)

abbrev pub decreases-repeats : goal.decreases-repeats
decreases-repeats l = length (behind (tokens_in l.tokens) l.row)
