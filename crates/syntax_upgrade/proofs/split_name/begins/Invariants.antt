use Rattle.std.proofs.Common.{◌≡◌, ◌≤◌, false, drop, length}
use Rattle.php_tree.specs.Tree.{Forest}
use Rattle.php_terminals.specs.Tokens.{tokens_in}
use Rattle.php_rows.specs.Flatten.{leafed}
use Rattle.php_rows.specs.Reading.{begins_with_token}
use Rattle.syntax_rules.specs.declared.rules.Rules.{Rules}
use Rattle.syntax_upgrade.specs.Heads.{own_of, shown_if_any}
use Rattle.syntax_upgrade.specs.NamesWalked.{begins}
use Rattle.syntax_upgrade.proofs.split_name.begins.Given as goal

abbrev pub invariant-loop-left : goal.invariant-loop-left
invariant-loop-left l = record {
  within : l.left ≤ length (tokens_in l.tokens);
  ahead : (r : Rules) (f : Forest) → begins_with_token f ≡ false → l.ahead ≡ shown_if_any (begins l.fn.delete (own_of r l.fn.braces) (leafed (drop l.left (tokens_in l.tokens)) f));
}

abbrev pub decreases-loop-left : goal.decreases-loop-left
decreases-loop-left l = l.left
