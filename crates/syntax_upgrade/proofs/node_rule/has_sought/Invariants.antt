use Rattle.std.proofs.Common.{◌≡◌}
use Rattle.php_rows.specs.Reading.{forest_in, weight}
use Rattle.syntax_upgrade.specs.NodeRule as spec
use Rattle.syntax_upgrade.proofs.node_rule.has_sought.Given as goal

abbrev pub invariant-parts : goal.invariant-parts
invariant-parts g l =
    spec.has_sought g.R.NodeRule.rule.looks_for (forest_in l.left) ≡ spec.has_sought g.R.NodeRule.rule.looks_for (forest_in l.fn.parts)

abbrev pub decreases-parts : goal.decreases-parts
decreases-parts g l = weight (forest_in l.left)
