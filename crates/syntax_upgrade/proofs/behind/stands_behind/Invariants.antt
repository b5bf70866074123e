use Rattle.std.proofs.Common.{◌≡◌, false}
use Rattle.php_rows.specs.Reading.{forest_in, weight}
use Rattle.syntax_upgrade.specs.Behind as spec
use Rattle.syntax_upgrade.proofs.behind.stands_behind.Given as goal

abbrev pub invariant-parts : goal.invariant-parts
invariant-parts g l =
    spec.stands_behind g.B.Behind.nodes g.B.Behind.tokens false (forest_in l.fn.parts)
    ≡ spec.stands_behind g.B.Behind.nodes g.B.Behind.tokens l.is_behind (forest_in l.left)

abbrev pub decreases-parts : goal.decreases-parts
decreases-parts g l = weight (forest_in l.left)
