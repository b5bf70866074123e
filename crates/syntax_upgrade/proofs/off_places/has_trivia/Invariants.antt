use Rattle.std.proofs.Common.{◌≡◌}
use Rattle.php_rows.specs.Reading.{forest_in}
use Rattle.syntax_upgrade.specs.OffPlaces.{has_trivia}
use Rattle.syntax_upgrade.proofs.off_places.has_trivia.Given as goal

abbrev pub invariant-loop-count : goal.invariant-loop-count
invariant-loop-count l = has_trivia l.count (forest_in l.left) ≡ has_trivia l.fn.more (forest_in l.fn.parts)

abbrev pub decreases-loop-count : goal.decreases-loop-count
decreases-loop-count l = l.count
