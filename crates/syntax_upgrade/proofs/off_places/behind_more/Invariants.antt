use Rattle.std.proofs.Common.{◌≡◌}
use Rattle.php_rows.specs.Reading.{forest_in}
use Rattle.syntax_upgrade.specs.OffPlaces.{behind_more}
use Rattle.syntax_upgrade.proofs.off_places.behind_more.Given as goal

abbrev pub invariant-loop-count : goal.invariant-loop-count
invariant-loop-count l = behind_more l.count l.place (forest_in l.left) ≡ behind_more l.fn.more l.fn.at (forest_in l.fn.parts)

abbrev pub decreases-loop-count : goal.decreases-loop-count
decreases-loop-count l = l.count
