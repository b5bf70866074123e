use Rattle.php_rows.specs.Reading.{forest_in, weight}
use Rattle.syntax_upgrade.proofs.start_of.+start_of.Given as goal

abbrev pub decreases-start_of : goal.decreases-start_of
decreases-start_of l = weight (forest_in l.parts)
