use Rattle.php_rows.specs.Reading.{forest_in, weight}
use Rattle.grammar_trials.proofs.sketch.row_sketch.Given as goal

abbrev pub decreases-parts : goal.decreases-parts
decreases-parts l = weight (forest_in l.left)
