use Rattle.std.proofs.Common.{◌≡◌, ◌≤◌}
use Rattle.php_rows.specs.Reading.{forest_in, weight}
use Rattle.grammar_trials.proofs.sketch.+add_row.Given as goal

abbrev pub decreases-add_row : goal.decreases-add_row
decreases-add_row l = weight (forest_in l.parts)

abbrev pub invariant-parts : goal.invariant-parts
invariant-parts l = record {
  tokens : l.left.tokens ≡ l.fn.parts.tokens;
  smaller : weight (forest_in l.left) ≤ weight (forest_in l.fn.parts);
}

abbrev pub decreases-parts : goal.decreases-parts
decreases-parts l = weight (forest_in l.left)
