use Rattle.std.proofs.Common.{◌≡◌, []}
use Rattle.php_terminals.specs.Indents.{last_text}
use Rattle.php_rows.specs.Reading.{forest_in, weight}
use Rattle.php_grammar.proofs.indents.last_text.Given as goal

abbrev pub invariant-parts : goal.invariant-parts
invariant-parts l = (last_text [] (forest_in l.fn.parts) ≡ last_text l.text (forest_in l.left))

abbrev pub decreases-parts : goal.decreases-parts
decreases-parts l = weight (forest_in l.left)
