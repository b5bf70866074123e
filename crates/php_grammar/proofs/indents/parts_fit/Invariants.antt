use Rattle.std.proofs.Common.{◌≡◌, true}
use Rattle.php_terminals.specs.Indents.{parts_fit}
use Rattle.php_rows.specs.Reading.{forest_in, weight}
use Rattle.php_grammar.proofs.indents.parts_fit.Given as goal

abbrev pub invariant-parts : goal.invariant-parts
invariant-parts l = (parts_fit l.indent true (forest_in l.fn.parts) ≡ parts_fit l.indent l.fresh (forest_in l.left))

abbrev pub decreases-parts : goal.decreases-parts
decreases-parts l = weight (forest_in l.left)
