use Rattle.php_tree.specs.Tree.{forest_of}
use Rattle.php_rows.specs.Reading.{forest_in, weight}
use Rattle.php_rows.proofs.Pushed.{Making}
use Rattle.php_rows.proofs.nodes.+node_with.Given as goal

abbrev pub decreases-node_with : goal.decreases-node_with
decreases-node_with l = weight (forest_in l.parts)

abbrev pub invariant-parts : goal.invariant-parts
invariant-parts l = Making (forest_in l.fn.parts) l.tokens (forest_of l.made) (forest_in l.left) l.rest

abbrev pub decreases-parts : goal.decreases-parts
decreases-parts l = weight (forest_in l.left)
