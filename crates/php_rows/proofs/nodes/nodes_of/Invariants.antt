use Rattle.std.proofs.Common.{◌≡◌, true}
use Rattle.php_tree.specs.Tree.{nodes_forest}
use Rattle.php_rows.specs.Nodes.{are_nodes}
use Rattle.php_rows.specs.Reading.{forest_in, weight}
use Rattle.php_rows.proofs.Pushed.{Making}
use Rattle.php_rows.proofs.nodes.nodes_of.Given as goal

abbrev pub invariant-parts : goal.invariant-parts
invariant-parts l = Making (forest_in l.fn.parts) l.tokens (nodes_forest l.made) (forest_in l.left) l.rest × (are_nodes (forest_in l.left) ≡ true)

abbrev pub decreases-parts : goal.decreases-parts
decreases-parts l = weight (forest_in l.left)
