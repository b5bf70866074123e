use Rattle.std.proofs.Common.{◌≡◌, drop}
use Rattle.php_tree.specs.Tree.{forest_of, leaves}
use Rattle.php_tree.specs.Ids.{first_or}
use Rattle.php_tree.proofs.place.first_token.Given as goal

abbrev pub invariant-loop-part : goal.invariant-loop-part
invariant-loop-part l = first_or (leaves (forest_of l.parts)) l.next ≡ first_or (leaves (forest_of (drop l.part-index l.parts))) l.next
