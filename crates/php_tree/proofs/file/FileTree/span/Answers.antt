use Rattle.std.proofs.Common.{List, ◌++◌, ◌∷◌, [], sym, subst}
use Rattle.php_tree.specs.declared.node.Node.{Node}
use Rattle.php_tree.specs.Tree.{nodes_forest, leaves}
use Rattle.php_tree.specs.Places.{ArePlaced}
use Rattle.php_tree.proofs.Placed.{placed_fact}
use Rattle.php_tree.proofs.file.FileTree.span.Goals as goal

pub place_among-requires : goal.place_among-requires
place_among-requires c = (
  0,
  subst (λ (ns : List Node). ArePlaced 0 (leaves (nodes_forest ns) ++ c.args.self.now.end ∷ [])) (sym c.as_slice.ensures)
      (placed_fact 0 (leaves (nodes_forest c.args.self.now.statements) ++ c.args.self.now.end ∷ []) c.args.self.now.placed),
)
