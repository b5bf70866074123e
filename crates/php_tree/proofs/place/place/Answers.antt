use Rattle.std.proofs.Common.{sym, ◌∙◌, ap}
use Rattle.php_tree.specs.Tree.{forest_of, leaves}
use Rattle.php_tree.proofs.Placed.{placed_between}
use Rattle.php_tree.proofs.place.place.Goals as goal

pub between-requires : goal.between-requires
between-requires c = (placed_between c.requires.0 (leaves (forest_of c.args.node.now.parts)) c.in-Some.first.now c.args.next.now c.requires.1 (sym c.in-Some.ensures)).0

pub returns-in-Some : goal.returns-in-Some
returns-in-Some c =
    let placed = placed_between c.requires.0 (leaves (forest_of c.args.node.now.parts)) c.in-Some.first.now c.args.next.now c.requires.1 (sym c.in-Some.ensures) in
    ap (λ x. (x, c.between.result.end)) c.between.ensures.start ∙ ap (λ x. (c.in-Some.first.now.start, x)) c.between.ensures.end ∙ sym placed.1
