use Rattle.std.proofs.Common.{◌≡◌, sym, ◌∙◌}
use Rattle.php_tree.specs.Tree.{leaf}
use Rattle.php_rows.specs.Reading.{forest_in}
use Rattle.syntax_upgrade.specs.OffPlaces.{has_trivia}
use Rattle.syntax_upgrade.specs.Words.{seen}
use Rattle.syntax_upgrade.proofs.OffStarts.{trivia_step}
use Rattle.syntax_upgrade.proofs.off_places.has_trivia.Goals as goal

pub loop-count-preserved : goal.loop-count-preserved
loop-count-preserved c =
    let here : forest_in c.loop-count.left ≡ leaf (seen c.in-Some-Leaf.token) (forest_in c.next.new.parts) =
    rw c.in-Some-Leaf.field-0-is at c.in-Some-Leaf.ensures in
    trivia_step c.loop-count.count (forest_in c.loop-count.left) (seen c.in-Some-Leaf.token) (forest_in c.next.new.parts)
    (has_trivia c.args.more (forest_in c.args.parts)) c.loop-count-test.true here
    (sym c.is_nothing.ensures ∙ c.if-not-is_nothing.false) c.loop-count.invariant
