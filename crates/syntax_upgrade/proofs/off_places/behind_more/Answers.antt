use Rattle.std.proofs.Common.{◌≡◌}
use Rattle.php_tree.specs.Tree.{leaf}
use Rattle.php_rows.specs.Reading.{forest_in}
use Rattle.syntax_upgrade.specs.OffPlaces.{behind_more}
use Rattle.syntax_upgrade.specs.Words.{seen}
use Rattle.syntax_upgrade.proofs.OffStarts.{more_step}
use Rattle.syntax_upgrade.proofs.off_places.behind_more.Goals as goal

pub loop-count-preserved : goal.loop-count-preserved
loop-count-preserved c =
    let here : forest_in c.loop-count.left ≡ leaf (seen c.in-Some-Leaf.token) (forest_in c.next.new.parts) =
    rw c.in-Some-Leaf.field-0-is at c.in-Some-Leaf.ensures in
    more_step c.loop-count.count c.loop-count.place c.in_ok-place-in-Some-Leaf.place (forest_in c.loop-count.left) (seen c.in-Some-Leaf.token)
    (forest_in c.next.new.parts) (behind_more c.args.more c.args.at (forest_in c.args.parts)) c.loop-count-test.true here
    c.in_ok-place-in-Some-Leaf.ensures c.loop-count.invariant
