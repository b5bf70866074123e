use Rattle.std.proofs.Common.{zero, ◌+◌, ◌*◌, ◌++◌, true, map}
use Rattle.php_tree.specs.Places.{end_of}
use Rattle.php_rows.specs.Reading.{forest_in, weight}
use Rattle.syntax_upgrade.specs.Found.{found_of}
use Rattle.syntax_upgrade.specs.Labels.{labels_in}
use Rattle.syntax_upgrade.specs.OffPlaces.{off_in}
use Rattle.syntax_upgrade.specs.Progress.{left_walked}
use Rattle.syntax_upgrade.specs.Reports.{reports_in}
use Rattle.syntax_upgrade.specs.ReservedName.{at_first}
use Rattle.syntax_upgrade.specs.TokenStandings.{standing_of}
use Rattle.syntax_upgrade.specs.Walk.{around_home, kind_of}
use Rattle.syntax_upgrade.proofs.Loop.{Holds}
use Rattle.syntax_upgrade.proofs.walk.+walk.Given as goal

-- the parts of a node, the node and what is put round it: each leads only to those below
abbrev pub decreases-walk_parts : goal.decreases-walk_parts
decreases-walk_parts l = 4 * weight (forest_in l.parts)

abbrev pub decreases-walk_inside : goal.decreases-walk_inside
decreases-walk_inside l = 4 * weight (forest_in l.parts) + 2

abbrev pub decreases-walk_touched : goal.decreases-walk_touched
decreases-walk_touched l = 4 * weight (forest_in l.parts) + 1

abbrev pub decreases-walk_child : goal.decreases-walk_child
decreases-walk_child l = 4 * weight (forest_in l.parts) + 3

abbrev pub invariant-walk_parts-parts : goal.invariant-walk_parts-parts
invariant-walk_parts-parts l =
    Holds l.fn.rules (around_home l.fn.home.outer l.fn.home.operator.now) (kind_of l.fn.home.outer) (weight (forest_in l.fn.parts))
    (left_walked l.fn.rules l.fn.progress (around_home l.fn.home.outer l.fn.home.operator.now) true (forest_in l.fn.parts) l.fn.walk.writer)
    (map found_of l.fn.walk.found.items ++ reports_in (kind_of l.fn.home.outer) at_first zero l.fn.at (forest_in l.fn.parts))
    (labels_in l.fn.at (forest_in l.fn.parts) l.fn.walk.labels)
    (off_in l.fn.rules (around_home l.fn.home.outer l.fn.home.operator.now) true zero l.fn.at (forest_in l.fn.parts) l.fn.walk.off)
    (end_of l.fn.at (forest_in l.fn.parts))
    l.written l.is_first (forest_in l.left) (standing_of l.spot.standing) l.spot.more l.inner_tokens l.spot.place
    l.walk.writer (map found_of l.walk.found.items) l.walk.labels l.walk.off

abbrev pub decreases-walk_parts-parts : goal.decreases-walk_parts-parts
decreases-walk_parts-parts l = weight (forest_in l.left)
