use Rattle.php_tree.specs.Tree.{leaves}
use Rattle.php_rows.specs.Reading.{forest_in}
use Rattle.syntax_upgrade.proofs.OffStarts.{start_is, text_within}
use Rattle.syntax_upgrade.proofs.found.add_outside_parts.Goals as goal

pub add_outside-requires : goal.add_outside-requires
add_outside-requires c =
    let f = forest_in c.args.parts in
    rw (c.unwrap_or-start.ensures, c.in_ok-start_of.ensures, start_is c.args.at (leaves f), c.requires) (text_within c.args.at f)
