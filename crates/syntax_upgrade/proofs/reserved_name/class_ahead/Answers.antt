use Rattle.php_rows.specs.Reading.{forest_in}
use Rattle.syntax_upgrade.specs.Words.{seen}
use Rattle.syntax_upgrade.proofs.PartLemmas.{next_none, next_some}
use Rattle.syntax_upgrade.proofs.reserved_name.class_ahead.Goals as goal

pub returns-in-None : goal.returns-in-None
returns-in-None c = next_none (forest_in c.args.parts) c.in-None.ensures

pub returns-in_ok-more-in-Some : goal.returns-in_ok-more-in-Some
returns-in_ok-more-in-Some c =
    rw (c.class_by.ensures, c.in-Some.token.classed)
    (next_some (forest_in c.args.parts) (seen c.in-Some.token) c.in_ok-more-in-Some.more c.in-Some.ensures c.in_ok-more-in-Some.ensures)
