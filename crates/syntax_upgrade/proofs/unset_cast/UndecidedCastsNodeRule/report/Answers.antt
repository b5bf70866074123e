use Rattle.php_rows.specs.Reading.{forest_in}
use Rattle.syntax_upgrade.specs.Words.{seen}
use Rattle.syntax_upgrade.proofs.PartLemmas.{first_within}
use Rattle.syntax_upgrade.proofs.unset_cast.UndecidedCastsNodeRule.report.Goals as goal

pub add-requires : goal.add-requires
add-requires c =
    rw (c.in_ok-past_bytes-in-Some.ensures, c.requires) (first_within c.args.at (forest_in c.args.parts) (seen c.in-Some.cast) c.in-Some.ensures)
