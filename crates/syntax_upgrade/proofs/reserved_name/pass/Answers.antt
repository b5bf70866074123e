use Rattle.php_rows.specs.Reading.{forest_in}
use Rattle.syntax_upgrade.specs.TokenStandings.{standing_of}
use Rattle.syntax_upgrade.specs.Words.{seen}
use Rattle.syntax_upgrade.proofs.QuietNodes.{quiet_leaf}
use Rattle.syntax_upgrade.proofs.reserved_name.pass.Goals as goal

pub returns-clause-places : goal.returns-clause-places
returns-clause-places c =
    rw c.in_ok-past_token.ensures
    (quiet_leaf c.args.kind c.requires (standing_of c.args.spot.standing) c.args.spot.more c.args.spot.place (seen c.args.token) (forest_in c.args.behind))
