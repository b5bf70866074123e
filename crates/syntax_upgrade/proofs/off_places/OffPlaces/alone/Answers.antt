use Rattle.syntax_rules.specs.Together.{token_by}
use Rattle.syntax_upgrade.specs.Words.{seen}
use Rattle.syntax_upgrade.proofs.off_places.OffPlaces.alone.Goals as goal

pub returns : goal.returns
returns c =
    c.first.ensures (record { more = 0; token = token_by c.args.rules (seen c.args.token) }) (c.alone.ensures c.args.rules)
