use Rattle.php_rows.specs.Reading.{forest_in}
use Rattle.syntax_upgrade.specs.Words.{seen}
use Rattle.syntax_upgrade.proofs.OffStarts.{head_within}
use Rattle.syntax_upgrade.proofs.off_places.OffPlaces.head.Goals as goal

pub add_off-requires : goal.add_off-requires
add_off-requires c =
    head_within c.args.at c.args.ahead.more c.in_ok-start.start c.in_ok-end.end c.in_ok-past_token.field-0 (seen c.args.token)
    (forest_in c.args.behind) c.in_ok-start.ensures c.in_ok-past_token.ensures c.in_ok-end.ensures
