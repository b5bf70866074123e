-- Where the code says that a token stands.
use Rattle.syntax_upgrade.specs.declared.token_standing.Rank.{Rank}
use Rattle.syntax_upgrade.specs.declared.token_standing.Rank.TheVariants.{First, Second, Later}
use Rattle.syntax_upgrade.specs.declared.token_standing.TokenStanding.{TokenStanding}
use Rattle.syntax_upgrade.specs.ReservedName as spec
use Rattle.syntax_upgrade.specs.ReservedName.{Standing}

abbrev pub rank_of : Rank → spec.Rank
rank_of First = spec.first
rank_of Second = spec.second
rank_of Later = spec.later

abbrev pub standing_of : TokenStanding → Standing
standing_of s = record {
  before = s.before;
  in_braces = s.in_braces;
  rank = rank_of s.rank;
  of_classes = s.of_classes;
  of_class = s.of_class;
}
