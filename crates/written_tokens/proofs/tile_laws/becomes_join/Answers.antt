use Rattle.written_tokens.proofs.tiles.Joins.{becomes_join}
use Rattle.written_tokens.proofs.tile_laws.becomes_join.Goals as goal

pub returns : goal.returns
returns c = becomes_join
