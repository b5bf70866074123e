use Rattle.written_tokens.proofs.tiles.Joins.{becomes_loosely}
use Rattle.written_tokens.proofs.tile_laws.becomes_loosely.Goals as goal

pub returns : goal.returns
returns c = becomes_loosely
