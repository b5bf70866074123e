use Rattle.written_tokens.proofs.tiles.CastEdits.{casts_become_null}
use Rattle.written_tokens.proofs.tile_laws.casts_become_null.Goals as goal

pub returns : goal.returns
returns c = casts_become_null
