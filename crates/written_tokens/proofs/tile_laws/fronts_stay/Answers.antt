use Rattle.written_tokens.proofs.tiles.Going.{fronts_stay}
use Rattle.written_tokens.proofs.tile_laws.fronts_stay.Goals as goal

pub returns : goal.returns
returns c = fronts_stay
