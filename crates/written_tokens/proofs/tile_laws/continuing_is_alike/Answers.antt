use Rattle.written_tokens.proofs.tiles.Going.{continuing_is_alike}
use Rattle.written_tokens.proofs.tile_laws.continuing_is_alike.Goals as goal

pub returns : goal.returns
returns c = continuing_is_alike
