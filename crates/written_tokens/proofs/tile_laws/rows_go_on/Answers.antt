use Rattle.written_tokens.proofs.tiles.Going.{rows_go_on}
use Rattle.written_tokens.proofs.tile_laws.rows_go_on.Goals as goal

pub returns : goal.returns
returns c = rows_go_on
