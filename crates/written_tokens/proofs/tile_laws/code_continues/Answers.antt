use Rattle.written_tokens.proofs.tiles.AheadFrom.{code_continues}
use Rattle.written_tokens.proofs.tile_laws.code_continues.Goals as goal

pub returns : goal.returns
returns c = code_continues
