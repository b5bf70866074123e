use Rattle.written_tokens.proofs.tiles.Rounds.{rounds_become}
use Rattle.written_tokens.proofs.tile_laws.rounds_become.Goals as goal

pub returns : goal.returns
returns c = rounds_become
