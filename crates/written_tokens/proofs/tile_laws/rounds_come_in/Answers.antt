use Rattle.written_tokens.proofs.tiles.Rounds.{rounds_come_in}
use Rattle.written_tokens.proofs.tile_laws.rounds_come_in.Goals as goal

pub returns : goal.returns
returns c = rounds_come_in
