use Rattle.written_tokens.proofs.tokens.Enclosed.{rounds_stand_round}
use Rattle.written_tokens.proofs.token_laws.rounds_stand_round.Goals as goal

pub returns : goal.returns
returns c = rounds_stand_round
