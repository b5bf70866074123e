use Rattle.written_tokens.proofs.tokens.Enclosed.{squares_stand_round}
use Rattle.written_tokens.proofs.token_laws.squares_stand_round.Goals as goal

pub returns : goal.returns
returns c = squares_stand_round
