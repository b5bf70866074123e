use Rattle.written_tokens.proofs.tiles.CodeTokens.{code_tokens_become}
use Rattle.written_tokens.proofs.tile_laws.code_tokens_become.Goals as goal

pub returns : goal.returns
returns c = code_tokens_become
