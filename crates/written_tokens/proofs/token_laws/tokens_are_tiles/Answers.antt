use Rattle.written_tokens.proofs.tokens.Tiling.{tokens_are_tiles}
use Rattle.written_tokens.proofs.token_laws.tokens_are_tiles.Goals as goal

pub returns : goal.returns
returns c = tokens_are_tiles
