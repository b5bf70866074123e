use Rattle.written_tokens.proofs.tiles.CastEdits.{hash_comments_become}
use Rattle.written_tokens.proofs.tile_laws.hash_comments_become.Goals as goal

pub returns : goal.returns
returns c = hash_comments_become
