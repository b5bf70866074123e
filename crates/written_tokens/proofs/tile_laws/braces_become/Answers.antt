use Rattle.written_tokens.proofs.tiles.Braces.{braces_become}
use Rattle.written_tokens.proofs.tile_laws.braces_become.Goals as goal

pub returns : goal.returns
returns c = braces_become
