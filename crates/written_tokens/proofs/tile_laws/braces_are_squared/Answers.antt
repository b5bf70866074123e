use Rattle.written_tokens.proofs.tiles.Braces.{braces_are_squared}
use Rattle.written_tokens.proofs.tile_laws.braces_are_squared.Goals as goal

pub returns : goal.returns
returns c = braces_are_squared
