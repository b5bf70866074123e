use Rattle.written_tokens.proofs.tiles.HtmlTokens.{html_tokens_become}
use Rattle.written_tokens.proofs.tile_laws.html_tokens_become.Goals as goal

pub returns : goal.returns
returns c = html_tokens_become
