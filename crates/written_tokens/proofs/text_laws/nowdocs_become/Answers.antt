use Rattle.written_tokens.proofs.texts.NowdocTiles.{nowdocs_become}
use Rattle.written_tokens.proofs.text_laws.nowdocs_become.Goals as goal

pub returns : goal.returns
returns c = nowdocs_become
