use Rattle.written_tokens.proofs.texts.Nowdocs.{nowdocs_stay}
use Rattle.written_tokens.proofs.text_laws.nowdocs_stay.Goals as goal

pub returns : goal.returns
returns c = nowdocs_stay
