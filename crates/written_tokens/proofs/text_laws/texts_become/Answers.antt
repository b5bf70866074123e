use Rattle.written_tokens.proofs.texts.TextOpenings.{texts_become}
use Rattle.written_tokens.proofs.text_laws.texts_become.Goals as goal

pub returns : goal.returns
returns c = texts_become
