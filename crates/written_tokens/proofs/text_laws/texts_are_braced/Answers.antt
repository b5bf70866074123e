use Rattle.written_tokens.proofs.texts.Braced.{texts_are_braced}
use Rattle.written_tokens.proofs.text_laws.texts_are_braced.Goals as goal

pub returns : goal.returns
returns c = texts_are_braced
