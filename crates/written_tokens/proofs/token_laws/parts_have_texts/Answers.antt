use Rattle.written_tokens.proofs.tokens.TextsRead.{parts_have_texts}
use Rattle.written_tokens.proofs.token_laws.parts_have_texts.Goals as goal

pub returns : goal.returns
returns c = parts_have_texts
