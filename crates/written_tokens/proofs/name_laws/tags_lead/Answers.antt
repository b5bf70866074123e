use Rattle.written_tokens.proofs.names.TagRows.{tags_lead}
use Rattle.written_tokens.proofs.name_laws.tags_lead.Goals as goal

pub returns : goal.returns
returns c = tags_lead
