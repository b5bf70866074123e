use Rattle.written_reading.proofs.drafts.SafeRows.{texts_are_safe}
use Rattle.written_reading.proofs.draft_laws.texts_are_safe.Goals as goal

pub returns : goal.returns
returns c = texts_are_safe
