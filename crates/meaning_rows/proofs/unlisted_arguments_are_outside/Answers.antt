use Rattle.meaning_rows.proofs.UnlistedLaw.{unlisted}
use Rattle.meaning_rows.proofs.unlisted_arguments_are_outside.Goals as goal

pub returns : goal.returns
returns c = unlisted
