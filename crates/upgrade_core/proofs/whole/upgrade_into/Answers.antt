use Rattle.std.proofs.Common.{map}
use Rattle.upgrade_core.specs.Files.{file_of}
use Rattle.upgrade_core.proofs.MeaningLemmas.{meaning_stays}
use Rattle.upgrade_core.proofs.whole.upgrade_into.Goals as goal

pub returns-in_err-upgraded-clause-means : goal.returns-in_err-upgraded-clause-means
returns-in_err-upgraded-clause-means g c = meaning_stays c.args.settings.now (map file_of c.args.files.now)

pub returns-in-Ok-clause-means : goal.returns-in-Ok-clause-means
returns-in-Ok-clause-means g c = meaning_stays c.args.settings.now (map file_of c.args.files.now)

pub returns-in-Err-clause-means : goal.returns-in-Err-clause-means
returns-in-Err-clause-means g c = meaning_stays c.args.settings.now (map file_of c.args.files.now)
