use Rattle.job_core.specs.Machine.{owner_of}
use Rattle.job_core.proofs.MachineLemmas.{reply_to-same, SameJobs-after}
use Rattle.job_core.proofs.laws.order_between_owners_is_unseen.Goals as goal

pub returns-clause-reply : goal.returns-clause-reply
returns-clause-reply c = λ command jobs others same. reply_to-same command jobs others (same (owner_of command))

pub returns-clause-jobs : goal.returns-clause-jobs
returns-clause-jobs c = SameJobs-after
