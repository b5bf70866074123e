use Rattle.std.proofs.Common.{sym, subst}
use Rattle.job_core.specs.OwnerJobs.{IsOwnersMap}
use Rattle.job_core.proofs.OwnerJobsLemmas.{IsOwnersMap-nil}
use Rattle.job_core.proofs.owner_jobs.OwnerJobs.new.Goals as goal

pub invariant_of-result : goal.invariant_of-result
invariant_of-result c = subst IsOwnersMap (sym c.new.ensures.empty) IsOwnersMap-nil
