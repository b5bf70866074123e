use Rattle.std.proofs.Common.{sym, subst}
use Rattle.job_core.specs.JobsMap.{IsJobsMap}
use Rattle.job_core.proofs.JobsMapLemmas.{IsJobsMap-nil}
use Rattle.job_core.proofs.jobs.Jobs.new.Goals as goal

pub invariant_of-result : goal.invariant_of-result
invariant_of-result c = subst IsJobsMap (sym c.new.ensures.empty) IsJobsMap-nil
