use Rattle.std.proofs.Common.{◌≡◌, ◌==◌, List, None, find, ap, sym, subst, ◌∙◌, ℕ}
use Rattle.job_core.specs.Job.{StoredJob}
use Rattle.job_core.specs.Jobs.{jobs_of, closed_job}
use Rattle.job_core.proofs.JobsLemmas.{with_job-absent}
use Rattle.job_core.proofs.jobs.Jobs.step_close.Goals as goal

pub returns-in_default-clause-jobs : goal.returns-in_default-clause-jobs
returns-in_default-clause-jobs c =
    let none = subst (λ (q : List ℕ). find (λ (j : StoredJob). c.args.job == j.head.job) (jobs_of q c.args.self.now) ≡ None) c.as_str.ensures (sym c.in_default.ensures.job) in
    λ owner. ap (jobs_of owner) (sym (with_job-absent closed_job c.args.owner c.args.job c.args.self.now none))
