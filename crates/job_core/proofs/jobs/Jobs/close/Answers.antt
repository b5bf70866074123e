use Rattle.std.proofs.Common.{◌≡◌, ◌==◌, refl, ap, sym, subst, ◌∙◌, find, is_some}
use Rattle.job_core.specs.Job.{StoredJob}
use Rattle.job_core.specs.Jobs.{closed_job, with_job, SameJobs, IsKept, report_in}
use Rattle.job_core.specs.JobsMap.{all_jobs}
use Rattle.job_core.proofs.JobsMapLemmas.{jobs_of-none, jobs_of-found, kept-now, IsKept-all_jobs, SameJobs-none, changed-job}
use Rattle.job_core.proofs.jobs.Jobs.close.Goals as goal

pub returns-in_default-clause-done : goal.returns-in_default-clause-done
returns-in_default-clause-done c =
    sym (ap (λ js. is_some ((find (λ (j : StoredJob). c.args.job == j.head.job) js)))
    (jobs_of-none c.args.owner.now c.self.inside.owners.entries c.args.self.now c.self.view_is c.self.invariant
    (sym c.in_default.ensures.value)))

pub returns-in_default-clause-jobs : goal.returns-in_default-clause-jobs
returns-in_default-clause-jobs c =
    let none = jobs_of-none c.args.owner.now c.self.inside.owners.entries c.args.self.now c.self.view_is c.self.invariant (sym c.in_default.ensures.value) in
    subst (λ js. SameJobs js (with_job c.args.owner.now c.args.job closed_job c.args.self.now))
    (sym (ap (λ m. all_jobs m.entries) c.get_mut.follows.holds-at-none ∙ c.self.view_is))
    (SameJobs-none c.args.owner.now c.args.self.now none closed_job (λ _. refl) c.args.job)

pub returns-in_default-clause-kept : goal.returns-in_default-clause-kept
returns-in_default-clause-kept c =
    subst IsKept (sym (ap (λ m. all_jobs m.entries) c.get_mut.follows.holds-at-none ∙ c.self.view_is))
    (kept-now c.args.owner.now c.self.inside.owners.entries c.args.self.now c.self.view_is c.self.invariant)

pub invariant_of-self-2 : goal.invariant_of-self-2
invariant_of-self-2 c =
    (changed-job c.self.inside.owners (c.get_mut.follows.lender c.close.new.self) c.args.self.now c.self.view_is
    c.self.invariant c.args.owner.now c.in-Some.jobs.now c.close.new.self closed_job (λ _. refl) c.args.job
    (sym c.in-Some.ensures.value) c.close.ensures.jobs c.close.ensures.kept
    (c.get_mut.follows.holds c.close.new.self)).map

pub returns-clause-done : goal.returns-clause-done
returns-clause-done c =
    c.close.ensures.done ∙ sym (ap (λ js. is_some ((find (λ (j : StoredJob). c.args.job == j.head.job) js)))
    (jobs_of-found c.args.owner.now c.self.inside.owners.entries c.args.self.now c.self.view_is c.self.invariant
    c.in-Some.jobs.now (sym c.in-Some.ensures.value)))

pub returns-clause-jobs : goal.returns-clause-jobs
returns-clause-jobs c =
    (changed-job c.self.inside.owners (c.get_mut.follows.lender c.close.new.self) c.args.self.now c.self.view_is
    c.self.invariant c.args.owner.now c.in-Some.jobs.now c.close.new.self closed_job (λ _. refl) c.args.job
    (sym c.in-Some.ensures.value) c.close.ensures.jobs c.close.ensures.kept
    (c.get_mut.follows.holds c.close.new.self)).same

pub returns-clause-kept : goal.returns-clause-kept
returns-clause-kept c =
    IsKept-all_jobs (c.get_mut.follows.lender c.close.new.self).entries
    (changed-job c.self.inside.owners (c.get_mut.follows.lender c.close.new.self) c.args.self.now c.self.view_is
    c.self.invariant c.args.owner.now c.in-Some.jobs.now c.close.new.self closed_job (λ _. refl) c.args.job
    (sym c.in-Some.ensures.value) c.close.ensures.jobs c.close.ensures.kept
    (c.get_mut.follows.holds c.close.new.self)).map
