use Rattle.std.proofs.Common.{refl, ap, sym, ◌∙◌, is_some}
use Rattle.job_core.specs.Jobs.{closed_job}
use Rattle.job_core.proofs.OwnerJobsLemmas.{absent-number, change-absent, find-read, written-read, map_jobs}
use Rattle.job_core.proofs.owner_jobs.OwnerJobs.close.Goals as goal

pub returns-in_default-clause-done : goal.returns-in_default-clause-done
returns-in_default-clause-done c =
    sym (ap is_some (absent-number c.args.number c.args.self.now c.in_default.ensures.kept c.in_default.ensures.place))

pub returns-in_default-clause-jobs : goal.returns-in_default-clause-jobs
returns-in_default-clause-jobs c =
    sym (change-absent closed_job c.args.number c.args.self.now c.in_default.ensures.kept c.in_default.ensures.place)

pub invariant_of-self : goal.invariant_of-self
invariant_of-self c =
    (written-read c.args.number c.in-Some.place c.index_mut-job.result.now c.self.inside.jobs.entries c.args.self.now
    c.self.view_is c.self.invariant c.in-Some.ensures.place c.index_mut-job.ensures.value closed_job (λ _. refl)
    (λ _. refl) (λ j h. h) _ refl).map

pub returns-clause-done : goal.returns-clause-done
returns-clause-done c =
    sym (ap is_some (find-read c.args.number c.in-Some.place c.index_mut-job.result.now c.self.inside.jobs.entries
    c.args.self.now c.self.view_is c.self.invariant c.in-Some.ensures.place c.index_mut-job.ensures.value))

pub returns-clause-jobs : goal.returns-clause-jobs
returns-clause-jobs c =
    (written-read c.args.number c.in-Some.place c.index_mut-job.result.now c.self.inside.jobs.entries c.args.self.now
    c.self.view_is c.self.invariant c.in-Some.ensures.place c.index_mut-job.ensures.value closed_job (λ _. refl)
    (λ _. refl) (λ j h. h) _ refl).jobs ∙ ap (map_jobs c.args.number closed_job) c.self.view_is

pub returns-clause-kept : goal.returns-clause-kept
returns-clause-kept c =
    (written-read c.args.number c.in-Some.place c.index_mut-job.result.now c.self.inside.jobs.entries c.args.self.now
    c.self.view_is c.self.invariant c.in-Some.ensures.place c.index_mut-job.ensures.value closed_job (λ _. refl)
    (λ _. refl) (λ j h. h) _ refl).map.list
