use Rattle.std.proofs.Common.{◌≡◌, ◌==◌, ap, sym, ◌∙◌, find, Bor}
use Rattle.std.specs.Option.{option_map}
use Rattle.job_core.specs.Job.{StoredJob, stored}
use Rattle.job_core.specs.declared.job.Job.{Job}
use Rattle.job_core.proofs.JobsMapLemmas.{jobs_of-none, jobs_of-found, kept-now}
use Rattle.job_core.proofs.jobs.Jobs.job.Goals as goal

pub returns-in_err-get-clause-job : goal.returns-in_err-get-clause-job
returns-in_err-get-clause-job c =
    ap (option_map (λ (j : Bor Job). stored j.now)) c.from_residual.ensures
    ∙ sym (ap (find (λ (j : StoredJob). c.args.job == j.head.job))
    (jobs_of-none c.args.owner.now c.self.inside.owners.entries c.args.self.now c.self.view_is c.self.invariant
    (sym c.in_err-get.ensures.value)))

pub returns-in_err-get-clause-kept : goal.returns-in_err-get-clause-kept
returns-in_err-get-clause-kept c =
    kept-now c.args.owner.now c.self.inside.owners.entries c.args.self.now c.self.view_is c.self.invariant

pub returns-clause-job : goal.returns-clause-job
returns-clause-job c =
    c.job.ensures ∙ sym (ap (find (λ (j : StoredJob). c.args.job == j.head.job))
    (jobs_of-found c.args.owner.now c.self.inside.owners.entries c.args.self.now c.self.view_is c.self.invariant
    c.in_ok-get.field-0.now (sym c.in_ok-get.ensures.value)))

pub returns-clause-kept : goal.returns-clause-kept
returns-clause-kept c =
    kept-now c.args.owner.now c.self.inside.owners.entries c.args.self.now c.self.view_is c.self.invariant
