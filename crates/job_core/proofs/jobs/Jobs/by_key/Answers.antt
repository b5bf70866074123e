use Rattle.std.proofs.Common.{◌≡◌, ap, sym, ◌∙◌, find, Bor}
use Rattle.std.specs.Option.{option_map}
use Rattle.std.specs.Str.{bytes_eq}
use Rattle.job_core.specs.Job.{StoredJob, stored}
use Rattle.job_core.specs.declared.job.Job.{Job}
use Rattle.job_core.proofs.JobsMapLemmas.{jobs_of-none, jobs_of-found, kept-now}
use Rattle.job_core.proofs.jobs.Jobs.by_key.Goals as goal

pub returns-in_err-get-clause-job : goal.returns-in_err-get-clause-job
returns-in_err-get-clause-job c =
    ap (option_map (λ (j : Bor Job). stored j.now)) c.from_residual.ensures
    ∙ sym (ap (find (λ (j : StoredJob). bytes_eq c.args.key.now j.key))
    (jobs_of-none c.args.owner.now c.self.inside.owners.entries c.args.self.now c.self.view_is c.self.invariant
    (sym c.in_err-get.ensures.value)))

pub returns-in_err-get-clause-kept : goal.returns-in_err-get-clause-kept
returns-in_err-get-clause-kept c =
    kept-now c.args.owner.now c.self.inside.owners.entries c.args.self.now c.self.view_is c.self.invariant

pub returns-clause-job : goal.returns-clause-job
returns-clause-job c =
    c.by_key.ensures ∙ sym (ap (find (λ (j : StoredJob). bytes_eq c.args.key.now j.key))
    (jobs_of-found c.args.owner.now c.self.inside.owners.entries c.args.self.now c.self.view_is c.self.invariant
    c.in_ok-get.field-0.now (sym c.in_ok-get.ensures.value)))

pub returns-clause-kept : goal.returns-clause-kept
returns-clause-kept c =
    kept-now c.args.owner.now c.self.inside.owners.entries c.args.self.now c.self.view_is c.self.invariant
