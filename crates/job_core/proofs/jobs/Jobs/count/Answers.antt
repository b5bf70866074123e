use Rattle.std.proofs.Common.{◌≡◌, ap, sym, ◌∙◌, length}
use Rattle.job_core.proofs.JobsMapLemmas.{jobs_of-none, jobs_of-found, kept-now}
use Rattle.job_core.proofs.jobs.Jobs.count.Goals as goal

pub returns-in_default-clause-count : goal.returns-in_default-clause-count
returns-in_default-clause-count c =
    sym (ap length (jobs_of-none c.args.owner.now c.self.inside.owners.entries c.args.self.now c.self.view_is c.self.invariant (sym c.in_default.ensures.value)))

pub returns-in_default-clause-kept : goal.returns-in_default-clause-kept
returns-in_default-clause-kept c =
    kept-now c.args.owner.now c.self.inside.owners.entries c.args.self.now c.self.view_is c.self.invariant

pub returns-clause-count : goal.returns-clause-count
returns-clause-count c =
    c.count.ensures.count ∙ sym (ap length (jobs_of-found c.args.owner.now c.self.inside.owners.entries
    c.args.self.now c.self.view_is c.self.invariant c.in-Some.jobs.now (sym c.in-Some.ensures.value)))

pub returns-clause-kept : goal.returns-clause-kept
returns-clause-kept c =
    kept-now c.args.owner.now c.self.inside.owners.entries c.args.self.now c.self.view_is c.self.invariant
