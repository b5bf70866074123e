use Rattle.std.proofs.Common.{◌∙◌}
use Rattle.job_core.proofs.OwnerJobsLemmas.{inserted-jobs, inserted-map}
use Rattle.job_core.proofs.owner_jobs.OwnerJobs.add.Goals as goal

pub invariant_of-self-2 : goal.invariant_of-self-2
invariant_of-self-2 c =
    inserted-map c.self.inside.jobs c.insert.new.self.entries c.args.self.now c.self.view_is c.self.invariant
    c.in_ok-key.key c.args.job (c.in_ok-key.ensures.ok ∙ c.as_str.ensures) c.requires.new_key
    c.in_ok-insert.ensures.entries c.requires.room c.requires.number
    (c.requires.reports ∙ c.args.job.reports.ok.0)

pub returns-clause-ok : goal.returns-clause-ok
returns-clause-ok c =
    inserted-jobs c.self.inside.jobs c.insert.new.self.entries c.args.self.now c.self.view_is c.self.invariant
    c.in_ok-key.key c.args.job (c.in_ok-key.ensures.ok ∙ c.as_str.ensures) c.requires.new_key
    c.in_ok-insert.ensures.entries

pub returns-clause-kept : goal.returns-clause-kept
returns-clause-kept c =
    (inserted-map c.self.inside.jobs c.insert.new.self.entries c.args.self.now c.self.view_is c.self.invariant
    c.in_ok-key.key c.args.job (c.in_ok-key.ensures.ok ∙ c.as_str.ensures) c.requires.new_key
    c.in_ok-insert.ensures.entries c.requires.room c.requires.number
    (c.requires.reports ∙ c.args.job.reports.ok.0)).list
