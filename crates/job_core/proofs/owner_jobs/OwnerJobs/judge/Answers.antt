use Rattle.std.proofs.Common.{refl, ap, sym, ◌∙◌, is_some}
use Rattle.job_core.specs.Job.{stored}
use Rattle.job_core.specs.Jobs.{judged_job, report_in}
use Rattle.job_core.proofs.OwnerJobsLemmas.{absent-number, change-absent, find-read, written-read, map_jobs, length-judged_reports}
use Rattle.job_core.proofs.owner_jobs.OwnerJobs.judge.Goals as goal

pub returns-in_default-clause-done : goal.returns-in_default-clause-done
returns-in_default-clause-done c =
    sym (ap (λ j. is_some (report_in c.args.n j)) (absent-number c.args.number c.args.self.now c.in_default.ensures.kept c.in_default.ensures.place))

pub returns-in_default-clause-jobs : goal.returns-in_default-clause-jobs
returns-in_default-clause-jobs c =
    sym (change-absent (judged_job c.args.n c.args.verdict c.args.note) c.args.number c.args.self.now c.in_default.ensures.kept c.in_default.ensures.place)

pub invariant_of-self : goal.invariant_of-self
invariant_of-self c =
    (written-read c.args.number c.in-Some.place c.index_mut-job.result.now c.self.inside.jobs.entries c.args.self.now
    c.self.view_is c.self.invariant c.in-Some.ensures.place c.index_mut-job.ensures.value
    (judged_job c.args.n c.args.verdict c.args.note) (λ _. refl) (λ _. refl)
    (λ j h. h ∙ sym (length-judged_reports c.args.n c.args.verdict c.args.note j.reports)) _
    (ap (λ reports. record (stored c.index_mut-job.result.now) { reports = reports })
    c.judge_report.ensures.reports)).map

pub returns-clause-done : goal.returns-clause-done
returns-clause-done c =
    c.judge_report.ensures.done ∙ sym (ap (λ j. is_some (report_in c.args.n j))
    (find-read c.args.number c.in-Some.place c.index_mut-job.result.now c.self.inside.jobs.entries c.args.self.now
    c.self.view_is c.self.invariant c.in-Some.ensures.place c.index_mut-job.ensures.value))

pub returns-clause-jobs : goal.returns-clause-jobs
returns-clause-jobs c =
    (written-read c.args.number c.in-Some.place c.index_mut-job.result.now c.self.inside.jobs.entries c.args.self.now
    c.self.view_is c.self.invariant c.in-Some.ensures.place c.index_mut-job.ensures.value
    (judged_job c.args.n c.args.verdict c.args.note) (λ _. refl) (λ _. refl)
    (λ j h. h ∙ sym (length-judged_reports c.args.n c.args.verdict c.args.note j.reports)) _
    (ap (λ reports. record (stored c.index_mut-job.result.now) { reports = reports })
    c.judge_report.ensures.reports)).jobs
    ∙ ap (map_jobs c.args.number (judged_job c.args.n c.args.verdict c.args.note)) c.self.view_is

pub returns-clause-kept : goal.returns-clause-kept
returns-clause-kept c =
    (written-read c.args.number c.in-Some.place c.index_mut-job.result.now c.self.inside.jobs.entries c.args.self.now
    c.self.view_is c.self.invariant c.in-Some.ensures.place c.index_mut-job.ensures.value
    (judged_job c.args.n c.args.verdict c.args.note) (λ _. refl) (λ _. refl)
    (λ j h. h ∙ sym (length-judged_reports c.args.n c.args.verdict c.args.note j.reports)) _
    (ap (λ reports. record (stored c.index_mut-job.result.now) { reports = reports })
    c.judge_report.ensures.reports)).map.list
