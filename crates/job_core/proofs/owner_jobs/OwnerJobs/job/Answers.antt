use Rattle.std.proofs.Common.{ap, sym, ◌∙◌, slice_get, Bor}
use Rattle.std.specs.Option.{option_map}
use Rattle.job_core.specs.Job.{stored}
use Rattle.job_core.specs.declared.job.Job.{Job}
use Rattle.job_core.proofs.OwnerJobsLemmas.{absent-number, find-place, values-stored_jobs}
use Rattle.job_core.proofs.owner_jobs.OwnerJobs.job.Goals as goal

pub returns-in_err-place : goal.returns-in_err-place
returns-in_err-place c =
    ap (option_map (λ (j : Bor Job). stored j.now)) c.from_residual.ensures
    ∙ sym (absent-number c.args.number c.args.self.now c.in_err-place.ensures.kept c.in_err-place.ensures.place)

pub returns : goal.returns
returns c =
    ap (option_map stored) (sym c.index.ensures)
    ∙ sym (values-stored_jobs c.self.inside.jobs.entries c.in_ok-place.place)
    ∙ ap (λ js. slice_get js c.in_ok-place.place) c.self.view_is
    ∙ sym (find-place c.args.number c.in_ok-place.place c.args.self.now c.in_ok-place.ensures.kept
    c.in_ok-place.ensures.place)
