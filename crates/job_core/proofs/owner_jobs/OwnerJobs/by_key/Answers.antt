use Rattle.std.proofs.Common.{ap, sym, ◌∙◌, find}
use Rattle.std.specs.Option.{option_map}
use Rattle.std.specs.Str.{bytes_eq}
use Rattle.job_core.specs.Job.{StoredJob, stored}
use Rattle.job_core.proofs.OwnerJobsLemmas.{find-stored_jobs, shown-copied}
use Rattle.job_core.proofs.owner_jobs.OwnerJobs.by_key.Goals as goal

pub returns : goal.returns
returns c =
    shown-copied c.get.result ∙ ap (option_map stored) c.get.ensures.value
    ∙ sym (find-stored_jobs c.args.key.now c.self.inside.jobs.entries c.self.invariant.by_key)
    ∙ ap (find (λ (j : StoredJob). bytes_eq c.args.key.now j.key)) c.self.view_is
