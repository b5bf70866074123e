use Rattle.job_core.proofs.MachineLemmas.{answers_to-answers, jobs_of-jobs_after_all}
use Rattle.job_core.proofs.laws.owners_are_apart.Goals as goal

pub returns-clause-answers : goal.returns-clause-answers
returns-clause-answers c = answers_to-answers

pub returns-clause-jobs : goal.returns-clause-jobs
returns-clause-jobs c = jobs_of-jobs_after_all
