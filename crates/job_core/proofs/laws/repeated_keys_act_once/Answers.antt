use Rattle.job_core.proofs.RepeatLemmas.{repeated}
use Rattle.job_core.proofs.laws.repeated_keys_act_once.Goals as goal

pub returns-clause-jobs : goal.returns-clause-jobs
returns-clause-jobs c =
    λ owner key request made again first between jobs. (repeated owner key request made again first between jobs).jobs

pub returns-clause-answer : goal.returns-clause-answer
returns-clause-answer c =
    λ owner key request made again first between jobs. (repeated owner key request made again first between jobs).answer
