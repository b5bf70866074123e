-- What the keepers in memory hold, and which of their calls fail.
use Rattle.std.specs.Prelude.{ℕ, List}
use Rattle.job_core.specs.Job.{StoredJob}
use Rattle.job_core.specs.declared.calm.CalmKeeper.{CalmKeeper}
use Rattle.job_core.specs.declared.memory.MemoryKeeper.{MemoryKeeper}
use Rattle.job_core.specs.declared.memory.tally.Tally.{Tally}

-- the jobs
abbrev pub memory_keeper_jobs : MemoryKeeper → List StoredJob
memory_keeper_jobs k = k.jobs

abbrev pub calm_keeper_jobs : CalmKeeper → List StoredJob
calm_keeper_jobs k = k.jobs

-- which calls are to fail, and how many calls and faults there were
abbrev pub memory_keeper_tally : MemoryKeeper → Tally
memory_keeper_tally k = k.tally

-- how often a call failed
abbrev pub memory_keeper_faults : MemoryKeeper → ℕ
memory_keeper_faults k = k.tally.faults
