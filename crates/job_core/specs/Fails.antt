-- Which calls of the keeper in memory fail.
use Rattle.std.specs.Prelude.{◌≡◌, ℕ, ◌+◌, ◌-◌, ◌^◌, ◌↔◌, ◌==◌, min, List, IsTrue, Result, IsErrOf}
use Rattle.std.specs.List.{list_any}
use Rattle.job_core.specs.declared.fault.KeepFault.{KeepFault}
use Rattle.job_core.specs.declared.fault.KeepFault.TheVariants.{Failed}
use Rattle.job_core.specs.declared.memory.tally.Tally.{Tally}

-- no call so far, and the numbers, from 1, of those that are to fail
pub record IsFresh (failing : List ℕ) (tally : Tally) : Type 0 where
  pub listed : tally.failing.items ≡ failing
  pub calls : tally.calls ≡ 0
  pub faults : tally.faults ≡ 0

-- the number of the next call, up to the largest that is counted
abbrev pub next_call : Tally → ℕ
next_call tally = min (tally.calls + 1) (2 ^ 64 - 1)

-- a call is counted, and answers `Failed` exactly where its number is listed
pub record Fails {T : Type 0} (before after : Tally) (result : Result T KeepFault) : Type 0 where
  pub answer : IsErrOf result Failed ↔ IsTrue (list_any (λ n. n == next_call before) before.failing.items)
  pub counted : after.calls ≡ next_call before
  pub listed : after.failing.items ≡ before.failing.items
