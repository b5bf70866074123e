-- A verdict with its note: `{"note":T,"verdict":V}`.
use Rattle.std.specs.Prelude.{ℕ, ◌==◌, ◌&&◌, List, length, codes, nat_le, Option, None, Some, option_and_then, if◌then◌else◌}
use Rattle.std.specs.Option.{option_map}
use Rattle.std.specs.Str.{bytes_eq}
use Rattle.serde_json.specs.Data.{Data}
use Rattle.job_core.specs.declared.job.Verdict.{Verdict}
use Rattle.job_core.specs.declared.job.Verdict.TheVariants.{Accept, Reject}
use Rattle.review_bodies.specs.Json.{size, text_at}
use Rattle.review_bodies.specs.declared.judgement.Judgement.{Judgement}

-- the words of a verdict
abbrev pub verdict_of : List ℕ → Option Verdict
verdict_of word =
    if bytes_eq word (codes "accept") then Some Accept else if bytes_eq word (codes "reject") then Some Reject else None

-- a note of at most 1,000 bytes, with a verdict
abbrev pub noted : Verdict → List ℕ → Option Judgement
noted verdict note = if nat_le (length note) 1000 then Some (record { verdict = verdict; note = note }) else None

-- an object with exactly the keys note and verdict
abbrev pub judgement_of : Data → Option Judgement
judgement_of d =
    if size d == 2
    then option_and_then (λ note. option_and_then (λ word. option_and_then (λ verdict. noted verdict note) (verdict_of word)) (text_at (codes "verdict") d)) (text_at (codes "note") d)
    else None
