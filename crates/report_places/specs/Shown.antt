-- How a report is shown beside its source.
use Rattle.std.specs.Prelude.{ℕ, ◌-◌, ◌==◌, if◌then◌else◌, List, ◌++◌, codes, decimal, map, length, take, replicate, max, min}
use Rattle.report_places.specs.declared.line.ReportLine.{ReportLine}
use Rattle.report_places.specs.declared.place.Place.{Place}
use Rattle.report_places.specs.Places.{place_at, line_at}

-- `PATH:LINE:COLUMN: CODE CAUSE WEIGHT`
abbrev pub head : ReportLine → Place → List ℕ
head r place =
    r.path.now ++ codes ":" ++ decimal place.line ++ codes ":" ++ decimal place.column ++ codes ": " ++ r.code.now
    ++ codes " " ++ r.cause.now ++ codes " " ++ r.weight.now ++ codes "\n"

-- below the bytes in front of a marked place stands a blank for each, and a tab for a tab
abbrev pub blanks : List ℕ → List ℕ
blanks front = map (λ b. if b == 9 then 9 else 32) front

-- how many bytes of a line are marked: those of the place within the line, and at least one
abbrev pub marked : List ℕ → ℕ → ℕ → ℕ
marked line before count = max 1 (min count (length line - before))

-- a line, and below it the mark of a place of so many bytes behind so many
abbrev pub marked_line : List ℕ → ℕ → ℕ → List ℕ
marked_line line before count =
    line ++ codes "\n" ++ blanks (take before line) ++ replicate (marked line before count) 94 ++ codes "\n"

-- a report of the bytes from one place to another
abbrev pub shown : ReportLine → List ℕ → ℕ → ℕ → List ℕ
shown r source start end =
    head r (place_at source start) ++ marked_line (line_at source start) ((place_at source start).column - 1) (end - start)
