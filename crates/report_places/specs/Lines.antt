-- A line of a file of reports, as `docs/FORMATS.md` has it.
use Rattle.std.specs.Prelude.{ℕ, List, ◌++◌, codes}
use Rattle.report_places.specs.declared.line.ReportLine.{ReportLine}

-- `PATH:START-END CODE CAUSE WEIGHT`
abbrev pub line_of : ReportLine → List ℕ
line_of r =
    r.path.now ++ codes ":" ++ r.start.now ++ codes "-" ++ r.end.now ++ codes " " ++ r.code.now ++ codes " " ++ r.cause.now
    ++ codes " " ++ r.weight.now
