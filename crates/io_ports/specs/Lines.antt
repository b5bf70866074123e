-- Reports as text. The forms are this project's own.
use Rattle.std.specs.Prelude.{ℕ, zero, suc, ◌+◌, ◌==◌, max, List, [], ◌∷◌, ◌++◌, codes, count_by, decimal, if◌then◌else◌}
use Rattle.serde_json.specs.Data.{Data, number, string, object, unsigned, member, no_members}
use Rattle.serde_json.specs.Written.{compact_text}
use Rattle.io_ports.specs.Names.{code_text, cause_text, weight_name}
use Rattle.io_ports.specs.declared.report.Report.{Report}

-- the byte that ends a line
abbrev pub newline : List ℕ
newline = 10 ∷ []

-- `PATH:START-END CODE CAUSE WEIGHT`
abbrev pub line : Report → List ℕ
line r =
    r.path ++ codes ":" ++ decimal r.span.start ++ codes "-" ++ decimal r.span.end
    ++ codes " " ++ code_text r.code ++ codes " " ++ cause_text r.cause ++ codes " " ++ weight_name r.weight ++ newline

-- the parts of a report as a JSON value, with its keys in byte order
abbrev pub json_value : (cause code : List ℕ) (end : ℕ) (path : List ℕ) (start : ℕ) (weight : List ℕ) → Data
json_value cause code end path start weight = object
    (member (codes "cause") (string cause)
    (member (codes "code") (string code)
    (member (codes "end") (number (unsigned end))
    (member (codes "path") (string path)
    (member (codes "start") (number (unsigned start))
    (member (codes "weight") (string weight) no_members))))))

-- that value of a report, printed without blanks
abbrev pub json_line : Report → List ℕ
json_line r = compact_text (json_value (cause_text r.cause) (code_text r.code) r.span.end r.path r.span.start (weight_name r.weight)) ++ newline

-- how many reports have a code
abbrev pub count_of : ℕ → List Report → ℕ
count_of code reports = count_by (λ r. r.code == code) reports

-- `CODE N`, where N reports have the code, N above 0
abbrev pub count_line : ℕ → List Report → List ℕ
count_line code reports =
    if count_of code reports == 0 then []
    else code_text code ++ codes " " ++ decimal (count_of code reports) ++ newline

-- those lines of all numbers below one, in order
abbrev pub count_lines_below : ℕ → List Report → List ℕ
count_lines_below zero reports = []
count_lines_below (suc n) reports = count_lines_below n reports ++ count_line n reports

-- one more than the largest code of the reports, or 0
abbrev pub code_bound : List Report → ℕ
code_bound [] = 0
code_bound (r ∷ rs) = max (r.code + 1) (code_bound rs)

-- those lines of all codes that reports have
unfoldable pub count_lines : List Report → List ℕ
count_lines reports = count_lines_below (code_bound reports) reports
