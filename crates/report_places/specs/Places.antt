-- Lines and columns: lines end with a newline, both are counted from 1, and columns count bytes.
use Rattle.std.specs.Prelude.{ℕ, ◌+◌, ◌-◌, ◌==◌, not, List, reverse, take, drop, count_by}
use Rattle.std.specs.List.{prefix_len}
use Rattle.report_places.specs.declared.place.Place.{Place}

-- how many line ends there are
abbrev pub line_ends : List ℕ → ℕ
line_ends bytes = count_by (λ b. b == 10) bytes

-- how many bytes stand before the first line end
abbrev pub before_line_end : List ℕ → ℕ
before_line_end bytes = prefix_len (λ b. not (b == 10)) bytes

-- how many bytes stand behind the last one
abbrev pub behind_line_end : List ℕ → ℕ
behind_line_end bytes = before_line_end (reverse bytes)

abbrev pub place_at : List ℕ → ℕ → Place
place_at source start = record {
  line = line_ends (take start source) + 1;
  column = behind_line_end (take start source) + 1;
}

-- the line that a place stands in, without its line end
abbrev pub line_at : List ℕ → ℕ → List ℕ
line_at source start =
    drop (start - behind_line_end (take start source)) (take (start + before_line_end (drop start source)) source)
