-- Paths of uploaded files, and files in the order of their paths.
use Rattle.std.specs.Prelude.{◌≡◌, ℕ, ◌+◌, ◌≤◌, ◌==◌, ◌&&◌, Bool, true, false, List, [], ◌∷◌, codes, nat_eq, Option, None, Some, Vec, if◌then◌else◌}
use Rattle.std.specs.Cmp.Lexicographic.{slice_cmp}
use Rattle.std.specs.List.{ends_with, list_all}
use Rattle.std.specs.List.Sorted.{IsPermutation}
use Rattle.std.specs.Ordering.{is_lt, nat_cmp}
use Rattle.std.specs.Str.{bytes_eq}
use Rattle.std.specs.declared.alloc.Global.{Global}
use Rattle.io_ports.specs.Files.{File, IsTree}
use Rattle.upload_order.specs.declared.paths.Part.{Part}
use Rattle.upload_order.specs.declared.paths.Part.TheVariants.{Empty, Dot, Dots, Named}

-- what came of a part of a path: whether it may end there, and the part with one byte more
abbrev pub may_end : Part → Bool
may_end Empty = false
may_end Dot = false
may_end Dots = false
may_end Named = true

abbrev pub longer : Part → ℕ → Part
longer Empty b = if b == 46 then Dot else Named
longer Dot b = if b == 46 then Dots else Named
longer Dots b = Named
longer Named b = Named

-- whether no part between slashes is empty, `.` or `..`, of which this came before
abbrev pub has_parts : Part → List ℕ → Bool
has_parts part [] = may_end part
has_parts part (b ∷ path) = if b == 47 then may_end part && has_parts Empty path else has_parts (longer part b) path

-- what comes of a part with the next byte: a path that goes on so has such parts as the rest, or none
abbrev pub Goes : Part → ℕ → Option Part → Type 0
Goes part b (Some next) = (path : List ℕ) → has_parts part (b ∷ path) ≡ has_parts next path
Goes part b None = (path : List ℕ) → has_parts part (b ∷ path) ≡ false

-- a path of a file of PHP
abbrev pub is_path : List ℕ → Bool
is_path path = ends_with nat_eq path (codes ".php") && has_parts Empty path

-- no path is less than the one before it
abbrev pub AreSorted : List File → Type 0
AreSorted [] = Unit {0}
AreSorted (f ∷ []) = Unit {0}
AreSorted (f ∷ g ∷ fs) = (is_lt (slice_cmp nat_cmp g.0 f.0) ≡ false) × AreSorted (g ∷ fs)

-- how often a path stands there
abbrev pub times : List ℕ → List File → ℕ
times path [] = 0
times path (f ∷ files) = if bytes_eq path f.0 then 1 + times path files else times path files

-- some path stands there twice
abbrev pub Repeats : List File → Type 0
Repeats files = (path : List ℕ) × (2 ≤ times path files)

-- the files, each path below the next, and each of them a path of PHP
pub record Orders (files sorted : List File) : Type 0 where
  pub same : IsPermutation files sorted
  pub tree : IsTree sorted
  pub paths : list_all (λ f. is_path f.0) files ≡ true

-- the files in order, or that they have none
abbrev pub Ordered : List File → Option (Vec File Global) → Type 0
Ordered files (Some sorted) = Orders files sorted.items
Ordered files None = (sorted : List File) → ¬ (Orders files sorted)
