-- A number that rises with each strict step up the order: this project's own.
use Rattle.std.specs.Prelude.{ℕ, zero, suc, ◌+◌, List, length}
use Rattle.std.specs.Int.{bit_at}
use Rattle.scalar_types.specs.Sets.{IsSubset}
use Rattle.scalar_types.specs.Terms.{Facts, TypeTerm, any, plain, array, flag_count}

-- how many of the lowest bits of a number are set
abbrev pub set_bits : ℕ → ℕ → ℕ
set_bits zero bits = 0
set_bits (suc k) bits = bit_at bits k + set_bits k bits

-- how many bits, flags and classes there are
abbrev pub fact_count : Facts → ℕ
fact_count f = set_bits 11 f.bits + flag_count f.neg + flag_count f.text_keys + length f.classes

-- The rank of Any at a depth, where there are so many labels and classes: 14, one for each label and one for each
-- class, at each depth.
abbrev pub top_rank : ℕ → ℕ → ℕ → ℕ
top_rank labels classes zero = 14 + labels + classes
top_rank labels classes (suc depth) = 14 + labels + classes + top_rank labels classes depth

-- The rank of a type whose elements nest to a depth: how many bits, flags, classes and labels it has, and the rank of
-- its element. Beside the element Any all labels count.
abbrev pub rank : ℕ → ℕ → ℕ → TypeTerm → ℕ
rank labels classes depth any = top_rank labels classes depth
rank labels classes depth (plain f) = fact_count f + length f.shared
rank labels classes zero (array f e) = fact_count f + labels
rank labels classes (suc depth) (array f any) = fact_count f + labels + top_rank labels classes depth
rank labels classes (suc depth) (array f (plain g)) = fact_count f + length f.shared + rank labels classes depth (plain g)
rank labels classes (suc depth) (array f (array g e)) =
    fact_count f + length f.shared + rank labels classes depth (array g e)

-- only these labels and these classes stand in a type, at each depth
abbrev pub UsesOnly : List ℕ → List ℕ → TypeTerm → Type 0
UsesOnly labels classes any = Unit {0}
UsesOnly labels classes (plain f) = IsSubset f.shared labels × IsSubset f.classes classes
UsesOnly labels classes (array f e) =
    IsSubset f.shared labels × IsSubset f.classes classes × UsesOnly labels classes e
