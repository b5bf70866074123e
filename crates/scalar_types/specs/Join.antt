-- Joins, meets, flattening and elements of types: this project's own.
use Rattle.std.specs.Prelude.{◌≡◌, ℕ, zero, suc, ◌&&◌, ◌||◌, bit_and, bit_or, List, []}
use Rattle.scalar_types.specs.Sets.{union, intersection}
use Rattle.scalar_types.specs.Terms.{Facts, TypeTerm, any, plain, array, with_labels, of_bits}

-- ---- joins

-- labels beside an element: none where it is Any
abbrev pub labels_beside : TypeTerm → List ℕ → List ℕ
labels_beside any xs = []
labels_beside (plain f) xs = xs
labels_beside (array f e) xs = xs

-- the bits, flags and classes of either, with these labels
abbrev pub joined_facts : Facts → Facts → List ℕ → Facts
joined_facts f g shared = record {
  bits = bit_or f.bits g.bits;
  neg = f.neg || g.neg;
  text_keys = f.text_keys || g.text_keys;
  shared = shared;
  classes = union f.classes g.classes;
}

-- an array of either's facts, with this element
abbrev pub joined_array : Facts → Facts → TypeTerm → TypeTerm
joined_array f g e = array (joined_facts f g (labels_beside e (union f.shared g.shared))) e

-- The join: Any where either is; else the bits, flags, classes and labels of either, and the join of their elements.
abbrev pub join_of : TypeTerm → TypeTerm → TypeTerm
join_of any any = any
join_of any (plain g) = any
join_of any (array g e) = any
join_of (plain f) any = any
join_of (plain f) (plain g) = plain (joined_facts f g (union f.shared g.shared))
join_of (plain f) (array g e) = joined_array f g e
join_of (array f d) any = any
join_of (array f d) (plain g) = joined_array f g d
join_of (array f d) (array g e) = joined_array f g (join_of d e)

-- ---- meets

-- the bits, flags and classes of both, with these labels
abbrev pub common_facts : Facts → Facts → List ℕ → Facts
common_facts f g shared = record {
  bits = bit_and f.bits g.bits;
  neg = f.neg && g.neg;
  text_keys = f.text_keys && g.text_keys;
  shared = shared;
  classes = intersection f.classes g.classes;
}

-- The meet: of Any with a type, that type; of two known types, the bits, flags and classes that stand in both and,
-- where both may be arrays, the meet of their elements and the labels of either.
abbrev pub meet_of : TypeTerm → TypeTerm → TypeTerm
meet_of any any = any
meet_of any (plain g) = plain g
meet_of any (array g e) = array g e
meet_of (plain f) any = plain f
meet_of (plain f) (plain g) = plain (common_facts f g [])
meet_of (plain f) (array g e) = plain (common_facts f g [])
meet_of (array f d) any = array f d
meet_of (array f d) (plain g) = plain (common_facts f g [])
meet_of (array f d) (array g e) = array (common_facts f g (union f.shared g.shared)) (meet_of d e)

-- ---- flattening

-- Any in place of each element that stands deeper than a depth: the element of a type stands at depth 1, the element
-- of that at depth 2, and so on
abbrev pub flattened : ℕ → TypeTerm → TypeTerm
flattened depth any = any
flattened depth (plain f) = plain f
flattened zero (array f e) = array (with_labels f []) any
flattened (suc depth) (array f e) = array f (flattened depth e)

-- each element that stands deeper than a depth is Any
abbrev pub NestsTo : ℕ → TypeTerm → Type 0
NestsTo depth any = Unit {0}
NestsTo depth (plain f) = Unit {0}
NestsTo zero (array f any) = Unit {0}
NestsTo zero (array f (plain g)) = ⊥
NestsTo zero (array f (array g e)) = ⊥
NestsTo (suc depth) (array f e) = NestsTo depth e

-- ---- elements

-- the type of no value
abbrev pub nothing : TypeTerm
nothing = of_bits 0

-- the type of an element: Any of Any; of no value where the type is no array's
abbrev pub element_of : TypeTerm → TypeTerm
element_of any = any
element_of (plain f) = nothing
element_of (array f e) = e

-- labels stand beside an element alone, at each depth
abbrev pub HasNoLabelsAlone : TypeTerm → Type 0
HasNoLabelsAlone any = Unit {0}
HasNoLabelsAlone (plain f) = f.shared ≡ []
HasNoLabelsAlone (array f e) = HasNoLabelsAlone e
