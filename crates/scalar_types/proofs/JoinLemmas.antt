-- The join is the least type above both.
use Rattle.std.proofs.Common.{ℕ, List, inl, inr, refl, arith}
use Rattle.std.specs.List.Sorted.{IsStrictlyIncreasing}
use Rattle.std.proofs.lemmas.Bool.{or_left, or_right, or_cases}
use Rattle.std.proofs.lemmas.Nat.Bits.{bit_at_or}
use lib.Bits.{or_lt}
use Rattle.scalar_types.specs.Sets.{IsSubset, union}
use Rattle.scalar_types.specs.Terms.{Facts, TypeTerm, any, plain, array, AreFactsWellFormed, IsWellFormed, NoLabelsAtAny}
use Rattle.scalar_types.specs.Order.{FactsAmong, LabelsAmong, Below}
use Rattle.scalar_types.specs.Join.{labels_beside, joined_facts, join_of}
use Rattle.scalar_types.proofs.SetLemmas.{Has-subset, subset_from_Has, Ascends-from_increasing, increasing_from_Ascends, Has-union, Has-from_union, Ascends-union}
use Rattle.scalar_types.proofs.BitLemmas.{BitsAmong-or_left, BitsAmong-or_right, BitsAmong-or}
use Rattle.scalar_types.proofs.OrderLemmas.{IsSubset-refl, IsSubset-nil, LabelsAmong-after, Below-refl}

-- ---- sets

pub IsSubset-union_left : (xs ys : List ℕ) → IsSubset xs (union xs ys)
IsSubset-union_left xs ys = subset_from_Has xs (union xs ys) (λ z h. Has-union xs ys z (inl h))

pub IsSubset-union_right : (xs ys : List ℕ) → IsSubset ys (union xs ys)
IsSubset-union_right xs ys = subset_from_Has ys (union xs ys) (λ z h. Has-union xs ys z (inr h))

pub IsSubset-union : (xs ys zs : List ℕ) → IsSubset xs zs → IsSubset ys zs → IsSubset (union xs ys) zs
IsSubset-union xs ys zs s t =
    subset_from_Has (union xs ys) zs
    (λ z h. elim (Has-from_union xs ys z h) [ inl p ↦ Has-subset xs zs s z p | inr p ↦ Has-subset ys zs t z p ])

-- ---- facts

pub FactsAmong-joined_left : (f g : Facts) (xs : List ℕ) → FactsAmong f (joined_facts f g xs)
FactsAmong-joined_left f g xs = record {
  bits = BitsAmong-or_left f.bits g.bits;
  neg = λ e. or_left f.neg g.neg e;
  text_keys = λ e. or_left f.text_keys g.text_keys e;
  classes = IsSubset-union_left f.classes g.classes;
}

pub FactsAmong-joined_right : (f g : Facts) (xs : List ℕ) → FactsAmong g (joined_facts f g xs)
FactsAmong-joined_right f g xs = record {
  bits = BitsAmong-or_right f.bits g.bits;
  neg = λ e. or_right f.neg g.neg e;
  text_keys = λ e. or_right f.text_keys g.text_keys e;
  classes = IsSubset-union_right f.classes g.classes;
}

pub FactsAmong-joined : (f g k : Facts) (xs : List ℕ) → FactsAmong f k → FactsAmong g k → FactsAmong (joined_facts f g xs) k
FactsAmong-joined f g k xs h l = record {
  bits = BitsAmong-or f.bits g.bits k.bits h.bits l.bits;
  neg = λ e. elim (or_cases f.neg g.neg e) [ inl p ↦ h.neg p | inr p ↦ l.neg p ];
  text_keys = λ e. elim (or_cases f.text_keys g.text_keys e) [ inl p ↦ h.text_keys p | inr p ↦ l.text_keys p ];
  classes = IsSubset-union f.classes g.classes k.classes h.classes l.classes;
}

-- ---- labels

pub LabelsAmong-beside : (xs all : List ℕ) (e : TypeTerm) → IsSubset xs all → LabelsAmong xs (labels_beside e all) e
LabelsAmong-beside xs all any s = tt
LabelsAmong-beside xs all (plain g) s = s
LabelsAmong-beside xs all (array g e) s = s

pub IsSubset-beside : (all : List ℕ) (e : TypeTerm) → IsSubset (labels_beside e all) all
IsSubset-beside all any = IsSubset-nil all
IsSubset-beside all (plain g) = IsSubset-refl all
IsSubset-beside all (array g e) = IsSubset-refl all

pub LabelsAmong-union : (xs ys zs : List ℕ) (e : TypeTerm) → LabelsAmong xs zs e → LabelsAmong ys zs e → LabelsAmong (union xs ys) zs e
LabelsAmong-union xs ys zs any s t = tt
LabelsAmong-union xs ys zs (plain g) s t = IsSubset-union xs ys zs s t
LabelsAmong-union xs ys zs (array g e) s t = IsSubset-union xs ys zs s t

pub LabelsAmong-joined : (xs ys zs : List ℕ) (d e : TypeTerm) → LabelsAmong xs zs e → LabelsAmong ys zs e → LabelsAmong (labels_beside d (union xs ys)) zs e
LabelsAmong-joined xs ys zs d e s t =
    LabelsAmong-after (labels_beside d (union xs ys)) (union xs ys) zs e (IsSubset-beside (union xs ys) d) (LabelsAmong-union xs ys zs e s t)

-- ---- types

pub Below-join_left : (a b : TypeTerm) → Below a (join_of a b)
Below-join_left any any = tt
Below-join_left any (plain g) = tt
Below-join_left any (array g e) = tt
Below-join_left (plain f) any = tt
Below-join_left (plain f) (plain g) = (FactsAmong-joined_left f g _, IsSubset-union_left f.shared g.shared)
Below-join_left (plain f) (array g e) =
    (FactsAmong-joined_left f g _, LabelsAmong-beside f.shared (union f.shared g.shared) e (IsSubset-union_left f.shared g.shared))
Below-join_left (array f d) any = tt
Below-join_left (array f d) (plain g) =
    (FactsAmong-joined_left f g _, Below-refl d, LabelsAmong-beside f.shared (union f.shared g.shared) d (IsSubset-union_left f.shared g.shared))
Below-join_left (array f d) (array g e) =
    (FactsAmong-joined_left f g _, Below-join_left d e, LabelsAmong-beside f.shared (union f.shared g.shared) (join_of d e) (IsSubset-union_left f.shared g.shared))

pub Below-join_right : (a b : TypeTerm) → Below b (join_of a b)
Below-join_right any any = tt
Below-join_right any (plain g) = tt
Below-join_right any (array g e) = tt
Below-join_right (plain f) any = tt
Below-join_right (plain f) (plain g) = (FactsAmong-joined_right f g _, IsSubset-union_right f.shared g.shared)
Below-join_right (plain f) (array g e) =
    (FactsAmong-joined_right f g _, Below-refl e, LabelsAmong-beside g.shared (union f.shared g.shared) e (IsSubset-union_right f.shared g.shared))
Below-join_right (array f d) any = tt
Below-join_right (array f d) (plain g) =
    (FactsAmong-joined_right f g _, LabelsAmong-beside g.shared (union f.shared g.shared) d (IsSubset-union_right f.shared g.shared))
Below-join_right (array f d) (array g e) =
    (FactsAmong-joined_right f g _, Below-join_right d e, LabelsAmong-beside g.shared (union f.shared g.shared) (join_of d e) (IsSubset-union_right f.shared g.shared))

pub Below-join : (a b u : TypeTerm) → Below a u → Below b u → Below (join_of a b) u
Below-join any any u h k = h
Below-join any (plain g) u h k = h
Below-join any (array g e) u h k = h
Below-join (plain f) any u h k = k
Below-join (array f d) any u h k = k
Below-join (plain f) (plain g) any h k = tt
Below-join (plain f) (plain g) (plain m) h k =
    (FactsAmong-joined f g m _ h.0 k.0, IsSubset-union f.shared g.shared m.shared h.1 k.1)
Below-join (plain f) (plain g) (array m w) h k =
    (FactsAmong-joined f g m _ h.0 k.0, LabelsAmong-union f.shared g.shared m.shared w h.1 k.1)
Below-join (plain f) (array g e) any h k = tt
Below-join (plain f) (array g e) (plain m) h k = absurd k
Below-join (plain f) (array g e) (array m w) h k =
    (FactsAmong-joined f g m _ h.0 k.0, k.1, LabelsAmong-joined f.shared g.shared m.shared e w h.1 k.2)
Below-join (array f d) (plain g) any h k = tt
Below-join (array f d) (plain g) (plain m) h k = absurd h
Below-join (array f d) (plain g) (array m w) h k =
    (FactsAmong-joined f g m _ h.0 k.0, h.1, LabelsAmong-joined f.shared g.shared m.shared d w h.2 k.1)
Below-join (array f d) (array g e) any h k = tt
Below-join (array f d) (array g e) (plain m) h k = absurd h
Below-join (array f d) (array g e) (array m w) h k =
    (FactsAmong-joined f g m _ h.0 k.0, Below-join d e w h.1 k.1, LabelsAmong-joined f.shared g.shared m.shared (join_of d e) w h.2 k.2)

-- ---- well-formed joins

pub increasing-union : (xs ys : List ℕ) → IsStrictlyIncreasing ys → IsStrictlyIncreasing (union xs ys)
increasing-union xs ys b = increasing_from_Ascends (union xs ys) (Ascends-union xs ys (Ascends-from_increasing ys b))

increasing-beside : (xs : List ℕ) (e : TypeTerm) → IsStrictlyIncreasing xs → IsStrictlyIncreasing (labels_beside e xs)
increasing-beside xs any a = λ k w. absurd (omega (arith, w))
increasing-beside xs (plain g) a = a
increasing-beside xs (array g e) a = a

NoLabelsAtAny-beside : (xs : List ℕ) (e : TypeTerm) → NoLabelsAtAny (labels_beside e xs) e
NoLabelsAtAny-beside xs any = refl
NoLabelsAtAny-beside xs (plain g) = tt
NoLabelsAtAny-beside xs (array g e) = tt

well_formed-joined : (f g : Facts) (xs : List ℕ) → AreFactsWellFormed f → AreFactsWellFormed g → IsStrictlyIncreasing xs → AreFactsWellFormed (joined_facts f g xs)
well_formed-joined f g xs v w a = record {
  eleven_bits = or_lt 11 f.bits g.bits v.eleven_bits w.eleven_bits;
  labels_ascend = a;
  classes_ascend = increasing-union f.classes g.classes w.classes_ascend;
}

pub IsWellFormed-join : (a b : TypeTerm) → IsWellFormed a → IsWellFormed b → IsWellFormed (join_of a b)
IsWellFormed-join any any v w = tt
IsWellFormed-join any (plain g) v w = tt
IsWellFormed-join any (array g e) v w = tt
IsWellFormed-join (plain f) any v w = tt
IsWellFormed-join (array f d) any v w = tt
IsWellFormed-join (plain f) (plain g) v w =
    (well_formed-joined f g _ v.0 w.0 (increasing-union f.shared g.shared w.0.labels_ascend), omega (arith, bit_at_or f.bits g.bits 9, v.1, w.1))
IsWellFormed-join (plain f) (array g e) v w = (
  well_formed-joined f g _ v.0 w.0 (increasing-beside (union f.shared g.shared) e (increasing-union f.shared g.shared w.0.labels_ascend)),
  omega (arith, bit_at_or f.bits g.bits 9, v.1, w.1),
  NoLabelsAtAny-beside (union f.shared g.shared) e,
  w.3,
)
IsWellFormed-join (array f d) (plain g) v w = (
  well_formed-joined f g _ v.0 w.0 (increasing-beside (union f.shared g.shared) d (increasing-union f.shared g.shared w.0.labels_ascend)),
  omega (arith, bit_at_or f.bits g.bits 9, v.1, w.1),
  NoLabelsAtAny-beside (union f.shared g.shared) d,
  v.3,
)
IsWellFormed-join (array f d) (array g e) v w = (
  well_formed-joined f g _ v.0 w.0 (increasing-beside (union f.shared g.shared) (join_of d e) (increasing-union f.shared g.shared w.0.labels_ascend)),
  omega (arith, bit_at_or f.bits g.bits 9, v.1, w.1),
  NoLabelsAtAny-beside (union f.shared g.shared) (join_of d e),
  IsWellFormed-join d e v.3 w.3,
)
