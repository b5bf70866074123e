-- Meets, flattening and elements.
use Rattle.std.specs.Int.{bit_at}
use Rattle.std.proofs.Common.{◌<◌, ◌≡◌, ℕ, zero, suc, false, List, [], refl, sym, ap, subst, ◌∙◌, arith}
use Rattle.std.specs.List.Sorted.{IsStrictlyIncreasing}
use Rattle.std.proofs.lemmas.Bool.{and_from, false≢true}
use Rattle.std.proofs.lemmas.List.Kept.{IsStrictlyIncreasing-filter}
use Rattle.std.proofs.lemmas.Nat.Bits.{bit_at_and, bit_at-zero}
use lib.Bits.{and_lt}
use Rattle.scalar_types.specs.Sets.{IsSubset, union, intersection}
use Rattle.scalar_types.specs.Terms.{Facts, TypeTerm, any, plain, array, with_labels, of_bits, AreFactsWellFormed, IsWellFormed, NoLabelsAtAny}
use Rattle.scalar_types.specs.Order.{FactsAmong, LabelsAmong, Below}
use Rattle.scalar_types.specs.Join.{join_of, common_facts, meet_of, flattened, NestsTo, element_of, nothing, HasNoLabelsAlone}
use Rattle.scalar_types.proofs.SetLemmas.{Has-subset, subset_from_Has, Has-intersection}
use Rattle.scalar_types.proofs.BitLemmas.{BitsAmong-and}
use Rattle.scalar_types.proofs.OrderLemmas.{IsSubset-refl, IsSubset-trans, IsSubset-nil, FactsAmong-refl, LabelsAmong-subset, Below-any, Below-refl}
use Rattle.scalar_types.proofs.JoinLemmas.{IsSubset-union_left, IsSubset-union_right, increasing-union}

-- ---- meets

FactsAmong-common : (k f g : Facts) (xs : List ℕ) → FactsAmong k f → FactsAmong k g → FactsAmong k (common_facts f g xs)
FactsAmong-common k f g xs h l = record {
  bits = BitsAmong-and f.bits g.bits k.bits h.bits l.bits;
  neg = λ e. and_from f.neg g.neg (h.neg e) (l.neg e);
  text_keys = λ e. and_from f.text_keys g.text_keys (h.text_keys e) (l.text_keys e);
  classes =
      subset_from_Has k.classes (intersection f.classes g.classes)
      (λ z p. Has-intersection f.classes g.classes z (Has-subset k.classes f.classes h.classes z p) (Has-subset k.classes g.classes l.classes z p));
}

-- labels among those of one or of the other stand beside the meet of the elements
LabelsAmong-meet : (xs ys zs : List ℕ) (d e : TypeTerm) → LabelsAmong xs ys d → LabelsAmong xs zs e → LabelsAmong xs (union ys zs) (meet_of d e)
LabelsAmong-meet xs ys zs any any s t = tt
LabelsAmong-meet xs ys zs any (plain g) s t = IsSubset-trans xs zs (union ys zs) t (IsSubset-union_right ys zs)
LabelsAmong-meet xs ys zs any (array g e) s t = IsSubset-trans xs zs (union ys zs) t (IsSubset-union_right ys zs)
LabelsAmong-meet xs ys zs (plain f) any s t = IsSubset-trans xs ys (union ys zs) s (IsSubset-union_left ys zs)
LabelsAmong-meet xs ys zs (plain f) (plain g) s t = IsSubset-trans xs ys (union ys zs) s (IsSubset-union_left ys zs)
LabelsAmong-meet xs ys zs (plain f) (array g e) s t = IsSubset-trans xs ys (union ys zs) s (IsSubset-union_left ys zs)
LabelsAmong-meet xs ys zs (array f d) any s t = IsSubset-trans xs ys (union ys zs) s (IsSubset-union_left ys zs)
LabelsAmong-meet xs ys zs (array f d) (plain g) s t = IsSubset-trans xs ys (union ys zs) s (IsSubset-union_left ys zs)
LabelsAmong-meet xs ys zs (array f d) (array g e) s t = IsSubset-trans xs ys (union ys zs) s (IsSubset-union_left ys zs)

-- what is below both is below the meet, where no label stands without an element
pub Below-meet : (l a b : TypeTerm) → HasNoLabelsAlone l → Below l a → Below l b → Below l (meet_of a b)
Below-meet l any any n h k = h
Below-meet l any (plain g) n h k = k
Below-meet l any (array g e) n h k = k
Below-meet l (plain f) any n h k = h
Below-meet l (array f d) any n h k = h
Below-meet any (plain f) (plain g) n h k = h
Below-meet any (plain f) (array g e) n h k = h
Below-meet any (array f d) (plain g) n h k = h
Below-meet any (array f d) (array g e) n h k = h
Below-meet (plain m) (plain f) (plain g) n h k = (FactsAmong-common m f g _ h.0 k.0, subst (λ xs. IsSubset xs []) (sym n) (IsSubset-refl []))
Below-meet (plain m) (plain f) (array g e) n h k = (FactsAmong-common m f g _ h.0 k.0, subst (λ xs. IsSubset xs []) (sym n) (IsSubset-refl []))
Below-meet (plain m) (array f d) (plain g) n h k = (FactsAmong-common m f g _ h.0 k.0, subst (λ xs. IsSubset xs []) (sym n) (IsSubset-refl []))
Below-meet (plain m) (array f d) (array g e) n h k = (
  FactsAmong-common m f g _ h.0 k.0,
  LabelsAmong-subset m.shared (union f.shared g.shared) (meet_of d e)
      (subst (λ xs. IsSubset xs (union f.shared g.shared)) (sym n) (IsSubset-nil _)),
)
Below-meet (array m w) (plain f) (plain g) n h k = absurd h
Below-meet (array m w) (plain f) (array g e) n h k = absurd h
Below-meet (array m w) (array f d) (plain g) n h k = absurd k
Below-meet (array m w) (array f d) (array g e) n h k =
    (FactsAmong-common m f g _ h.0 k.0, Below-meet w d e n h.1 k.1, LabelsAmong-meet m.shared f.shared g.shared d e h.2 k.2)

well_formed-common : (f g : Facts) (xs : List ℕ) → AreFactsWellFormed f → AreFactsWellFormed g → IsStrictlyIncreasing xs → AreFactsWellFormed (common_facts f g xs)
well_formed-common f g xs v w a = record {
  eleven_bits = and_lt 11 f.bits g.bits v.eleven_bits w.eleven_bits;
  labels_ascend = a;
  classes_ascend = IsStrictlyIncreasing-filter _ f.classes v.classes_ascend;
}

increasing-nil : IsStrictlyIncreasing []
increasing-nil k w = absurd (omega (arith, w))

NoLabelsAtAny-meet : (xs ys : List ℕ) (d e : TypeTerm) → NoLabelsAtAny xs d → NoLabelsAtAny ys e → NoLabelsAtAny (union xs ys) (meet_of d e)
NoLabelsAtAny-meet xs ys any any v w = ap (λ l. union l ys) v ∙ w
NoLabelsAtAny-meet xs ys any (plain g) v w = tt
NoLabelsAtAny-meet xs ys any (array g e) v w = tt
NoLabelsAtAny-meet xs ys (plain f) any v w = tt
NoLabelsAtAny-meet xs ys (plain f) (plain g) v w = tt
NoLabelsAtAny-meet xs ys (plain f) (array g e) v w = tt
NoLabelsAtAny-meet xs ys (array f d) any v w = tt
NoLabelsAtAny-meet xs ys (array f d) (plain g) v w = tt
NoLabelsAtAny-meet xs ys (array f d) (array g e) v w = tt

pub IsWellFormed-meet : (a b : TypeTerm) → IsWellFormed a → IsWellFormed b → IsWellFormed (meet_of a b)
IsWellFormed-meet any any v w = tt
IsWellFormed-meet any (plain g) v w = w
IsWellFormed-meet any (array g e) v w = w
IsWellFormed-meet (plain f) any v w = v
IsWellFormed-meet (array f d) any v w = v
IsWellFormed-meet (plain f) (plain g) v w = (well_formed-common f g [] v.0 w.0 increasing-nil, omega (arith, bit_at_and f.bits g.bits 9, v.1, w.1))
IsWellFormed-meet (plain f) (array g e) v w = (well_formed-common f g [] v.0 w.0 increasing-nil, omega (arith, bit_at_and f.bits g.bits 9, v.1, w.1))
IsWellFormed-meet (array f d) (plain g) v w = (well_formed-common f g [] v.0 w.0 increasing-nil, omega (arith, bit_at_and f.bits g.bits 9, v.1, w.1))
IsWellFormed-meet (array f d) (array g e) v w = (
  well_formed-common f g _ v.0 w.0 (increasing-union f.shared g.shared w.0.labels_ascend),
  omega (arith, bit_at_and f.bits g.bits 9, v.1, w.1),
  NoLabelsAtAny-meet f.shared g.shared d e v.2 w.2,
  IsWellFormed-meet d e v.3 w.3,
)

-- ---- flattening

FactsAmong-with_labels : (f : Facts) (xs : List ℕ) → FactsAmong f (with_labels f xs)
FactsAmong-with_labels f xs =
    let r = FactsAmong-refl f in
    record { bits = r.bits; neg = r.neg; text_keys = r.text_keys; classes = r.classes }

pub Below-flattened : (n : ℕ) (a : TypeTerm) → Below a (flattened n a)
Below-flattened n any = tt
Below-flattened n (plain f) = Below-refl (plain f)
Below-flattened zero (array f e) = (FactsAmong-with_labels f [], Below-any e, tt)
Below-flattened (suc n) (array f e) =
    (FactsAmong-refl f, Below-flattened n e, LabelsAmong-subset f.shared f.shared (flattened n e) (IsSubset-refl f.shared))

pub NestsTo-flattened : (n : ℕ) (a : TypeTerm) → NestsTo n (flattened n a)
NestsTo-flattened n any = tt
NestsTo-flattened n (plain f) = tt
NestsTo-flattened zero (array f e) = tt
NestsTo-flattened (suc n) (array f e) = NestsTo-flattened n e

NoLabelsAtAny-flattened : (xs : List ℕ) (n : ℕ) (e : TypeTerm) → NoLabelsAtAny xs e → NoLabelsAtAny xs (flattened n e)
NoLabelsAtAny-flattened xs n any v = v
NoLabelsAtAny-flattened xs n (plain f) v = tt
NoLabelsAtAny-flattened xs zero (array f e) v = tt
NoLabelsAtAny-flattened xs (suc n) (array f e) v = tt

pub IsWellFormed-flattened : (n : ℕ) (a : TypeTerm) → IsWellFormed a → IsWellFormed (flattened n a)
IsWellFormed-flattened n any v = tt
IsWellFormed-flattened n (plain f) v = v
IsWellFormed-flattened zero (array f e) v =
    (record { eleven_bits = v.0.eleven_bits; labels_ascend = increasing-nil; classes_ascend = v.0.classes_ascend }, v.1, refl, tt)
IsWellFormed-flattened (suc n) (array f e) v =
    (v.0, v.1, NoLabelsAtAny-flattened f.shared n e v.2, IsWellFormed-flattened n e v.3)

LabelsAmong-flattened : (xs ys : List ℕ) (n : ℕ) (e : TypeTerm) → LabelsAmong xs ys e → LabelsAmong xs ys (flattened n e)
LabelsAmong-flattened xs ys n any s = tt
LabelsAmong-flattened xs ys n (plain g) s = s
LabelsAmong-flattened xs ys zero (array g e) s = s
LabelsAmong-flattened xs ys (suc n) (array g e) s = s

FactsAmong-drop : (f g : Facts) (xs ys : List ℕ) → FactsAmong f g → FactsAmong (with_labels f xs) (with_labels g ys)
FactsAmong-drop f g xs ys h = record { bits = h.bits; neg = h.neg; text_keys = h.text_keys; classes = h.classes }

pub flattened-Below : (n : ℕ) (a b : TypeTerm) → Below a b → Below (flattened n a) (flattened n b)
flattened-Below n a any h = Below-any (flattened n a)
flattened-Below n any (plain g) h = absurd h
flattened-Below n any (array g e) h = absurd h
flattened-Below n (plain f) (plain g) h = h
flattened-Below zero (plain f) (array g e) h = (FactsAmong-drop f g f.shared [] h.0, tt)
flattened-Below (suc n) (plain f) (array g e) h = (h.0, LabelsAmong-flattened f.shared g.shared n e h.1)
flattened-Below n (array f d) (plain g) h = absurd h
flattened-Below zero (array f d) (array g e) h = (FactsAmong-drop f g [] [] h.0, tt, tt)
flattened-Below (suc n) (array f d) (array g e) h = (h.0, flattened-Below n d e h.1, LabelsAmong-flattened f.shared g.shared n e h.2)

-- a type that nests no deeper stays as it is
pub flattened-NestsTo : (n : ℕ) (a : TypeTerm) → IsWellFormed a → NestsTo n a → flattened n a ≡ a
flattened-NestsTo n any v h = refl
flattened-NestsTo n (plain f) v h = refl
flattened-NestsTo zero (array f any) v h = let e = sym v.2 in λ i. array (with_labels f (e i)) any
flattened-NestsTo zero (array f (plain g)) v h = absurd h
flattened-NestsTo zero (array f (array g e)) v h = absurd h
flattened-NestsTo (suc n) (array f e) v h = ap (array f) (flattened-NestsTo n e v.3 h)

-- ---- depth of joins and meets

pub NestsTo-join : (n : ℕ) (a b : TypeTerm) → NestsTo n a → NestsTo n b → NestsTo n (join_of a b)
NestsTo-join n any any h k = tt
NestsTo-join n any (plain g) h k = tt
NestsTo-join n any (array g e) h k = tt
NestsTo-join n (plain f) any h k = tt
NestsTo-join n (array f d) any h k = tt
NestsTo-join n (plain f) (plain g) h k = tt
NestsTo-join zero (plain f) (array g any) h k = tt
NestsTo-join zero (plain f) (array g (plain m)) h k = absurd k
NestsTo-join zero (plain f) (array g (array m e)) h k = absurd k
NestsTo-join (suc n) (plain f) (array g e) h k = k
NestsTo-join zero (array f any) (plain g) h k = tt
NestsTo-join zero (array f (plain m)) (plain g) h k = absurd h
NestsTo-join zero (array f (array m d)) (plain g) h k = absurd h
NestsTo-join (suc n) (array f d) (plain g) h k = h
NestsTo-join zero (array f any) (array g any) h k = tt
NestsTo-join zero (array f any) (array g (plain m)) h k = absurd k
NestsTo-join zero (array f any) (array g (array m e)) h k = absurd k
NestsTo-join zero (array f (plain m)) (array g e) h k = absurd h
NestsTo-join zero (array f (array m d)) (array g e) h k = absurd h
NestsTo-join (suc n) (array f d) (array g e) h k = NestsTo-join n d e h k

pub NestsTo-meet : (n : ℕ) (a b : TypeTerm) → NestsTo n a → NestsTo n b → NestsTo n (meet_of a b)
NestsTo-meet n any any h k = tt
NestsTo-meet n any (plain g) h k = tt
NestsTo-meet n any (array g e) h k = k
NestsTo-meet n (plain f) any h k = tt
NestsTo-meet n (array f d) any h k = h
NestsTo-meet n (plain f) (plain g) h k = tt
NestsTo-meet n (plain f) (array g e) h k = tt
NestsTo-meet n (array f d) (plain g) h k = tt
NestsTo-meet zero (array f any) (array g any) h k = tt
NestsTo-meet zero (array f any) (array g (plain m)) h k = absurd k
NestsTo-meet zero (array f any) (array g (array m e)) h k = absurd k
NestsTo-meet zero (array f (plain m)) (array g e) h k = absurd h
NestsTo-meet zero (array f (array m d)) (array g e) h k = absurd h
NestsTo-meet (suc n) (array f d) (array g e) h k = NestsTo-meet n d e h k

-- ---- elements

FactsAmong-nothing : (g : Facts) → FactsAmong (record { bits = 0; neg = false; text_keys = false; shared = []; classes = [] }) g
FactsAmong-nothing g = record {
  bits = record { each = λ k. omega (arith, bit_at-zero k) };
  neg = λ e. absurd (false≢true e);
  text_keys = λ e. absurd (false≢true e);
  classes = IsSubset-nil g.classes;
}

pub Below-nothing : (a : TypeTerm) → Below nothing a
Below-nothing any = tt
Below-nothing (plain g) = (FactsAmong-nothing g, IsSubset-nil g.shared)
Below-nothing (array g e) = (FactsAmong-nothing g, LabelsAmong-subset [] g.shared e (IsSubset-nil g.shared))

pub element-Below : (a b : TypeTerm) → Below a b → Below (element_of a) (element_of b)
element-Below a any h = Below-any (element_of a)
element-Below any (plain g) h = absurd h
element-Below any (array g e) h = absurd h
element-Below (plain f) (plain g) h = Below-refl nothing
element-Below (plain f) (array g e) h = Below-nothing e
element-Below (array f d) (plain g) h = absurd h
element-Below (array f d) (array g e) h = h.1

pub IsWellFormed-of_bits : (bits : ℕ) → bits < 2048 → bit_at bits 9 ≡ 0 → IsWellFormed (of_bits bits)
IsWellFormed-of_bits bits h k =
    (record { eleven_bits = omega arith; labels_ascend = increasing-nil; classes_ascend = increasing-nil }, k)

pub IsWellFormed-element : (a : TypeTerm) → IsWellFormed a → IsWellFormed (element_of a)
IsWellFormed-element any v = tt
IsWellFormed-element (plain f) v = IsWellFormed-of_bits 0 (omega arith) (bit_at-zero 9)
IsWellFormed-element (array f e) v = v.3

pub NestsTo-element : (n : ℕ) (a : TypeTerm) → NestsTo (suc n) a → NestsTo n (element_of a)
NestsTo-element n any h = tt
NestsTo-element n (plain f) h = tt
NestsTo-element n (array f e) h = h
