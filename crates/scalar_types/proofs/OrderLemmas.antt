-- The laws of the order of types.
use Rattle.std.proofs.Common.{◌≡◌, ℕ, Bool, true, false, List, [], refl, sym, ap, ◌∙◌}
use Rattle.std.specs.List.Sorted.{IsStrictlyIncreasing}
use Rattle.scalar_types.specs.Sets.{IsSubset}
use Rattle.scalar_types.specs.Terms.{Facts, TypeTerm, any, plain, array, AreFactsWellFormed, IsWellFormed, NoLabelsAtAny}
use Rattle.scalar_types.specs.Order.{FactsAmong, LabelsAmong, Below}
use Rattle.scalar_types.proofs.SetLemmas.{Has-subset, subset_from_Has, Ascends-from_increasing, same_from_members}
use Rattle.scalar_types.proofs.BitLemmas.{BitsAmong-refl, BitsAmong-trans, same_from_BitsAmong}

-- ---- sets

pub IsSubset-refl : (xs : List ℕ) → IsSubset xs xs
IsSubset-refl xs = record { each = λ x c. c }

pub IsSubset-trans : (xs ys zs : List ℕ) → IsSubset xs ys → IsSubset ys zs → IsSubset xs zs
IsSubset-trans xs ys zs s t = record { each = λ x c. t.each x (s.each x c) }

pub IsSubset-nil : (ys : List ℕ) → IsSubset [] ys
IsSubset-nil ys = subset_from_Has [] ys (λ z h. absurd h)

pub same_from_subsets : (xs ys : List ℕ) → IsStrictlyIncreasing xs → IsStrictlyIncreasing ys → IsSubset xs ys → IsSubset ys xs → xs ≡ ys
same_from_subsets xs ys a b s t =
    same_from_members xs ys (Ascends-from_increasing xs a) (Ascends-from_increasing ys b) (Has-subset xs ys s) (Has-subset ys xs t)

-- ---- facts

pub FactsAmong-refl : (f : Facts) → FactsAmong f f
FactsAmong-refl f = record { bits = BitsAmong-refl f.bits; neg = λ e. e; text_keys = λ e. e; classes = IsSubset-refl f.classes }

pub FactsAmong-trans : (f g k : Facts) → FactsAmong f g → FactsAmong g k → FactsAmong f k
FactsAmong-trans f g k h l = record {
  bits = BitsAmong-trans f.bits g.bits k.bits h.bits l.bits;
  neg = λ e. l.neg (h.neg e);
  text_keys = λ e. l.text_keys (h.text_keys e);
  classes = IsSubset-trans f.classes g.classes k.classes h.classes l.classes;
}

same_flags : (a b : Bool) → (a ≡ true → b ≡ true) → (b ≡ true → a ≡ true) → a ≡ b
same_flags true true h k = refl
same_flags true false h k = sym (h refl)
same_flags false true h k = k refl
same_flags false false h k = refl

pub same_facts : (f g : Facts) → AreFactsWellFormed f → AreFactsWellFormed g → FactsAmong f g → FactsAmong g f → f.shared ≡ g.shared → f ≡ g
same_facts f g v w h k shared =
    let bits = same_from_BitsAmong f.bits g.bits h.bits k.bits in
    let neg = same_flags f.neg g.neg h.neg k.neg in
    let text_keys = same_flags f.text_keys g.text_keys h.text_keys k.text_keys in
    let classes = same_from_subsets f.classes g.classes v.classes_ascend w.classes_ascend h.classes k.classes in
    λ i. record { bits = bits i; neg = neg i; text_keys = text_keys i; shared = shared i; classes = classes i }

-- ---- labels

pub LabelsAmong-subset : (xs ys : List ℕ) (e : TypeTerm) → IsSubset xs ys → LabelsAmong xs ys e
LabelsAmong-subset xs ys any s = tt
LabelsAmong-subset xs ys (plain g) s = s
LabelsAmong-subset xs ys (array g e) s = s

pub LabelsAmong-after : (xs ys zs : List ℕ) (e : TypeTerm) → IsSubset xs ys → LabelsAmong ys zs e → LabelsAmong xs zs e
LabelsAmong-after xs ys zs any s t = tt
LabelsAmong-after xs ys zs (plain g) s t = IsSubset-trans xs ys zs s t
LabelsAmong-after xs ys zs (array g e) s t = IsSubset-trans xs ys zs s t

pub LabelsAmong-trans : (xs ys zs : List ℕ) (d e : TypeTerm) → LabelsAmong xs ys d → Below d e → LabelsAmong ys zs e → LabelsAmong xs zs e
LabelsAmong-trans xs ys zs d any s b t = tt
LabelsAmong-trans xs ys zs any (plain g) s b t = absurd b
LabelsAmong-trans xs ys zs any (array g e) s b t = absurd b
LabelsAmong-trans xs ys zs (plain f) (plain g) s b t = IsSubset-trans xs ys zs s t
LabelsAmong-trans xs ys zs (plain f) (array g e) s b t = IsSubset-trans xs ys zs s t
LabelsAmong-trans xs ys zs (array f d) (plain g) s b t = absurd b
LabelsAmong-trans xs ys zs (array f d) (array g e) s b t = IsSubset-trans xs ys zs s t

same_labels : (xs ys : List ℕ) (d e : TypeTerm) → IsStrictlyIncreasing xs → IsStrictlyIncreasing ys → NoLabelsAtAny xs d → NoLabelsAtAny ys e
    → Below d e → Below e d → LabelsAmong xs ys e → LabelsAmong ys xs d → xs ≡ ys
same_labels xs ys any any a b v w h k s t = v ∙ sym w
same_labels xs ys any (plain g) a b v w h k s t = absurd h
same_labels xs ys any (array g e) a b v w h k s t = absurd h
same_labels xs ys (plain f) any a b v w h k s t = absurd k
same_labels xs ys (plain f) (plain g) a b v w h k s t = same_from_subsets xs ys a b s t
same_labels xs ys (plain f) (array g e) a b v w h k s t = same_from_subsets xs ys a b s t
same_labels xs ys (array f d) any a b v w h k s t = absurd k
same_labels xs ys (array f d) (plain g) a b v w h k s t = same_from_subsets xs ys a b s t
same_labels xs ys (array f d) (array g e) a b v w h k s t = same_from_subsets xs ys a b s t

-- ---- types

pub Below-any : (a : TypeTerm) → Below a any
Below-any any = tt
Below-any (plain f) = tt
Below-any (array f d) = tt

pub Below-refl : (a : TypeTerm) → Below a a
Below-refl any = tt
Below-refl (plain f) = (FactsAmong-refl f, IsSubset-refl f.shared)
Below-refl (array f d) = (FactsAmong-refl f, Below-refl d, LabelsAmong-subset f.shared f.shared d (IsSubset-refl f.shared))

pub Below-trans : (a b c : TypeTerm) → Below a b → Below b c → Below a c
Below-trans a b any h l = Below-any a
Below-trans any any (plain k) h l = l
Below-trans any any (array k e) h l = l
Below-trans (plain f) any (plain k) h l = absurd l
Below-trans (plain f) any (array k e) h l = absurd l
Below-trans (array f c) any (plain k) h l = absurd l
Below-trans (array f c) any (array k e) h l = absurd l
Below-trans any (plain g) (plain k) h l = absurd h
Below-trans any (plain g) (array k e) h l = absurd h
Below-trans (plain f) (plain g) (plain k) h l = (FactsAmong-trans f g k h.0 l.0, IsSubset-trans f.shared g.shared k.shared h.1 l.1)
Below-trans (plain f) (plain g) (array k e) h l = (FactsAmong-trans f g k h.0 l.0, LabelsAmong-after f.shared g.shared k.shared e h.1 l.1)
Below-trans (array f c) (plain g) (plain k) h l = absurd h
Below-trans (array f c) (plain g) (array k e) h l = absurd h
Below-trans any (array g d) (plain k) h l = absurd h
Below-trans any (array g d) (array k e) h l = absurd h
Below-trans (plain f) (array g d) (plain k) h l = absurd l
Below-trans (plain f) (array g d) (array k e) h l = (FactsAmong-trans f g k h.0 l.0, LabelsAmong-trans f.shared g.shared k.shared d e h.1 l.1 l.2)
Below-trans (array f c) (array g d) (plain k) h l = absurd l
Below-trans (array f c) (array g d) (array k e) h l =
    (FactsAmong-trans f g k h.0 l.0, Below-trans c d e h.1 l.1, LabelsAmong-trans f.shared g.shared k.shared d e h.2 l.1 l.2)

pub Below-antisym : (a b : TypeTerm) → IsWellFormed a → IsWellFormed b → Below a b → Below b a → a ≡ b
Below-antisym any any v w h k = refl
Below-antisym any (plain g) v w h k = absurd h
Below-antisym any (array g e) v w h k = absurd h
Below-antisym (plain f) any v w h k = absurd k
Below-antisym (plain f) (plain g) v w h k =
    ap plain (same_facts f g v.0 w.0 h.0 k.0 (same_from_subsets f.shared g.shared v.0.labels_ascend w.0.labels_ascend h.1 k.1))
Below-antisym (plain f) (array g e) v w h k = absurd k
Below-antisym (array f d) any v w h k = absurd k
Below-antisym (array f d) (plain g) v w h k = absurd h
Below-antisym (array f d) (array g e) v w h k =
    let labels = same_labels f.shared g.shared d e v.0.labels_ascend w.0.labels_ascend v.2 w.2 h.1 k.1 h.2 k.2 in
    let facts = same_facts f g v.0 w.0 h.0 k.0 labels in
    let element = Below-antisym d e v.3 w.3 h.1 k.1 in
    λ i. array (facts i) (element i)
