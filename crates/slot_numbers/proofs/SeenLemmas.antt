-- Keys that were seen.
use Rattle.std.specs.Prelude.{map, nat_eq, Vec}
use Rattle.std.specs.declared.alloc.Global.{Global}
use Rattle.std.specs.List.{AllByRecursion, IsDistinct, list_any}
use Rattle.std.specs.Str.{bytes_eq}
use Rattle.std.specs.Cmp.Lexicographic.{bytes_decides}
use Rattle.std.proofs.Common.{◌≡◌, ◌⊎◌, inl, inr, ℕ, zero, suc, Bool, true, false, ◌&&◌, if◌then◌else◌, List, [], ◌∷◌, ◌++◌, Some, slice_get, refl, sym, ap, ◌∙◌}
use Rattle.std.proofs.lemmas.Bool.{and_parts, eq-eqb, eqb-true, true≢false}
use Rattle.std.proofs.lemmas.Map.Keys.{IsDistinct-head, IsDistinct-tail}
use Rattle.std.proofs.lemmas.Option.{same_Some, none-some}
use Rattle.indexmap.specs.IndexSet.{insert_key}
use Rattle.slot_numbers.specs.Growing.{AreApart, Has, HasOnly, Keeps}
use Rattle.slot_numbers.specs.Keys.{Key, seen}

abbrev pub Raw : Type 0
Raw = ℕ × ℕ × ℕ × Vec ℕ Global

-- whether two keys are one
abbrev pub same : Raw → Raw → Bool
same a b = ((nat_eq a.0 b.0 && nat_eq a.1 b.1) && nat_eq a.2 b.2) && bytes_eq a.3.items b.3.items

abbrev pub key_with : ℕ → ℕ → ℕ → List ℕ → Key
key_with f n s w = record { file = f; number = n; sort = s; name = w }

pub same_seen : (a b : Raw) → same a b ≡ true → seen a ≡ seen b
same_seen a b e =
    let all = and_parts ((nat_eq a.0 b.0 && nat_eq a.1 b.1) && nat_eq a.2 b.2) (bytes_eq a.3.items b.3.items) e in
    let three = and_parts (nat_eq a.0 b.0 && nat_eq a.1 b.1) (nat_eq a.2 b.2) all.0 in
    let two = and_parts (nat_eq a.0 b.0) (nat_eq a.1 b.1) three.0 in
    ap (λ (x : ℕ). key_with x a.1 a.2 a.3.items) (eqb-true a.0 b.0 two.0)
    ∙ ap (λ (x : ℕ). key_with b.0 x a.2 a.3.items) (eqb-true a.1 b.1 two.1)
    ∙ ap (λ (x : ℕ). key_with b.0 b.1 x a.3.items) (eqb-true a.2 b.2 three.1)
    ∙ ap (λ (w : List ℕ). key_with b.0 b.1 b.2 w) ((bytes_decides a.3.items b.3.items).0 all.1)

all_true : (a b c d : Bool) → a ≡ true → b ≡ true → c ≡ true → d ≡ true → (((a && b) && c) && d) ≡ true
all_true true true true true e f g h = refl
all_true false b c d e f g h = e
all_true true false c d e f g h = f
all_true true true false d e f g h = g
all_true true true true false e f g h = h

seen_same : (a b : Raw) → seen a ≡ seen b → same a b ≡ true
seen_same a b e =
    all_true (nat_eq a.0 b.0) (nat_eq a.1 b.1) (nat_eq a.2 b.2) (bytes_eq a.3.items b.3.items)
    (eq-eqb a.0 b.0 (ap (λ (k : Key). k.file) e)) (eq-eqb a.1 b.1 (ap (λ (k : Key). k.number) e))
    (eq-eqb a.2 b.2 (ap (λ (k : Key). k.sort) e)) ((bytes_decides a.3.items b.3.items).1 (ap (λ (k : Key). k.name) e))

none_later : (a : Raw) (xs : List Raw) → AllByRecursion (λ y. same a y ≡ false) xs → (j : ℕ) (k : Key) → seen a ≡ k
    → slice_get (map seen xs) j ≡ Some k → ⊥
none_later a [] h j k s e = none-some k e
none_later a (x ∷ xs) h zero k s e = true≢false (sym (seen_same a x (s ∙ sym (same_Some (seen x) k e))) ∙ h.0)
none_later a (x ∷ xs) h (suc j) k s e = none_later a xs h.1 j k s e

-- distinct keys stand at one place each
pub apart : (xs : List Raw) → IsDistinct same xs → AreApart (map seen xs)
apart [] h i j k e d = absurd (none-some k e)
apart (x ∷ xs) h zero zero k e d = refl
apart (x ∷ xs) h zero (suc j) k e d = absurd (none_later x xs (IsDistinct-head same x xs h) j k (same_Some (seen x) k e) d)
apart (x ∷ xs) h (suc i) zero k e d = absurd (none_later x xs (IsDistinct-head same x xs h) i k (same_Some (seen x) k d) e)
apart (x ∷ xs) h (suc i) (suc j) k e d = ap (λ (n : ℕ). suc n) (apart xs (IsDistinct-tail same x xs h) i j k e d)

-- ---- a key that is put behind, or was there

pub keeps_more : {A : Type 0} (xs ys : List A) → Keeps xs (xs ++ ys)
keeps_more [] ys i x e = absurd (none-some x e)
keeps_more (z ∷ xs) ys zero x e = e
keeps_more (z ∷ xs) ys (suc i) x e = keeps_more xs ys i x e

pub only_more : {A : Type 0} (xs ys : List A) (i : ℕ) (x : A) → slice_get (xs ++ ys) i ≡ Some x → Has xs x ⊎ Has ys x
only_more [] ys i x e = inr (i, e)
only_more (z ∷ xs) ys zero x e = inl (zero, e)
only_more (z ∷ xs) ys (suc i) x e = later (only_more xs ys i x e)
  where
    later : Has xs x ⊎ Has ys x → Has (z ∷ xs) x ⊎ Has ys x
    later (inl (n, g)) = inl (suc n, g)
    later (inr g) = inr g

map_more : (xs : List Raw) (k : Raw) → map seen (xs ++ k ∷ []) ≡ map seen xs ++ seen k ∷ []
map_more [] k = refl
map_more (x ∷ xs) k = ap (λ (ks : List Key). seen x ∷ ks) (map_more xs k)

pub put_keeps : (xs : List Raw) (k : Raw) → Keeps (map seen xs) (map seen (insert_key same xs k))
put_keeps xs k = elim (list_any (same k) xs) as (λ b. Keeps (map seen xs) (map seen (if b then xs else xs ++ k ∷ []))) [
  | true ↦ λ i x e. e
  | false ↦ λ i x e. ap (λ (ks : List Key). slice_get ks i) (map_more xs k) ∙ keeps_more (map seen xs) (seen k ∷ []) i x e
]

pub put_only : (xs : List Raw) (k : Raw) → HasOnly (map seen xs) (seen k ∷ []) (map seen (insert_key same xs k))
put_only xs k = elim (list_any (same k) xs) as (λ b. HasOnly (map seen xs) (seen k ∷ []) (map seen (if b then xs else xs ++ k ∷ []))) [
  | true ↦ record { each = λ x h. inl h }
  | false ↦ record { each = λ x h. only_more (map seen xs) (seen k ∷ []) h.0 x (ap (λ (ks : List Key). slice_get ks h.0) (sym (map_more xs k)) ∙ h.1) }
]

pub seen_at : (xs : List Raw) (i : ℕ) (k : Raw) → slice_get xs i ≡ Some k → slice_get (map seen xs) i ≡ Some (seen k)
seen_at [] i k e = absurd (none-some k e)
seen_at (x ∷ xs) zero k e = ap (λ (y : Raw). Some (seen y)) (same_Some x k e)
seen_at (x ∷ xs) (suc i) k e = seen_at xs i k e
