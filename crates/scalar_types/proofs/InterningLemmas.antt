-- Sets in order of insertion, of which no member stands twice.
use Rattle.std.proofs.Common.{◌≡◌, ℕ, zero, suc, Bool, true, false, List, [], ◌∷◌, ◌++◌, get_or, Some, None, slice_get, map, refl, sym, ap, subst, ◌∙◌, eqb}
use Rattle.std.specs.List.{IsDistinct, list_any, position, AllByRecursion}
use Rattle.std.specs.Cmp.Lexicographic.{pointwise}
use Rattle.std.proofs.lemmas.Bool.{true≢false, cond_both}
use Rattle.std.proofs.lemmas.List.Quantifiers.{position-Some}
use Rattle.std.proofs.lemmas.Option.{slice_get-get_or}
use Rattle.std.proofs.lemmas.Slice.Eq.{bytes_eq-Decides}
use Rattle.indexmap.specs.IndexSet.{insert_key}
use Rattle.scalar_types.specs.Pool.{HasNoRepeat, KeepsEach}
use Rattle.scalar_types.proofs.PoolLemmas.{KeepsEach-refl, slice_get-push, same_some}

-- ---- members by what they hold

module _ {X Y : Type 0} (f : X → Y) where
  pub map-push : (xs : List X) (x : X) → map f (xs ++ x ∷ []) ≡ map f xs ++ f x ∷ []
  map-push [] x = refl
  map-push (y ∷ xs) x = ap (λ l. f y ∷ l) (map-push xs x)

  -- an inserted member leaves the others where they were
  pub KeepsEach-insert_key : (eq : X → X → Bool) (xs : List X) (x : X) → KeepsEach (map f xs) (map f (insert_key eq xs x))
  KeepsEach-insert_key eq xs x =
      cond_both (list_any (eq x) xs) xs (xs ++ x ∷ []) (λ l. KeepsEach (map f xs) (map f l)) (λ e. KeepsEach-refl (map f xs))
      (λ e. subst (KeepsEach (map f xs)) (sym (map-push xs x)) (record { each = λ i y h. slice_get-push (map f xs) (f x) i y h }))

  -- members of which no two are equal hold different things
  module _ (eq : X → X → Bool) (same : (x y : X) → f x ≡ f y → eq x y ≡ true) where
    differs : (z : X) (xs : List X) (j : ℕ) → AllByRecursion (λ y. eq z y ≡ false) xs → slice_get (map f xs) j ≡ Some (f z) → ⊥
    differs z [] j a h = let e : None ≡ Some (f z) = h in absurd (cc)
    differs z (x ∷ xs) zero a h = true≢false (sym (same z x (sym (same_some (f x) (f z) h))) ∙ a.0)
    differs z (x ∷ xs) (suc j) a h = differs z xs j a.1 h

    once : (xs : List X) → IsDistinct eq xs → (i j : ℕ) (y : Y) → slice_get (map f xs) i ≡ Some y → slice_get (map f xs) j ≡ Some y → i ≡ j
    unfolding IsDistinct
    once [] d i j y h k = let e : None ≡ Some y = h in absurd (cc)
    once (x ∷ xs) d zero zero y h k = refl
    once (x ∷ xs) d zero (suc j) y h k = absurd (differs x xs j d.0 (k ∙ sym h))
    once (x ∷ xs) d (suc i) zero y h k = absurd (differs x xs i d.0 (h ∙ sym k))
    once (x ∷ xs) d (suc i) (suc j) y h k = ap suc (once xs d.1 i j y h k)

    pub HasNoRepeat-distinct : (xs : List X) → IsDistinct eq xs → HasNoRepeat (map f xs)
    HasNoRepeat-distinct xs d = record { once = λ i j y h k. once xs d i j y h k }

map-itself : {X : Type 0} (xs : List X) → map (λ x. x) xs ≡ xs
map-itself [] = refl
map-itself (x ∷ xs) = ap (λ l. x ∷ l) (map-itself xs)

pub HasNoRepeat-distinct_itself : {X : Type 0} (eq : X → X → Bool) → ((x y : X) → x ≡ y → eq x y ≡ true) → (xs : List X) → IsDistinct eq xs → HasNoRepeat xs
HasNoRepeat-distinct_itself eq same xs d = subst HasNoRepeat (map-itself xs) (HasNoRepeat-distinct (λ x. x) eq same xs d)

-- ---- a member that a test finds

pub slice_get-position : {X : Type 0} (test : X → Bool) (x : X) → ((y : X) → test y ≡ true → y ≡ x) → (xs : List X) (i : ℕ) → position test xs ≡ Some i → slice_get xs i ≡ Some x
slice_get-position test x found xs i e =
    let p = position-Some test xs i x e in
    slice_get-get_or xs i x p.0 ∙ ap Some (found (get_or xs i x) p.1)

-- ---- lists of numbers, compared number by number

pub same_from_pointwise : (xs ys : List ℕ) → pointwise eqb xs ys ≡ true → xs ≡ ys
same_from_pointwise xs ys e = (bytes_eq-Decides xs ys).0 e

pub pointwise-same : (xs ys : List ℕ) → xs ≡ ys → pointwise eqb xs ys ≡ true
pointwise-same xs ys e = (bytes_eq-Decides xs ys).1 e
