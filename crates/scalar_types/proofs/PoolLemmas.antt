-- Pools of types.
use Rattle.std.proofs.Common.{
  ◌≡◌,
  ℕ,
  zero,
  suc,
  ◌+◌,
  ◌*◌,
  ◌<◌,
  ◌≤◌,
  ◌^◌,
  Bool,
  true,
  false,
  List,
  [],
  ◌∷◌,
  ◌++◌,
  length,
  Option,
  Some,
  None,
  slice_get,
  ◌⊎◌,
  inl,
  inr,
  refl,
  sym,
  ap,
  subst,
  ◌∙◌,
  arith,
  length-append,
}
use Rattle.std.specs.Int.{bit_at}
use Rattle.std.specs.Option.{option_map, IfSome}
use Rattle.std.proofs.lemmas.Option.{slice_get_within}
use Rattle.scalar_types.specs.declared.pool.Packed.{Packed}
use Rattle.scalar_types.specs.Terms.{flag_count, Facts, TypeTerm, any, plain, array, AreFactsWellFormed, IsWellFormed}
use Rattle.scalar_types.specs.Heads.{head_of}
use Rattle.scalar_types.specs.Pool.{Content, PacksFacts, Packs, HasNoRepeat, KeepsEach, Grows, IsPool, HasPackedForm, IsKnownWith, KeepsOrAdds}

-- ---- lists

pub same_some : {X : Type 0} (x y : X) → Some x ≡ Some y → x ≡ y
same_some x y e = cc

pub slice_get-exists : {X : Type 0} (xs : List X) (k : ℕ) → k < length xs → (x : X) × (slice_get xs k ≡ Some x)
slice_get-exists [] k h = absurd (omega (arith, h))
slice_get-exists (x ∷ xs) zero h = (x, refl)
slice_get-exists (x ∷ xs) (suc k) h = slice_get-exists xs k (omega (arith, h))

pub slice_get-push : {X : Type 0} (xs : List X) (y : X) (k : ℕ) (x : X) → slice_get xs k ≡ Some x → slice_get (xs ++ y ∷ []) k ≡ Some x
slice_get-push [] y k x h = cc
slice_get-push (z ∷ xs) y zero x h = h
slice_get-push (z ∷ xs) y (suc k) x h = slice_get-push xs y k x h

pub slice_get-push_last : {X : Type 0} (xs : List X) (y : X) → slice_get (xs ++ y ∷ []) (length xs) ≡ Some y
slice_get-push_last [] y = refl
slice_get-push_last (z ∷ xs) y = slice_get-push_last xs y

pub slice_get-push_cases : {X : Type 0} (xs : List X) (y : X) (k : ℕ) (x : X) → slice_get (xs ++ y ∷ []) k ≡ Some x → (slice_get xs k ≡ Some x) ⊎ ((k ≡ length xs) × (y ≡ x))
slice_get-push_cases [] y zero x h = inr (refl, cc)
slice_get-push_cases [] y (suc k) x h = absurd (let n : None ≡ Some x = h in cc)
slice_get-push_cases (z ∷ xs) y zero x h = inl h
slice_get-push_cases (z ∷ xs) y (suc k) x h =
    elim (slice_get-push_cases xs y k x h) [ inl e ↦ inl e | inr r ↦ inr (omega (arith, r.0), r.1) ]

pub KeepsEach-refl : {X : Type 0} (xs : List X) → KeepsEach xs xs
KeepsEach-refl xs = record { each = λ i x h. h }

pub KeepsEach-trans : {X : Type 0} (xs ys zs : List X) → KeepsEach xs ys → KeepsEach ys zs → KeepsEach xs zs
KeepsEach-trans xs ys zs h k = record { each = λ i x e. k.each i x (h.each i x e) }

pub KeepsEach-adds : {X : Type 0} (xs ys : List X) (x : X) (added : Bool) → KeepsOrAdds xs ys x added → KeepsEach xs ys
KeepsEach-adds xs ys x false e = subst (KeepsEach xs) (sym e) (KeepsEach-refl xs)
KeepsEach-adds xs ys x true e = subst (KeepsEach xs) (sym e) (record { each = λ i y h. slice_get-push xs x i y h })

pub Grows-refl : (v : Content) → Grows v v
Grows-refl v = record { types = KeepsEach-refl v.types; packed = KeepsEach-refl v.packed; lists = KeepsEach-refl v.lists }

pub Grows-trans : (u v w : Content) → Grows u v → Grows v w → Grows u w
Grows-trans u v w h k = record {
  types = KeepsEach-trans u.types v.types w.types h.types k.types;
  packed = KeepsEach-trans u.packed v.packed w.packed h.packed k.packed;
  lists = KeepsEach-trans u.lists v.lists w.lists h.lists k.lists;
}

-- ---- packed forms

same_flags : (m n : ℕ) (a b c d : Bool) → m < 2 ^ 11 → n < 2 ^ 11 → m + 2048 * flag_count a + 4096 * flag_count c ≡ n + 2048 * flag_count b + 4096 * flag_count d
    → (m ≡ n) × (a ≡ b) × (c ≡ d)
same_flags m n true true true true v w h = (omega arith, refl, refl)
same_flags m n true true true false v w h = absurd (omega arith)
same_flags m n true true false true v w h = absurd (omega arith)
same_flags m n true true false false v w h = (omega arith, refl, refl)
same_flags m n true false true true v w h = absurd (omega arith)
same_flags m n true false true false v w h = absurd (omega arith)
same_flags m n true false false true v w h = absurd (omega arith)
same_flags m n true false false false v w h = absurd (omega arith)
same_flags m n false true true true v w h = absurd (omega arith)
same_flags m n false true true false v w h = absurd (omega arith)
same_flags m n false true false true v w h = absurd (omega arith)
same_flags m n false true false false v w h = absurd (omega arith)
same_flags m n false false true true v w h = (omega arith, refl, refl)
same_flags m n false false true false v w h = absurd (omega arith)
same_flags m n false false false true v w h = absurd (omega arith)
same_flags m n false false false false v w h = (omega arith, refl, refl)

-- equal heads are those of equal bits and flags
same_heads : (f g : Facts) → f.bits < 2 ^ 11 → g.bits < 2 ^ 11 → head_of f ≡ head_of g → (f.bits ≡ g.bits) × (f.neg ≡ g.neg) × (f.text_keys ≡ g.text_keys)
same_heads f g v w e = same_flags f.bits g.bits f.neg g.neg f.text_keys g.text_keys v w e

flag_count_le : (a : Bool) → flag_count a ≤ 1
flag_count_le true = omega arith
flag_count_le false = omega arith

head_below : (f : Facts) → AreFactsWellFormed f → head_of f < 8192
head_below f v = omega (arith, v.eleven_bits, flag_count_le f.neg, flag_count_le f.text_keys)

-- facts with one packed form are equal
same_facts : (lists : List (List ℕ)) (f g : Facts) (p : Packed) → AreFactsWellFormed f → AreFactsWellFormed g → PacksFacts lists f p → PacksFacts lists g p → f ≡ g
same_facts lists f g p v w h k =
    let e = same_heads f g v.eleven_bits w.eleven_bits (sym h.head ∙ k.head) in
    let bits = e.0 in
    let neg = e.1 in
    let text_keys = e.2 in
    let shared = same_some f.shared g.shared (sym h.shared ∙ k.shared) in
    let classes = same_some f.classes g.classes (sym h.classes ∙ k.classes) in
    λ i. record { bits = bits i; neg = neg i; text_keys = text_keys i; shared = shared i; classes = classes i }

-- types with one packed form are equal
pub same_type : (types : List TypeTerm) (lists : List (List ℕ)) (t u : TypeTerm) (p : Packed) → IsWellFormed t
    → IsWellFormed u → Packs types lists t p → Packs types lists u p → t ≡ u
same_type types lists any any p v w h k = refl
same_type types lists any (plain g) p v w h k = absurd (omega (arith, h.0, k.0.head, head_below g w.0))
same_type types lists any (array g e) p v w h k = absurd (omega (arith, h.0, k.0.head, head_below g w.0))
same_type types lists (plain f) any p v w h k = absurd (omega (arith, k.0, h.0.head, head_below f v.0))
same_type types lists (array f d) any p v w h k = absurd (omega (arith, k.0, h.0.head, head_below f v.0))
same_type types lists (plain f) (plain g) p v w h k = ap plain (same_facts lists f g p v.0 w.0 h.0 k.0)
same_type types lists (plain f) (array g e) p v w h k =
    let s = same_facts lists f g p v.0 w.0 h.0 k.0 in
    absurd (omega (arith, v.1, w.1, ap (λ (m : Facts). bit_at m.bits 9) s))
same_type types lists (array f d) (plain g) p v w h k =
    let s = same_facts lists f g p v.0 w.0 h.0 k.0 in
    absurd (omega (arith, v.1, w.1, ap (λ (m : Facts). bit_at m.bits 9) s))
same_type types lists (array f d) (array g e) p v w h k =
    let s = same_facts lists f g p v.0 w.0 h.0 k.0 in
    let t = same_some d e (sym h.1 ∙ k.1) in
    λ i. array (s i) (t i)

same_forms : (p q : Packed) → p.head ≡ q.head → p.element.0 ≡ q.element.0 → p.shared ≡ q.shared → p.classes ≡ q.classes → p ≡ q
same_forms p q h e s c = λ i. record { head = h i; element = record { 0 = e i }; shared = s i; classes = c i }

-- a type has one packed form, where no type and no list stands twice
packed_once : (lists : List (List ℕ)) → HasNoRepeat lists → (f : Facts) (p q : Packed) → PacksFacts lists f p → PacksFacts lists f q → p.element.0 ≡ q.element.0 → p ≡ q
packed_once lists differ f p q h k e =
    same_forms p q (h.head ∙ sym k.head) e (differ.once _ _ f.shared h.shared k.shared) (differ.once _ _ f.classes h.classes k.classes)

-- a type stands at one number, where it has one packed form
number_once : (v : Content) → IsPool v → (t : TypeTerm) (i j : ℕ) → slice_get v.types i ≡ Some t → slice_get v.types j ≡ Some t
    → ((p q : Packed) → Packs v.types v.lists t p → Packs v.types v.lists t q → p ≡ q) → i ≡ j
number_once v pool t i j h k once =
    let p = slice_get-exists v.packed i (omega (arith, pool.counts, slice_get_within v.types i t h)) in
    let q = slice_get-exists v.packed j (omega (arith, pool.counts, slice_get_within v.types j t k)) in
    let e = once p.0 q.0 (pool.packs i t p.0 h p.1) (pool.packs j t q.0 k q.1) in
    pool.packed_differ.once i j p.0 p.1 (q.1 ∙ ap Some (sym e))

pub form_once : (v : Content) → IsPool v → (t : TypeTerm) (p q : Packed) → Packs v.types v.lists t p → Packs v.types v.lists t q → p ≡ q
form_once v pool any p q a b = same_forms p q (a.0 ∙ sym b.0) (a.1 ∙ sym b.1) (a.2 ∙ sym b.2) (a.3 ∙ sym b.3)
form_once v pool (plain f) p q a b = packed_once v.lists pool.lists_differ f p q a.0 b.0 (a.1 ∙ sym b.1)
form_once v pool (array f e) p q a b =
    packed_once v.lists pool.lists_differ f p q a.0 b.0 (number_once v pool e p.element.0 q.element.0 a.1 b.1 (form_once v pool e))

-- no type has two numbers
pub types_differ : (v : Content) → IsPool v → HasNoRepeat v.types
types_differ v pool = record { once = λ i j t h k. number_once v pool t i j h k (form_once v pool t) }

-- the element of a type that is there is there too
pub element_there : (v : Content) → IsPool v → (k : ℕ) (f : Facts) (e : TypeTerm) → slice_get v.types k ≡ Some (array f e) → (j : ℕ) × (slice_get v.types j ≡ Some e)
element_there v pool k f e h =
    let p = slice_get-exists v.packed k (omega (arith, pool.counts, slice_get_within v.types k (array f e) h)) in
    (p.0.element.0, (pool.packs k (array f e) p.0 h p.1).1)

-- a number has a type and its packed form
pub packed_there : (v : Content) → IsPool v → (k : ℕ) (p : Packed) → slice_get v.packed k ≡ Some p → HasPackedForm v k p
packed_there v pool k p h =
    let t = slice_get-exists v.types k (omega (arith, pool.counts, slice_get_within v.packed k p h)) in
    (t.0, t.1, pool.packs k t.0 p t.1 h)

-- ---- growth

PacksFacts-grown : (lists more : List (List ℕ)) (f : Facts) (p : Packed) → KeepsEach lists more → PacksFacts lists f p → PacksFacts more f p
PacksFacts-grown lists more f p k h = record { head = h.head; shared = k.each _ _ h.shared; classes = k.each _ _ h.classes }

pub Packs-grown : (types types' : List TypeTerm) (lists more : List (List ℕ)) → KeepsEach types types'
    → KeepsEach lists more → (t : TypeTerm) (p : Packed) → Packs types lists t p → Packs types' more t p
Packs-grown types types' lists more k l any p h = h
Packs-grown types types' lists more k l (plain f) p h = (PacksFacts-grown lists more f p l h.0, h.1)
Packs-grown types types' lists more k l (array f e) p h = (PacksFacts-grown lists more f p l h.0, k.each _ _ h.1)

-- a pool whose lists grew is a pool
pub IsPool-lists : (types : List TypeTerm) (packed : List Packed) (lists more : List (List ℕ))
    → IsPool (record { types = types; packed = packed; lists = lists }) → KeepsEach lists more → HasNoRepeat more
    → IsPool (record { types = types; packed = packed; lists = more })
IsPool-lists types packed lists more pool kept differ = record {
  any_first = pool.any_first;
  empty_first = kept.each 0 [] pool.empty_first;
  counts = pool.counts;
  lists_differ = differ;
  packed_differ = pool.packed_differ;
  packs = λ k t p h g. Packs-grown types types lists more (KeepsEach-refl types) kept t p (pool.packs k t p h g);
  well_formed = pool.well_formed;
}

-- a pool with one more type, or none, is a pool
pub IsPool-adds : (types types' : List TypeTerm) (packed packed' : List Packed) (lists : List (List ℕ)) (t : TypeTerm) (p : Packed) (added : Bool)
    → IsPool (record { types = types; packed = packed; lists = lists }) → KeepsOrAdds packed packed' p added → KeepsOrAdds types types' t added
    → HasNoRepeat packed' → Packs types lists t p → IsWellFormed t → IsPool (record { types = types'; packed = packed'; lists = lists })
IsPool-adds types types' packed packed' lists t p false pool e d differ h w =
    subst (λ ps. IsPool (record { types = types'; packed = ps; lists = lists })) (sym e) (subst (λ ts. IsPool (record { types = ts; packed = packed; lists = lists })) (sym d) pool)
IsPool-adds types types' packed packed' lists t p true pool e d differ h w =
    let kept = KeepsEach-adds types types' t true d in
    record {
      any_first = kept.each 0 any pool.any_first;
      empty_first = pool.empty_first;
      counts = ap length e ∙ length-append packed (p ∷ []) ∙ ap (λ n. n + 1) pool.counts ∙ sym (length-append types (t ∷ [])) ∙ sym (ap length d);
      lists_differ = pool.lists_differ;
      packed_differ = differ;
      packs = λ k u q a b.
          Packs-grown types types' lists lists kept (KeepsEach-refl lists) u q
          (packs k u q (slice_get-push_cases types t k u (sym (ap (λ l. slice_get l k) d) ∙ a)) (slice_get-push_cases packed p k q (sym (ap (λ l. slice_get l k) e) ∙ b)));
      well_formed = λ k u a. formed k u (slice_get-push_cases types t k u (sym (ap (λ l. slice_get l k) d) ∙ a));
    }
  where
    packs : (k : ℕ) (u : TypeTerm) (q : Packed) → (slice_get types k ≡ Some u) ⊎ ((k ≡ length types) × (t ≡ u))
        → (slice_get packed k ≡ Some q) ⊎ ((k ≡ length packed) × (p ≡ q)) → Packs types lists u q
    packs k u q (inl a) (inl b) = pool.packs k u q a b
    packs k u q (inl a) (inr b) = absurd (omega (arith, slice_get_within types k u a, b.0, pool.counts))
    packs k u q (inr a) (inl b) = absurd (omega (arith, slice_get_within packed k q b, a.0, pool.counts))
    packs k u q (inr a) (inr b) = subst (λ m. Packs types lists m q) a.1 (subst (Packs types lists t) b.1 h)

    formed : (k : ℕ) (u : TypeTerm) → (slice_get types k ≡ Some u) ⊎ ((k ≡ length types) × (t ≡ u)) → IsWellFormed u
    formed k u (inl a) = pool.well_formed k u a
    formed k u (inr a) = subst IsWellFormed a.1 w

-- the number of a packed form is the number of its type
pub number_of_form : (v : Content) → IsPool v → (t : TypeTerm) (p : Packed) (id : ℕ) → IsWellFormed t
    → Packs v.types v.lists t p → slice_get v.packed id ≡ Some p → slice_get v.types id ≡ Some t
number_of_form v pool t p id w h e =
    let u = slice_get-exists v.types id (omega (arith, pool.counts, slice_get_within v.packed id p e)) in
    u.1 ∙ ap Some (same_type v.types v.lists u.0 t p (pool.well_formed id u.0 u.1) w (pool.packs id u.0 p u.1 e) h)

-- a type that is there already adds none
pub adds_none : (types types' : List TypeTerm) (packed packed' : List Packed) (lists : List (List ℕ)) (t : TypeTerm) (p : Packed) (added : Bool)
    → IsPool (record { types = types; packed = packed; lists = lists }) → KeepsOrAdds packed packed' p added → KeepsOrAdds types types' t added
    → HasNoRepeat packed' → Packs types lists t p → (k : ℕ) → slice_get types k ≡ Some t → types' ≡ types
adds_none types types' packed packed' lists t p false pool e d differ h k there = d
adds_none types types' packed packed' lists t p true pool e d differ h k there =
    let within : k < length packed = omega (arith, pool.counts, slice_get_within types k t there) in
    let q = slice_get-exists packed k within in
    let same = form_once (record { types = types; packed = packed; lists = lists }) pool t q.0 p (pool.packs k t q.0 there q.1) h in
    let before : slice_get packed' k ≡ Some p = ap (λ l. slice_get l k) e ∙ slice_get-push packed p k p (q.1 ∙ ap Some same) in
    let last : slice_get packed' (length packed) ≡ Some p = ap (λ l. slice_get l (length packed)) e ∙ slice_get-push_last packed p in
    let n = differ.once k (length packed) p before last in
    absurd (omega arith)

-- the packed form of a known type
pub Packs-known : (types : List TypeTerm) (lists : List (List ℕ)) (f : Facts) (t : TypeTerm) (p : Packed)
    → IsKnownWith types f p.element.0 t → PacksFacts lists f p → Packs types lists t p
Packs-known types lists f any p k h = absurd k
Packs-known types lists f (plain g) p k h = (subst (λ m. PacksFacts lists m p) k.0 h, k.1)
Packs-known types lists f (array g e) p k h = (subst (λ m. PacksFacts lists m p) k.0 h, k.1)

-- ---- what a look-up answers

pub IfSome-from_map : {X Y : Type 0} (v : X → Y) (P : Y → Type 0) (r : Option X) (o : Option Y) → option_map v r ≡ o → ((y : Y) → o ≡ Some y → P y) → IfSome r (λ x. P (v x))
IfSome-from_map v P None o e h = tt
IfSome-from_map v P (Some x) o e h = h (v x) (sym e)

-- ---- a known type that is stored

-- a known type is stored in a pool: its lists stand in what grew out of the pool's, and its packed form and it are put
-- at the end, or neither
pub record Stored (types types' : List TypeTerm) (packed packed' : List Packed) (lists more : List (List ℕ)) (f : Facts) (t : TypeTerm) (p : Packed) : Type 0 where
  pub before : IsPool (record { types = types; packed = packed; lists = lists })
  pub kept : KeepsEach lists more
  pub lists_differ : HasNoRepeat more
  pub facts : PacksFacts more f p
  pub known : IsKnownWith types f p.element.0 t
  pub well_formed : IsWellFormed t
  pub adds : (added : Bool) × (KeepsOrAdds packed packed' p added × KeepsOrAdds types types' t added)
  pub differ : HasNoRepeat packed'

module _ (types types' : List TypeTerm) (packed packed' : List Packed) (lists more : List (List ℕ)) (f : Facts)
    (t : TypeTerm) (p : Packed) (s : Stored types types' packed packed' lists more f t p) where
  form : Packs types more t p
  form = Packs-known types more f t p s.known s.facts

  grown : IsPool (record { types = types; packed = packed; lists = more })
  grown = IsPool-lists types packed lists more s.before s.kept s.lists_differ

  pub IsPool-stored : IsPool (record { types = types'; packed = packed'; lists = more })
  IsPool-stored = IsPool-adds types types' packed packed' more t p s.adds.0 grown s.adds.1.0 s.adds.1.1 s.differ form s.well_formed

  pub number-stored : (id : ℕ) → slice_get packed' id ≡ Some p → slice_get types' id ≡ Some t
  number-stored id e =
      number_of_form (record { types = types'; packed = packed'; lists = more }) IsPool-stored t p id s.well_formed
      (Packs-grown types types' more more (KeepsEach-adds types types' t s.adds.0 s.adds.1.1) (KeepsEach-refl more) t p form) e

  pub Grows-stored : Grows (record { types = types; packed = packed; lists = lists }) (record { types = types'; packed = packed'; lists = more })
  Grows-stored = record {
    types = KeepsEach-adds types types' t s.adds.0 s.adds.1.1;
    packed = KeepsEach-adds packed packed' p s.adds.0 s.adds.1.0;
    lists = s.kept;
  }

  pub stands-stored : (k : ℕ) → slice_get types k ≡ Some t → types' ≡ types
  stands-stored k there = adds_none types types' packed packed' more t p s.adds.0 grown s.adds.1.0 s.adds.1.1 s.differ form k there
