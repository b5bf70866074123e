-- The node with a number in a row.
use Rattle.std.proofs.Common.{
  ◌≡◌,
  ℕ,
  zero,
  suc,
  ◌+◌,
  ◌-◌,
  ◌<◌,
  ◌≤◌,
  ◌⊎◌,
  inl,
  inr,
  true,
  List,
  [],
  ◌∷◌,
  ◌++◌,
  Option,
  Some,
  None,
  length,
  take,
  drop,
  slice_range,
  slice_get,
  slice_index_or,
  refl,
  sym,
  ap,
  subst,
  ◌∙◌,
  arith,
}
use Rattle.std.proofs.lemmas.List.{length-take-le, length-drop, get_or-take, get_or-drop, take-take, drop-take, drop-drop}
use Rattle.std.proofs.lemmas.Bool.{cases_lt}
use Rattle.php_tree.specs.declared.token.Token.{Token}
use Rattle.php_tree.specs.Tree.{Forest, none, leaf, node, Tree, leaves, count}
use Rattle.php_tree.specs.Ids.{preorder, places, place_of, first_or}
use Rattle.php_tree.proofs.Preorder.{length-preorder, length-places, skipped, entered}
use Rattle.php_rows.specs.declared.flat.Flat.{Flat}
use Rattle.php_rows.specs.Flatten.{fits, leafed, read}
use Rattle.php_rows.proofs.Fitting.{inside, in_order, fits_enough, count_read}
use Rattle.php_rows.proofs.RowReads.{read_enough}
use Rattle.php_rows.proofs.Leaves.{leaves_read, range_joins}

-- the nodes inside one with a number
abbrev pub inner_of : ℕ → Flat → List Flat → List Flat
inner_of id x ns = take (x.size - 1) (drop (suc id) ns)

pub record FoundAt (n at end : ℕ) (ns : List Flat) (ts : List Token) (next : Token) (id : ℕ) (x : Flat) : Type 0 where
  pub node : slice_get (preorder (read n at end ns ts)) id ≡ Some (x.kind, read n x.first x.end (inner_of id x ns) ts)
  pub place : slice_get (places (read n at end ns ts) next) id ≡ Some (place_of (slice_range ts x.first x.end) (first_or (slice_range ts x.end end) next))
  pub nested : fits n x.first x.end (inner_of id x ns) ≡ true
  pub few : length (inner_of id x ns) ≡ x.size - 1
  pub some : 0 < x.size
  pub within : suc id + (x.size - 1) ≤ length ns
  pub late : x.end ≤ end

preorder_leafed : (us : List Token) (f : Forest) → preorder (leafed us f) ≡ preorder f
preorder_leafed [] f = refl
preorder_leafed (t ∷ us) f = preorder_leafed us f

places_leafed : (us : List Token) (f : Forest) (next : Token) → places (leafed us f) next ≡ places f next
places_leafed [] f next = refl
places_leafed (t ∷ us) f next = places_leafed us f next

pub first_or-append : (us vs : List Token) (next : Token) → first_or (us ++ vs) next ≡ first_or us (first_or vs next)
first_or-append [] vs next = refl
first_or-append (t ∷ us) vs next = refl

suc_not : (j : ℕ) → suc j ≡ 0 → ⊥
suc_not j e = cc

take_within : (a m : ℕ) (s : ℕ) (xs : List Flat) → a + s ≤ m → take s (drop a (take m xs)) ≡ take s (drop a xs)
take_within a m s xs le =
    let e : m ≡ a + (m - a) = omega arith in
    rw e (ap (take s) (drop-take a (m - a) xs) ∙ take-take s (m - a) (drop a xs) (omega arith))

-- the fuel of the inner nodes
raised : (n : ℕ) (x : Flat) (us vs : List Flat) (ts : List Token) (len : length us ≤ n) → us ≡ vs → read n x.first x.end us ts ≡ read (suc n) x.first x.end vs ts
raised n x us vs ts len e = read_enough n (suc n) x.first x.end us ts len (omega arith) ∙ ap (λ (u : List Flat). read (suc n) x.first x.end u ts) e

raised_fits : (n : ℕ) (x : Flat) (us vs : List Flat) (len : length us ≤ n) → us ≡ vs → fits n x.first x.end us ≡ true → fits (suc n) x.first x.end vs ≡ true
raised_fits n x us vs len e h = subst (λ (u : List Flat). fits (suc n) x.first x.end u ≡ true) e (sym (fits_enough n (suc n) x.first x.end us len (omega arith)) ∙ h)

-- a node inside the first one
found_inner : (n at end : ℕ) (y : Flat) (ys : List Flat) (ts : List Token) (next : Token) (j : ℕ) (x : Flat) → fits (suc n) at end (y ∷ ys) ≡ true → suc (length ys) ≤ suc n
    → FoundAt n y.first y.end (take (y.size - 1) ys) ts (first_or (slice_range ts y.end end) next) j x → FoundAt (suc n) at end (y ∷ ys) ts next (suc j) x
found_inner n at end y ys ts next j x h len o =
    let i = inside n at end y ys h in
    let m = y.size - 1 in
    let w = i.within in
    let l = length-take-le m ys w in
    let ow = o.within in
    let of = o.few in
    let c = read n y.first y.end (take m ys) ts in
    let f = read n y.end end (drop m ys) ts in
    let same : inner_of j x (take m ys) ≡ inner_of (suc j) x (y ∷ ys) = take_within (suc j) m (x.size - 1) ys (omega arith) in
    let short : length (inner_of j x (take m ys)) ≤ n = omega arith in
    let last = in_order n y.end end (drop m ys) i.rest in
    let olate = o.late in
    let here : slice_get (preorder (node y.kind c f)) (suc j) ≡ Some (x.kind, read n x.first x.end (inner_of j x (take m ys)) ts) =
    entered (y.kind, c) (x.kind, read n x.first x.end (inner_of j x (take m ys)) ts) (preorder c) (preorder f) (suc j)
    (suc_not j) (ap (slice_get (preorder c)) (omega arith) ∙ o.node) in
    let after : Token = first_or (leaves f) next in
    let after_is : after ≡ first_or (slice_range ts y.end end) next = ap (λ (us : List Token). first_or us next) (leaves_read n y.end end (drop m ys) ts i.rest) in
    let follows : first_or (slice_range ts x.end y.end) (first_or (slice_range ts y.end end) next) ≡ first_or (slice_range ts x.end end) next =
    sym (first_or-append (slice_range ts x.end y.end) (slice_range ts y.end end) next) ∙ ap (λ (us : List Token). first_or us next) (range_joins ts x.end y.end end olate last) in
    let there : slice_get (places c after) j ≡ Some (place_of (slice_range ts x.first x.end) (first_or (slice_range ts x.end end) next)) =
    ap (λ (u : Token). slice_get (places c u) j) after_is ∙ o.place ∙ ap (λ (u : Token). Some (place_of (slice_range ts x.first x.end) u)) follows in
    record {
      node = ap (λ (u : List Tree). slice_get u (suc j)) (preorder_leafed (slice_range ts at y.first) (node y.kind c f)) ∙ here
          ∙ ap (λ (u : Forest). Some (x.kind, u)) (raised n x (inner_of j x (take m ys)) (inner_of (suc j) x (y ∷ ys)) ts short same);
      place = ap (λ (u : List (ℕ × ℕ)). slice_get u (suc j)) (places_leafed (slice_range ts at y.first) (node y.kind c f) next)
          ∙ entered (place_of (leaves c) after)
          (place_of (slice_range ts x.first x.end) (first_or (slice_range ts x.end end) next)) (places c after)
          (places f next) (suc j) (suc_not j) (ap (slice_get (places c after)) (omega arith) ∙ there);
      nested = raised_fits n x (inner_of j x (take m ys)) (inner_of (suc j) x (y ∷ ys)) short same o.nested;
      few = ap length (sym same) ∙ of;
      some = o.some;
      within = omega arith;
      late = omega arith;
    }

-- a node behind the first one
found_behind : (n at end : ℕ) (y : Flat) (ys : List Flat) (ts : List Token) (next : Token) (j : ℕ) (x : Flat)
    → fits (suc n) at end (y ∷ ys) ≡ true → suc (length ys) ≤ suc n → y.size - 1 ≤ j
    → FoundAt n y.end end (drop (y.size - 1) ys) ts next (j - (y.size - 1)) x → FoundAt (suc n) at end (y ∷ ys) ts next (suc j) x
found_behind n at end y ys ts next j x h len past o =
    let i = inside n at end y ys h in
    let m = y.size - 1 in
    let w = i.within in
    let l = length-take-le m ys w in
    let ld = length-drop m ys in
    let ow = o.within in
    let of = o.few in
    let c = read n y.first y.end (take m ys) ts in
    let f = read n y.end end (drop m ys) ts in
    let sum : m + suc (j - m) ≡ suc j = omega arith in
    let same : inner_of (j - m) x (drop m ys) ≡ inner_of (suc j) x (y ∷ ys) = ap (take (x.size - 1)) (drop-drop (suc (j - m)) m ys ∙ ap (λ (k : ℕ). drop k ys) sum) in
    let short : length (inner_of (j - m) x (drop m ys)) ≤ n = omega arith in
    let counted : length (preorder c) ≡ m = length-preorder c ∙ count_read n y.first y.end (take m ys) ts i.inner ∙ l in
    let after : Token = first_or (leaves f) next in
    let placed : length (places c after) ≡ m = length-places c after ∙ count_read n y.first y.end (take m ys) ts i.inner ∙ l in
    record {
      node = ap (λ (u : List Tree). slice_get u (suc j)) (preorder_leafed (slice_range ts at y.first) (node y.kind c f))
          ∙ skipped (y.kind, c) (preorder c) (preorder f) (suc j) (j - m) (omega arith) ∙ o.node
          ∙ ap (λ (u : Forest). Some (x.kind, u)) (raised n x (inner_of (j - m) x (drop m ys)) (inner_of (suc j) x (y ∷ ys)) ts short same);
      place = ap (λ (u : List (ℕ × ℕ)). slice_get u (suc j)) (places_leafed (slice_range ts at y.first) (node y.kind c f) next)
          ∙ skipped (place_of (leaves c) after) (places c after) (places f next) (suc j) (j - m) (omega arith) ∙ o.place;
      nested = raised_fits n x (inner_of (j - m) x (drop m ys)) (inner_of (suc j) x (y ∷ ys)) short same o.nested;
      few = ap length (sym same) ∙ of;
      some = o.some;
      within = omega arith;
      late = o.late;
    }

pub found : (n at end : ℕ) (ns : List Flat) (ts : List Token) (next : Token) (id : ℕ) (d x : Flat)
    → fits n at end ns ≡ true → length ns ≤ n → id < length ns → x ≡ slice_index_or ns id d
    → FoundAt n at end ns ts next id x
found n at end [] ts next id d x h len lt e = absurd (omega arith)
found zero at end (y ∷ ys) ts next id d x h len lt e = absurd (omega arith)
found (suc n) at end (y ∷ ys) ts next zero d x h len lt e =
    let i = inside n at end y ys h in
    let inner = take (y.size - 1) ys in
    let rest = drop (y.size - 1) ys in
    let l = length-take-le (y.size - 1) ys i.within in
    let w = i.within in
    let some = i.some in
    let c = read n y.first y.end inner ts in
    let f = read n y.end end rest ts in
    let fit = fits_enough n (suc n) y.first y.end inner (omega arith) (omega arith) in
    subst (λ (z : Flat). FoundAt (suc n) at end (y ∷ ys) ts next zero z) (sym e) (record {
      node = ap (λ (u : List Tree). slice_get u 0) (preorder_leafed (slice_range ts at y.first) (node y.kind c f))
          ∙ ap (λ (u : Forest). Some (y.kind, u)) (raised n y inner inner ts (omega arith) refl);
      place = ap (λ (u : List (ℕ × ℕ)). slice_get u 0) (places_leafed (slice_range ts at y.first) (node y.kind c f) next)
          ∙ rw (leaves_read n y.first y.end inner ts i.inner, leaves_read n y.end end rest ts i.rest) refl;
      nested = raised_fits n y inner inner (omega arith) refl i.inner;
      few = l;
      some = some;
      within = omega arith;
      late = in_order n y.end end rest i.rest;
    })
found (suc n) at end (y ∷ ys) ts next (suc j) d x h len lt e =
    let i = inside n at end y ys h in
    let w = i.within in
    let l = length-take-le (y.size - 1) ys i.within in
    let ld = length-drop (y.size - 1) ys in
    elim (cases_lt j (y.size - 1)) [
      | inl early ↦ found_inner n at end y ys ts next j x h len
          (found n y.first y.end (take (y.size - 1) ys) ts (first_or (slice_range ts y.end end) next) j d x i.inner
          (omega arith) (omega arith) (e ∙ sym (get_or-take (y.size - 1) ys j d early)))
      | inr past ↦ found_behind n at end y ys ts next j x h len past
          (found n y.end end (drop (y.size - 1) ys) ts next (j - (y.size - 1)) d x i.rest (omega arith) (omega arith)
          (e ∙ ap (λ (k : ℕ). slice_index_or ys k d) (omega arith) ∙ sym (get_or-drop (y.size - 1) ys (j - (y.size - 1)) d)))
    ]
