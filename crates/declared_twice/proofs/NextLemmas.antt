-- The next declarations of a name, and those that clash.
use Rattle.std.proofs.Common.{◌≡◌, ◌<◌, ◌≤◌, ◌⊎◌, inl, inr, ℕ, ◌+◌, Bool, true, false, List, length, map, refl, sym, ap, subst, ◌∙◌, slice_get, Some, None, Option, arith}
use Rattle.std.specs.Prelude.{option_map}
use Rattle.std.specs.Borrow.{Bor}
use Rattle.std.specs.declared.cmp.Ordering.{Ordering}
use Rattle.std.specs.declared.cmp.Ordering.TheVariants.{Less, Equal, Greater}
use Rattle.std.proofs.lemmas.Bool.{false≢true, cases_order, cases_lt}
use Rattle.std.proofs.lemmas.Option.{none-some, same_Some, slice_get_within, slice_get-map}
use Rattle.node_names.specs.declared.name_sort.NameSort.{NameSort}
use Rattle.node_names.specs.declared.name_sort.NameSort.TheVariants as sort
use Rattle.node_names.specs.contracts.name_sort.NameSortOrd.TheImpl as sorts
use Rattle.std.specs.Ordering.{nat_cmp, is_eq, ordering_then}
use Rattle.std.specs.Cmp.Lexicographic.{slice_cmp, bytes_decides, texts_ties, nat_list_cmp_total}
use Rattle.std.proofs.lemmas.Cmp.{tied_itself}
use Rattle.file_declarations.specs.declared.declaration.Declaration.{Declaration}
use Rattle.graph_search.specs.Graph.{Graph, marked}
use Rattle.declared_twice.specs.Keys.{AreNext, ClashAt, HasKey, IsMetAt, Key, key_of, lent_key}
use Rattle.declared_twice.specs.Later.{AreLater, HasEqual, IsFirstAt}
use Rattle.declared_twice.specs.Runs.{AreMet, Meets}
use Rattle.declared_twice.proofs.LaterLemmas.{first_same}

-- one declaration stands at a place
same_at : (ds : List Declaration) (j : ℕ) (d e : Declaration) → slice_get ds j ≡ Some d → slice_get ds j ≡ Some e → d ≡ e
same_at ds j d e a b = same_Some d e (sym a ∙ b)

same_key : (ds : List Declaration) (k m : Key) (j : ℕ) → HasKey ds k j → HasKey ds m j → k ≡ m
same_key ds k m j a b = same_Some k m (sym a.key ∙ ap key_of (same_at ds j a.declaration b.declaration a.at b.at) ∙ b.key)

-- the next place of a key
pub next_of : (ds : List Declaration) (ns : List (Option ℕ)) (i : ℕ) (k : Key) (n : Option ℕ) → AreNext ds ns
    → HasKey ds k i → slice_get ns i ≡ Some n → IsFirstAt (HasKey ds k) (i + 1) n
next_of ds ns i k n a h e = let r = a.each i k h in subst (λ (o : Option ℕ). IsFirstAt (HasKey ds k) (i + 1) o) (same_Some r.0 n (sym r.1 ∙ e)) r.2

-- a declaration that has a next one has a key
pub key_of_next : (ds : List Declaration) (ns : List (Option ℕ)) (i j : ℕ) (d : Declaration) → AreNext ds ns
    → slice_get ds i ≡ Some d → slice_get ns i ≡ Some (Some j) → (k : Key) × HasKey ds k i
key_of_next ds ns i j d a at e = by_cases (key_of d) refl
  where
    by_cases : (o : Option Key) → key_of d ≡ o → (k : Key) × HasKey ds k i
    by_cases None h = absurd (none-some j (same_Some None (Some j) (sym (a.none i d at h) ∙ e)))
    by_cases (Some k) h = (k, record { declaration = d; at = at; key = h })

pub next_larger : (ds : List Declaration) (ns : List (Option ℕ)) (i j : ℕ) (d : Declaration) → AreNext ds ns
    → slice_get ds i ≡ Some d → slice_get ns i ≡ Some (Some j) → (i < j) × (j < length ds)
next_larger ds ns i j d a at e =
    let k = key_of_next ds ns i j d a at e in
    let n = next_of ds ns i k.0 (Some j) a k.1 e in
    (omega (arith, n.0), slice_get_within ds j n.1.declaration n.1.at)

-- ---- the first one in a file that is marked

-- None of those between two places is in a file that is marked.
pub record FirstMet (ds : List Declaration) (ms : List Bool) (first place : ℕ) : Type 0 where
  pub order : first ≤ place
  pub within : place < length ds
  pub key : (k : Key) → HasKey ds k first → HasKey ds k place
  pub none : (k : Key) → HasKey ds k first → (j : ℕ) → first ≤ j → j < place → IsMetAt ds ms k j → ⊥

pub first_met_start : (ds : List Declaration) (ms : List Bool) (first : ℕ) → first < length ds → FirstMet ds ms first first
first_met_start ds ms first w = record { order = omega arith; within = w; key = λ k h. h; none = λ k h j a b x. omega (arith, a, b) }

unmet : (ds : List Declaration) (ms : List Bool) (k : Key) (place : ℕ) (d : Declaration) → slice_get ds place ≡ Some d → marked ms d.at.file ≡ false → IsMetAt ds ms k place → ⊥
unmet ds ms k place d at m x = false≢true (sym m ∙ ap (λ (e : Declaration). marked ms e.at.file) (same_at ds place d x.has.declaration at x.has.at) ∙ x.met)

pub first_met_next : (ds : List Declaration) (ns : List (Option ℕ)) (ms : List Bool) (first place next : ℕ) (d : Declaration) → AreNext ds ns → slice_get ds place ≡ Some d →
    marked ms d.at.file ≡ false →
    slice_get ns place ≡ Some (Some next) → FirstMet ds ms first place → FirstMet ds ms first next
first_met_next ds ns ms first place next d a at m e f = record {
  order = omega (arith, f.order, larger.0);
  within = larger.1;
  key = λ k h. (step k h).1;
  none = λ k h j l s x. none k h j l s x (cases_order j place);
}
  where
    larger : (place < next) × (next < length ds)
    larger = next_larger ds ns place next d a at e

    step : (k : Key) → HasKey ds k first → (place + 1 ≤ next) × HasKey ds k next × ((l : ℕ) → place + 1 ≤ l → l < next → HasKey ds k l → ⊥)
    step k h = next_of ds ns place k (Some next) a (f.key k h) e

    none : (k : Key) → HasKey ds k first → (j : ℕ) → first ≤ j → j < next → IsMetAt ds ms k j → (j ≡ place) ⊎ ((j < place) ⊎ (place < j)) → ⊥
    none k h j l s x (inl q) = unmet ds ms k place d at m (subst (λ (i : ℕ). IsMetAt ds ms k i) q x)
    none k h j l s x (inr (inl q)) = f.none k h j l q x
    none k h j l s x (inr (inr q)) = (step k h).2 j (omega (arith, q)) s x.has

pub first_met_here : (ds : List Declaration) (ms : List Bool) (first place : ℕ) (d : Declaration)
    → slice_get ds place ≡ Some d → marked ms d.at.file ≡ true → FirstMet ds ms first place →
    (k : Key) → HasKey ds k first → IsFirstAt (IsMetAt ds ms k) first (Some place)
first_met_here ds ms first place d at m f k h = (
  f.order,
  record {
    has = has;
    met = ap (λ (e : Declaration). marked ms e.at.file)
        (same_at ds place has.declaration d has.at at) ∙ m;
  },
  f.none k h,
)
  where
    has : HasKey ds k place
    has = f.key k h

pub first_met_none : (ds : List Declaration) (ns : List (Option ℕ)) (ms : List Bool) (first place : ℕ)
    (d : Declaration) → AreNext ds ns → slice_get ds place ≡ Some d → marked ms d.at.file ≡ false →
    slice_get ns place ≡ Some None → FirstMet ds ms first place → (k : Key) → HasKey ds k first → IsFirstAt (IsMetAt ds ms k) first None
first_met_none ds ns ms first place d a at m e f k h = λ j l x. none j l x (cases_order j place)
  where
    none : (j : ℕ) → first ≤ j → IsMetAt ds ms k j → (j ≡ place) ⊎ ((j < place) ⊎ (place < j)) → ⊥
    none j l x (inl q) = unmet ds ms k place d at m (subst (λ (i : ℕ). IsMetAt ds ms k i) q x)
    none j l x (inr (inl q)) = f.none k h j l q x
    none j l x (inr (inr q)) = next_of ds ns place k None a (f.key k h) e j (omega (arith, q)) x.has

-- ---- the second one of a pair

pub second_none : (ds : List Declaration) (ns : List (Option ℕ)) (g : Graph) (es : List ℕ) (place : ℕ) → AreNext ds ns → slice_get ns place ≡ Some None →
    IsFirstAt (ClashAt ds g es place) (place + 1) None
second_none ds ns g es place a e = λ j l x. next_of ds ns place x.key None a x.first e j l x.second

pub second_is : (ds : List Declaration) (ns : List (Option ℕ)) (g : Graph) (es : List ℕ) (ms : List Bool) (place next : ℕ) (d : Declaration) (o : Option ℕ) → AreNext ds ns →
    slice_get ds place ≡ Some d →
    slice_get ns place ≡ Some (Some next) → AreMet g es d.at.file ms
    → ((k : Key) → HasKey ds k next → IsFirstAt (IsMetAt ds ms k) next o)
    → IsFirstAt (ClashAt ds g es place) (place + 1) o
second_is ds ns g es ms place next d o a at e m f = by_cases o (f k.0 n.1)
  where
    k : (k : Key) × HasKey ds k place
    k = key_of_next ds ns place next d a at e

    n : (place + 1 ≤ next) × HasKey ds k.0 next × ((l : ℕ) → place + 1 ≤ l → l < next → HasKey ds k.0 l → ⊥)
    n = next_of ds ns place k.0 (Some next) a k.1 e

    is_met : (j : ℕ) → ClashAt ds g es place j → IsMetAt ds ms k.0 j
    is_met j x = record {
      has = record { declaration = x.second.declaration; at = x.second.at; key = x.second.key ∙ ap (λ (y : Key). Some y) (same_key ds x.key k.0 place x.first k.1) };
      met = m.all x.second.declaration.at.file
          (subst (λ (y : Declaration). Meets g es y.at.file x.second.declaration.at.file)
          (same_at ds place x.first.declaration d x.first.at at) x.meets);
    }

    later : (j : ℕ) → place + 1 ≤ j → ClashAt ds g es place j → next ≤ j
    later j l x = at_least (cases_lt j next)
      where
        at_least : (j < next) ⊎ (next ≤ j) → next ≤ j
        at_least (inl s) = absurd (n.2 j l s (is_met j x).has)
        at_least (inr s) = s

    by_cases : (q : Option ℕ) → IsFirstAt (IsMetAt ds ms k.0) next q → IsFirstAt (ClashAt ds g es place) (place + 1) q
    by_cases None h = λ j l x. h j (later j l x) (is_met j x)
    by_cases (Some j) h = (
      omega (arith, n.0, h.0),
      record {
        order = omega (arith, n.0, h.0);
        key = k.0;
        first = record { declaration = d; at = at; key = ap key_of (same_at ds place d k.1.declaration at k.1.at) ∙ k.1.key };
        second = h.1.has;
        meets = m.sound h.1.has.declaration.at.file h.1.met;
      },
      λ l s t x. h.2 l (later l s x) t (is_met l x),
    )

-- no pair begins at a place or before it
pub none_more : (ds : List Declaration) (g : Graph) (es : List ℕ) (place : ℕ)
    → ((i j : ℕ) → i < place → ClashAt ds g es i j → ⊥) → IsFirstAt (ClashAt ds g es place) (place + 1) None →
    (i j : ℕ) → i < place + 1 → ClashAt ds g es i j → ⊥
none_more ds g es place none f i j l x = at (cases_lt i place)
  where
    at : (i < place) ⊎ (place ≤ i) → ⊥
    at (inl s) = none i j s x
    at (inr s) =
        let same : i ≡ place = omega (arith, s, l) in
        f j (omega (arith, same, x.order)) (subst (λ (n : ℕ). ClashAt ds g es n j) same x)

pub none_at_all : (ds : List Declaration) (g : Graph) (es : List ℕ) (place : ℕ) → length ds ≤ place
    → ((i j : ℕ) → i < place → ClashAt ds g es i j → ⊥) → (i j : ℕ) → ClashAt ds g es i j → ⊥
none_at_all ds g es place l none i j x = none i j (omega (arith, l, slice_get_within ds i x.first.declaration x.first.at)) x

-- ---- keys by which places are looked up

abbrev key_from : NameSort → List ℕ → Key
key_from s w = (s, w)

abbrev pub Lent : Type 0
Lent = NameSort × Bor (List ℕ)

at_same : (ks : List (Option Lent)) (ds : List Declaration) → map (option_map lent_key) ks ≡ map key_of ds → (j : ℕ) →
    option_map (option_map lent_key) (slice_get ks j) ≡ option_map key_of (slice_get ds j)
at_same ks ds e j = sym (slice_get-map (option_map lent_key) ks j) ∙ ap (λ (xs : List (Option Key)). slice_get xs j) e ∙ slice_get-map key_of ds j

-- what stands among the keys where a declaration stands
key_there : (ks : List (Option Lent)) (ds : List Declaration) (j : ℕ) (d : Declaration) → map (option_map lent_key) ks ≡ map key_of ds → slice_get ds j ≡ Some d →
    (o : Option Lent) × (slice_get ks j ≡ Some o) × (option_map lent_key o ≡ key_of d)
key_there ks ds j d e at = by_cases (slice_get ks j) refl (at_same ks ds e j ∙ ap (λ (o : Option Declaration). option_map key_of o) at)
  where
    by_cases : (q : Option (Option Lent)) → slice_get ks j ≡ q → option_map (option_map lent_key) q ≡ Some (key_of d) →
        (o : Option Lent) × (slice_get ks j ≡ Some o) × (option_map lent_key o ≡ key_of d)
    by_cases None h n = absurd (none-some (key_of d) n)
    by_cases (Some o) h n = (o, h, same_Some (option_map lent_key o) (key_of d) n)

-- and the other way round
declaration_there : (ks : List (Option Lent)) (ds : List Declaration) (j : ℕ) (o : Option Lent) → map (option_map lent_key) ks ≡ map key_of ds → slice_get ks j ≡ Some o →
    (d : Declaration) × (slice_get ds j ≡ Some d) × (option_map lent_key o ≡ key_of d)
declaration_there ks ds j o e at = by_cases (slice_get ds j) refl (sym (ap (λ (q : Option (Option Lent)). option_map (option_map lent_key) q) at) ∙ at_same ks ds e j)
  where
    by_cases : (q : Option Declaration) → slice_get ds j ≡ q → Some (option_map lent_key o) ≡ option_map key_of q
        → (d : Declaration) × (slice_get ds j ≡ Some d) × (option_map lent_key o ≡ key_of d)
    by_cases None h n = absurd (none-some (option_map lent_key o) (sym n))
    by_cases (Some d) h n = (d, h, same_Some (option_map lent_key o) (key_of d) n)

pub next_from_later : (cmp : Lent → Lent → Ordering) (ks : List (Option Lent)) (ds : List Declaration)
    (ns : List (Option ℕ)) → ((x y : Lent) → cmp x y ≡ Equal → lent_key x ≡ lent_key y) →
    ((x y : Lent) → lent_key x ≡ lent_key y → cmp x y ≡ Equal) → map (option_map lent_key) ks ≡ map key_of ds → length ks ≡ length ds → AreLater cmp ks ns → AreNext ds ns
next_from_later cmp ks ds ns same equal e l a = record {
  size = a.size ∙ l;
  each = λ i k h. each i k h (key_there ks ds i h.declaration e h.at);
  none = λ i d at n. none i d n (key_there ks ds i d e at);
}
  where
    to : (x : Lent) (j : ℕ) → HasEqual cmp ks x j → HasKey ds (lent_key x) j
    to x j h =
        let r = declaration_there ks ds j (Some h.key) e h.at in
        record { declaration = r.0; at = r.1; key = sym r.2 ∙ ap (λ (k : Key). Some k) (sym (same x h.key h.equal)) }

    from : (x : Lent) (j : ℕ) → HasKey ds (lent_key x) j → HasEqual cmp ks x j
    from x j h = with_key (key_there ks ds j h.declaration e h.at)
      where
        with_key : (o : Option Lent) × (slice_get ks j ≡ Some o) × (option_map lent_key o ≡ key_of h.declaration) → HasEqual cmp ks x j
        with_key (None, at, q) = absurd (none-some (lent_key x) (q ∙ h.key))
        with_key (Some y, at, q) = record { key = y; at = at; equal = equal x y (sym (same_Some (lent_key y) (lent_key x) (q ∙ h.key))) }

    each : (i : ℕ) (k : Key) (h : HasKey ds k i) → (o : Option Lent) × (slice_get ks i ≡ Some o) × (option_map lent_key o ≡ key_of h.declaration) →
        (n : Option ℕ) × (slice_get ns i ≡ Some n) × IsFirstAt (HasKey ds k) (i + 1) n
    each i k h (None, at, q) = absurd (none-some k (q ∙ h.key))
    each i k h (Some x, at, q) =
        let r = a.each i x at in
        let is : lent_key x ≡ k = same_Some (lent_key x) k (q ∙ h.key) in
        (r.0, r.1, subst (λ (m : Key). IsFirstAt (HasKey ds m) (i + 1) r.0) is (first_same (HasEqual cmp ks x) (HasKey ds (lent_key x)) (i + 1) r.0 (to x) (from x) r.2))

    none : (i : ℕ) (d : Declaration) → key_of d ≡ None → (o : Option Lent) × (slice_get ks i ≡ Some o) × (option_map lent_key o ≡ key_of d) → slice_get ns i ≡ Some None
    none i d n (None, at, q) = a.none i at
    none i d n (Some x, at, q) = absurd (none-some (lent_key x) (sym (q ∙ n)))

-- keys are compared as equal exactly where they are
sorts_equal : (a b : NameSort) → (sorts.ghosts).cmp a b ≡ Equal → a ≡ b
sorts_equal sort.Function sort.Function e = refl
sorts_equal sort.Class sort.Class e = refl
sorts_equal sort.Constant sort.Constant e = refl
sorts_equal sort.Method sort.Method e = refl
sorts_equal sort.ClassConstant sort.ClassConstant e = refl
sorts_equal sort.Property sort.Property e = refl
sorts_equal a b e = absurd (cc)

equal_sorts : (a : NameSort) → (sorts.ghosts).cmp a a ≡ Equal
equal_sorts sort.Function = refl
equal_sorts sort.Class = refl
equal_sorts sort.Constant = refl
equal_sorts sort.Method = refl
equal_sorts sort.ClassConstant = refl
equal_sorts sort.Property = refl

abbrev pub lent_cmp : Lent → Lent → Ordering
lent_cmp x y = ordering_then ((sorts.ghosts).cmp x.0 y.0) (slice_cmp nat_cmp x.1.now y.1.now)

then_parts : (a b : Ordering) → ordering_then a b ≡ Equal → (a ≡ Equal) × (b ≡ Equal)
then_parts Equal b e = (refl, e)
then_parts Less b e = absurd (cc)
then_parts Greater b e = absurd (cc)

pub equal_keys : (x y : Lent) → lent_cmp x y ≡ Equal → lent_key x ≡ lent_key y
equal_keys x y e =
    let p = then_parts ((sorts.ghosts).cmp x.0 y.0) (slice_cmp nat_cmp x.1.now y.1.now) e in
    let texts : x.1.now ≡ y.1.now = (bytes_decides x.1.now y.1.now).0 (texts_ties x.1.now y.1.now ∙ ap is_eq p.1) in
    ap (λ (s : NameSort). key_from s x.1.now) (sorts_equal x.0 y.0 p.0) ∙ ap (λ (w : List ℕ). key_from y.0 w) texts

pub same_keys : (x y : Lent) → lent_key x ≡ lent_key y → lent_cmp x y ≡ Equal
same_keys x y e =
    let sorts_same : x.0 ≡ y.0 = ap (λ (k : Key). k.0) e in
    let texts : x.1.now ≡ y.1.now = ap (λ (k : Key). k.1) e in
    ap (λ (s : NameSort). ordering_then ((sorts.ghosts).cmp x.0 s) (slice_cmp nat_cmp x.1.now y.1.now)) (sym sorts_same)
    ∙ ap (λ (o : Ordering). ordering_then o (slice_cmp nat_cmp x.1.now y.1.now)) (equal_sorts x.0)
    ∙ ap (λ (w : List ℕ). slice_cmp nat_cmp x.1.now w) (sym texts)
    ∙ tied_itself nat_list_cmp_total x.1.now
