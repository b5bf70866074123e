-- Places of names among names that ascend.
use Rattle.std.proofs.Common.{◌≡◌, ◌≢◌, ◌<◌, ◌≤◌, ◌⊎◌, inl, inr, ℕ, zero, suc, ◌+◌, Bool, true, false, List, [], ◌∷◌, length, get_or, refl, sym, ap, ◌∙◌, arith}
use Rattle.std.specs.Prelude.{Option, Some, None, option_map, if◌then◌else◌}
use Rattle.std.specs.Str.{bytes_eq}
use Rattle.std.specs.Ordering.{nat_cmp, is_eq, ordering_reverse}
use Rattle.std.specs.declared.cmp.Ordering.{Ordering}
use Rattle.std.specs.declared.cmp.Ordering.TheVariants.{Less, Equal, Greater}
use Rattle.std.specs.Cmp.Lexicographic.{slice_cmp, texts_ties, same_text, nat_list_cmp_total}
use Rattle.std.proofs.lemmas.Bool.{cases_lt, cases_eq}
use Rattle.std.proofs.lemmas.Cmp.{tied_itself}
use Rattle.program_names.specs.Classes.{AreAscending, place_of}

abbrev pub cmp : List ℕ → List ℕ → Ordering
cmp x y = slice_cmp nat_cmp x y

pub cmp_itself : (x : List ℕ) → cmp x x ≡ Equal
cmp_itself x = tied_itself nat_list_cmp_total x

pub less_not_same : (x y : List ℕ) → cmp x y ≡ Less → x ≡ y → ⊥
less_not_same x y l e = let h : Equal ≡ Less = sym (cmp_itself x) ∙ ap (λ (z : List ℕ). cmp x z) e ∙ l in cc

pub same_from_equal : (x y : List ℕ) → cmp x y ≡ Equal → x ≡ y
same_from_equal x y e = same_text x y (sym (texts_ties x y ∙ ap is_eq e))

-- ---- names that ascend

tail : (n : List ℕ) (ns : List (List ℕ)) → AreAscending (n ∷ ns) → AreAscending ns
tail n [] a = tt
tail n (m ∷ ms) a = a.1

head_first : (n : List ℕ) (ns : List (List ℕ)) (j : ℕ) → AreAscending (n ∷ ns) → j < length ns → cmp n (get_or ns j []) ≡ Less
head_first n [] j a h = absurd (omega (arith, h))
head_first n (m ∷ ms) zero a h = a.0
head_first n (m ∷ ms) (suc j) a h = nat_list_cmp_total.trans n m (get_or ms j []) a.0 (head_first m ms j a.1 (omega (arith, h)))

pub ascends : (ns : List (List ℕ)) (i j : ℕ) → AreAscending ns → i < j → j < length ns → cmp (get_or ns i []) (get_or ns j []) ≡ Less
ascends [] i j a l h = absurd (omega (arith, h))
ascends (n ∷ ns) i zero a l h = absurd (omega (arith, l))
ascends (n ∷ ns) zero (suc j) a l h = head_first n ns j a (omega (arith, h))
ascends (n ∷ ns) (suc i) (suc j) a l h = ascends ns i j (tail n ns a) (omega (arith, l)) (omega (arith, h))

-- ---- the place of a name

pub place_none : (name : List ℕ) (ns : List (List ℕ)) → ((k : ℕ) → k < length ns → get_or ns k [] ≢ name) → place_of name ns ≡ None
place_none name [] n = refl
place_none name (m ∷ ms) n = at (bytes_eq name m) refl (place_none name ms (λ k h. n (suc k) (omega (arith, h))))
  where
    at : (t : Bool) → t ≡ bytes_eq name m → place_of name ms ≡ None → (if t then Some 0 else option_map (λ i. suc i) (place_of name ms)) ≡ None
    at true e p = absurd (n 0 (omega arith) (sym (same_text name m e)))
    at false e p = ap (λ (o : Option ℕ). option_map (λ i. suc i) o) p

pub place_some : (name : List ℕ) (ns : List (List ℕ)) (i : ℕ) → AreAscending ns → i < length ns → get_or ns i [] ≡ name → place_of name ns ≡ Some i
place_some name [] i a h e = absurd (omega (arith, h))
place_some name (m ∷ ms) zero a h e = at (bytes_eq name m) refl
  where
    at : (t : Bool) → t ≡ bytes_eq name m → (if t then Some 0 else option_map (λ i. suc i) (place_of name ms)) ≡ Some 0
    at true q = refl
    at false q = let r : true ≡ false = sym (texts_ties name m ∙ ap is_eq (ap (λ (z : List ℕ). cmp name z) e ∙ cmp_itself name)) ∙ sym q in cc
place_some name (m ∷ ms) (suc i) a h e = at (bytes_eq name m) refl (place_some name ms i (tail m ms a) (omega (arith, h)) e)
  where
    at : (t : Bool) → t ≡ bytes_eq name m → place_of name ms ≡ Some i → (if t then Some 0 else option_map (λ i. suc i) (place_of name ms)) ≡ Some (suc i)
    at true q p = absurd (less_not_same m (get_or ms i []) (head_first m ms i a (omega (arith, h))) (sym (same_text name m q) ∙ sym e))
    at false q p = ap (λ (o : Option ℕ). option_map (λ i. suc i) o) p

-- ---- a search that halves

-- the names below one bound come before a name, and those from another on behind it
pub record Narrowed (ns : List (List ℕ)) (name : List ℕ) (low high : ℕ) : Type 0 where
  pub order : low ≤ high
  pub within : high ≤ length ns
  pub below : (k : ℕ) → k < low → cmp (get_or ns k []) name ≡ Less
  pub above : (k : ℕ) → high ≤ k → k < length ns → cmp name (get_or ns k []) ≡ Less

pub narrowed_none : (ns : List (List ℕ)) (name : List ℕ) → Narrowed ns name 0 (length ns)
narrowed_none ns name = record { order = omega arith; within = omega arith; below = λ k h. absurd (omega (arith, h)); above = λ k l h. absurd (omega (arith, l, h)) }

pub narrowed_less : (ns : List (List ℕ)) (name : List ℕ) (low high m : ℕ) → AreAscending ns → Narrowed ns name low high → m < high → cmp (get_or ns m []) name ≡ Less →
    Narrowed ns name (m + 1) high
narrowed_less ns name low high m a w h e = record { order = omega (arith, h); within = w.within; below = λ k l. below k (cases_eq k m) l; above = w.above }
  where
    below : (k : ℕ) → (k ≡ m) ⊎ (k ≢ m) → k < m + 1 → cmp (get_or ns k []) name ≡ Less
    below k (inl q) l = ap (λ (i : ℕ). cmp (get_or ns i []) name) q ∙ e
    below k (inr d) l = nat_list_cmp_total.trans (get_or ns k []) (get_or ns m []) name (ascends ns k m a (omega (arith, d, l)) (omega (arith, h, w.within))) e

pub narrowed_greater : (ns : List (List ℕ)) (name : List ℕ) (low high m : ℕ) → AreAscending ns → Narrowed ns name low high → low ≤ m → m < high →
    cmp (get_or ns m []) name ≡ Greater → Narrowed ns name low m
narrowed_greater ns name low high m a w g h e = record { order = g; within = omega (arith, h, w.within); below = w.below; above = λ k l i. above k (cases_eq k m) l i }
  where
    turned : cmp name (get_or ns m []) ≡ Less
    turned = nat_list_cmp_total.antisymm name (get_or ns m []) ∙ ap ordering_reverse e

    above : (k : ℕ) → (k ≡ m) ⊎ (k ≢ m) → m ≤ k → k < length ns → cmp name (get_or ns k []) ≡ Less
    above k (inl q) l i = ap (λ (j : ℕ). cmp name (get_or ns j [])) q ∙ turned
    above k (inr d) l i = nat_list_cmp_total.trans name (get_or ns m []) (get_or ns k []) turned (ascends ns m k a (omega (arith, d, l)) i)

pub narrowed_all : (ns : List (List ℕ)) (name : List ℕ) (low high : ℕ) → Narrowed ns name low high → high ≤ low → place_of name ns ≡ None
narrowed_all ns name low high w h = place_none name ns (λ k i. apart k i (cases_lt k low))
  where
    apart : (k : ℕ) → k < length ns → (k < low) ⊎ (low ≤ k) → get_or ns k [] ≢ name
    apart k i (inl l) = less_not_same (get_or ns k []) name (w.below k l)
    apart k i (inr l) = λ e. less_not_same name (get_or ns k []) (w.above k (omega (arith, h, l)) i) (sym e)
