-- One more node's items behind those of a file.
use Rattle.std.specs.Prelude.{map, take, drop}
use Rattle.std.proofs.Common.{◌≡◌, ◌≤◌, ℕ, zero, suc, ◌-◌, List, [], ◌∷◌, ◌++◌, Option, None, Some, length, refl, sym, ap, subst, ◌∙◌, arith, length-append}
use Rattle.std.proofs.lemmas.List.{length-map, take-append-le, take_rest}
use Rattle.php_tree.specs.declared.kind.NodeKind.{NodeKind}
use Rattle.node_names.specs.declared.name.Name.{Name}
use Rattle.node_names.specs.Compared.{Use}
use Rattle.node_names.specs.Slots.{NamedSlot}
use Rattle.node_facts.specs.declared.ends.Ends.{Ends}
use Rattle.node_facts.specs.declared.facts.FileFacts.{FileFacts}
use Rattle.node_facts.specs.declared.node_fact.NodeFact.{NodeFact}
use Rattle.node_facts.specs.Flat.{Flat, flat_in, between, first_of, items_if, node_in, nodes_in, start, facts_in, lengths_of, IsNext, IsUpTo, AreEnds, IsWhole, slots_listed, slots_named}
use Rattle.node_facts.specs.Named.{Named}
use Rattle.node_facts.specs.Seen.{slot_in, slots_in, uses_in}

-- ---- lists

less_none : (n : ℕ) → n - 0 ≡ n
less_none n = omega arith

none_less : (n : ℕ) → zero - suc n ≡ zero
none_less n = omega arith

less_one : (n m : ℕ) → suc n - suc m ≡ n - m
less_one n m = omega arith

none_more : (n : ℕ) → suc n ≤ zero → ⊥
none_more n h = omega (arith, h)

-- what stands before is as it was
pub between_more : {A : Type 0} (from to : ℕ) (xs ys : List A) → to ≤ length xs → between from to (xs ++ ys) ≡ between from to xs
between_more zero to xs ys h =
    ap (λ n. take n (xs ++ ys)) (less_none to) ∙ take-append-le to xs ys h ∙ ap (λ n. take n xs) (sym (less_none to))
between_more (suc from) zero xs ys h =
    ap (λ n. take n (drop (suc from) (xs ++ ys))) (none_less from) ∙ ap (λ n. take n (drop (suc from) xs)) (sym (none_less from))
between_more (suc from) (suc to) [] ys h = absurd (none_more to h)
between_more (suc from) (suc to) (x ∷ xs) ys h =
    ap (λ n. take n (drop from (xs ++ ys))) (less_one to from) ∙ between_more from to xs ys (omega (arith, h)) ∙ ap (λ n. take n (drop from xs)) (sym (less_one to from))

-- what is new stands behind
pub between_new : {A : Type 0} (xs ys : List A) → between (length xs) (length (xs ++ ys)) (xs ++ ys) ≡ ys
between_new [] ys = take_rest ys 0
between_new (x ∷ xs) ys =
    ap (λ n. take n (drop (length xs) (xs ++ ys))) (less_one (length (xs ++ ys)) (length xs)) ∙ between_new xs ys

first_if : {A : Type 0} (o : Option A) → first_of (items_if o) ≡ o
first_if None = refl
first_if (Some x) = refl

-- ---- lists of files

abbrev pub sizes : Flat → Ends
sizes x = record { declares = length x.declares; uses = length x.uses; slots = length x.slots; listed = length x.listed }

-- some lists, and one node's behind each
abbrev pub with_node : Flat → Named → Flat
with_node x n = record {
  declares = x.declares ++ n.declares;
  uses = x.uses ++ n.uses;
  slots = x.slots ++ items_if n.slot;
  listed = x.listed ++ n.listed;
}

up_to : (a b c : Ends) → IsUpTo a b → IsUpTo b c → IsUpTo a c
up_to a b c p q = record {
  declares = omega (arith, p.declares, q.declares);
  uses = omega (arith, p.uses, q.uses);
  slots = omega (arith, p.slots, q.slots);
  listed = omega (arith, p.listed, q.listed);
}

up_to_same : (a b : Ends) → a ≡ b → IsUpTo a b
up_to_same a b e = subst (λ (c : Ends). IsUpTo a c) e (record { declares = omega arith; uses = omega arith; slots = omega arith; listed = omega arith })

-- each node's items stand before the end
ends_up_to : (from to : Ends) (ns : List NodeFact) → AreEnds from ns to → IsUpTo from to
ends_up_to from to [] h = up_to_same from to h
ends_up_to from to (n ∷ ns) h = up_to from n.ends to h.0.up (ends_up_to n.ends to ns h.1)

sizes_up_to : (x : Flat) (n : Named) → IsUpTo (sizes x) (sizes (with_node x n))
sizes_up_to x n = record {
  declares = omega (arith, length-append x.declares n.declares);
  uses = omega (arith, length-append x.uses n.uses);
  slots = omega (arith, length-append x.slots (items_if n.slot));
  listed = omega (arith, length-append x.listed n.listed);
}

one_if_any : (o : Option NamedSlot) → length (items_if o) ≤ 1
one_if_any None = omega arith
one_if_any (Some s) = omega arith

sizes_next : (x : Flat) (n : Named) → IsNext (sizes x) (sizes (with_node x n))
sizes_next x n = record {
  up = sizes_up_to x n;
  one = omega (arith, length-append x.slots (items_if n.slot), one_if_any n.slot);
}

abbrev pub named_with : NodeKind → List Name → List Use → Option NamedSlot → List (NamedSlot × NamedSlot) → Named
named_with k ds us s ls = record { kind = k; declares = ds; uses = us; slot = s; listed = ls }

named_eq : (k : NodeKind) (ds ds' : List Name) (us us' : List Use) (s s' : Option NamedSlot) (ls ls' : List (NamedSlot × NamedSlot)) →
    ds ≡ ds' → us ≡ us' → s ≡ s' → ls ≡ ls' → named_with k ds us s ls ≡ named_with k ds' us' s' ls'
named_eq k ds ds' us us' s s' ls ls' d u e l =
    ap (λ (x : List Name). named_with k x us s ls) d
    ∙ ap (λ (x : List Use). named_with k ds' x s ls) u
    ∙ ap (λ (x : Option NamedSlot). named_with k ds' us' x ls) e
    ∙ ap (λ (x : List (NamedSlot × NamedSlot)). named_with k ds' us' s' x) l

-- a node whose items stand before is as it was
node_kept : (x : Flat) (n : Named) (k : NodeKind) (from to : Ends) → IsUpTo to (sizes x) → node_in (with_node x n) k from to ≡ node_in x k from to
node_kept x n k from to h =
    named_eq k (between from.declares to.declares (x.declares ++ n.declares)) (between from.declares to.declares x.declares)
    (between from.uses to.uses (x.uses ++ n.uses)) (between from.uses to.uses x.uses)
    (first_of (between from.slots to.slots (x.slots ++ items_if n.slot))) (first_of (between from.slots to.slots x.slots))
    (between from.listed to.listed (x.listed ++ n.listed)) (between from.listed to.listed x.listed)
    (between_more from.declares to.declares x.declares n.declares h.declares)
    (between_more from.uses to.uses x.uses n.uses h.uses)
    (ap (λ (xs : List NamedSlot). first_of xs) (between_more from.slots to.slots x.slots (items_if n.slot) h.slots))
    (between_more from.listed to.listed x.listed n.listed h.listed)

-- the new node tells what is new
node_new : (x : Flat) (n : Named) → node_in (with_node x n) n.kind (sizes x) (sizes (with_node x n)) ≡ n
node_new x n =
    named_eq n.kind (between (length x.declares) (length (x.declares ++ n.declares)) (x.declares ++ n.declares)) n.declares
    (between (length x.uses) (length (x.uses ++ n.uses)) (x.uses ++ n.uses)) n.uses
    (first_of (between (length x.slots) (length (x.slots ++ items_if n.slot)) (x.slots ++ items_if n.slot))) n.slot
    (between (length x.listed) (length (x.listed ++ n.listed)) (x.listed ++ n.listed)) n.listed
    (between_new x.declares n.declares) (between_new x.uses n.uses)
    (ap (λ (xs : List NamedSlot). first_of xs) (between_new x.slots (items_if n.slot)) ∙ first_if n.slot)
    (between_new x.listed n.listed)

abbrev pub fact_with : NodeKind → Ends → NodeFact
fact_with k e = record { kind = k; ends = e }

-- one more node
nodes_more : (x : Flat) (n : Named) (from : Ends) (ns : List NodeFact) → AreEnds from ns (sizes x) →
    nodes_in (with_node x n) from (ns ++ fact_with n.kind (sizes (with_node x n)) ∷ []) ≡ nodes_in x from ns ++ n ∷ []
nodes_more x n from [] h =
    ap (λ (y : Named). y ∷ []) (ap (λ (e : Ends). node_in (with_node x n) n.kind e (sizes (with_node x n))) h ∙ node_new x n)
nodes_more x n from (m ∷ ns) h =
    ap (λ (y : Named). y ∷ nodes_in (with_node x n) m.ends (ns ++ fact_with n.kind (sizes (with_node x n)) ∷ []))
    (node_kept x n m.kind from m.ends (ends_up_to m.ends (sizes x) ns h.1))
    ∙ ap (λ (ys : List Named). node_in x m.kind from m.ends ∷ ys) (nodes_more x n m.ends ns h.1)

ends_more : (x : Flat) (n : Named) (k : NodeKind) (from : Ends) (ns : List NodeFact) → AreEnds from ns (sizes x) →
    AreEnds from (ns ++ fact_with k (sizes (with_node x n)) ∷ []) (sizes (with_node x n))
ends_more x n k from [] h = (subst (λ (e : Ends). IsNext e (sizes (with_node x n))) (sym h) (sizes_next x n), refl)
ends_more x n k from (m ∷ ns) h = (h.0, ends_more x n k m.ends ns h.1)

-- ---- files

abbrev pub flat_with : List Name → List Use → List NamedSlot → List (NamedSlot × NamedSlot) → Flat
flat_with ds us ss ls = record { declares = ds; uses = us; slots = ss; listed = ls }

flat_eq : (ds ds' : List Name) (us us' : List Use) (ss ss' : List NamedSlot) (ls ls' : List (NamedSlot × NamedSlot)) →
    ds ≡ ds' → us ≡ us' → ss ≡ ss' → ls ≡ ls' → flat_with ds us ss ls ≡ flat_with ds' us' ss' ls'
flat_eq ds ds' us us' ss ss' ls ls' d u s l =
    ap (λ (x : List Name). flat_with x us ss ls) d
    ∙ ap (λ (x : List Use). flat_with ds' x ss ls) u
    ∙ ap (λ (x : List NamedSlot). flat_with ds' us' x ls) s
    ∙ ap (λ (x : List (NamedSlot × NamedSlot)). flat_with ds' us' ss' x) l

abbrev pub ends_with : ℕ → ℕ → ℕ → ℕ → Ends
ends_with d u s l = record { declares = d; uses = u; slots = s; listed = l }

pub sizes_of : (path : List ℕ) (x : FileFacts) → sizes (flat_in path x) ≡ lengths_of x
sizes_of path x =
    ap (λ (n : ℕ). ends_with (length x.declares.items) n (length (map (slot_in path) x.slots.items)) (length (map (slots_in path) x.listed.items))) (length-map x.uses.items _)
    ∙ ap (λ (n : ℕ). ends_with (length x.declares.items) (length x.uses.items) n (length (map (slots_in path) x.listed.items))) (length-map x.slots.items (slot_in path))
    ∙ ap (λ (n : ℕ). ends_with (length x.declares.items) (length x.uses.items) (length x.slots.items) n) (length-map x.listed.items (slots_in path))

-- what was put behind the lists of a file
pub record Adds (path : List ℕ) (old new : FileFacts) (n : Named) : Type 0 where
  pub declares : new.declares.items ≡ old.declares.items ++ n.declares
  pub uses : uses_in new.uses.items ≡ uses_in old.uses.items ++ n.uses
  pub slots : map (slot_in path) new.slots.items ≡ map (slot_in path) old.slots.items ++ items_if n.slot
  pub listed : map (slots_in path) new.listed.items ≡ map (slots_in path) old.listed.items ++ n.listed
  pub nodes : new.nodes.items ≡ old.nodes.items ++ fact_with n.kind (lengths_of new) ∷ []

pub added : (path : List ℕ) (old new : FileFacts) (n : Named) (e : Ends) →
    new.declares.items ≡ old.declares.items ++ n.declares → uses_in new.uses.items ≡ uses_in old.uses.items ++ n.uses →
    map (slot_in path) new.slots.items ≡ map (slot_in path) old.slots.items ++ items_if n.slot →
    map (slots_in path) new.listed.items ≡ map (slots_in path) old.listed.items ++ n.listed →
    new.nodes.items ≡ old.nodes.items ++ fact_with n.kind e ∷ [] → e ≡ lengths_of new → Adds path old new n
added path old new n e d u s l ns h = record {
  declares = d;
  uses = u;
  slots = s;
  listed = l;
  nodes = ns ∙ ap (λ (x : Ends). old.nodes.items ++ fact_with n.kind x ∷ []) h;
}

flat_added : (path : List ℕ) (old new : FileFacts) (n : Named) → Adds path old new n → flat_in path new ≡ with_node (flat_in path old) n
flat_added path old new n a =
    flat_eq new.declares.items (old.declares.items ++ n.declares) (uses_in new.uses.items) (uses_in old.uses.items ++ n.uses)
    (map (slot_in path) new.slots.items) (map (slot_in path) old.slots.items ++ items_if n.slot)
    (map (slots_in path) new.listed.items) (map (slots_in path) old.listed.items ++ n.listed) a.declares a.uses a.slots a.listed

sizes_added : (path : List ℕ) (old new : FileFacts) (n : Named) → Adds path old new n → sizes (with_node (flat_in path old) n) ≡ lengths_of new
sizes_added path old new n a = ap (λ (x : Flat). sizes x) (sym (flat_added path old new n a)) ∙ sizes_of path new

ends_in : (path : List ℕ) (x : FileFacts) → IsWhole x → AreEnds start x.nodes.items (sizes (flat_in path x))
ends_in path x w = subst (λ (e : Ends). AreEnds start x.nodes.items e) (sym (sizes_of path x)) w

nodes_added : (path : List ℕ) (old new : FileFacts) (n : Named) → Adds path old new n →
    old.nodes.items ++ fact_with n.kind (sizes (with_node (flat_in path old) n)) ∷ [] ≡ new.nodes.items
nodes_added path old new n a =
    ap (λ (e : Ends). old.nodes.items ++ fact_with n.kind e ∷ []) (sizes_added path old new n a) ∙ sym a.nodes

pub facts_added : (path : List ℕ) (old new : FileFacts) (n : Named) → IsWhole old → Adds path old new n → facts_in path new ≡ facts_in path old ++ n ∷ []
facts_added path old new n w a =
    ap (λ (x : Flat). nodes_in x start new.nodes.items) (flat_added path old new n a)
    ∙ ap (λ (ns : List NodeFact). nodes_in (with_node (flat_in path old) n) start ns) (sym (nodes_added path old new n a))
    ∙ nodes_more (flat_in path old) n start old.nodes.items (ends_in path old w)

pub whole_added : (path : List ℕ) (old new : FileFacts) (n : Named) → IsWhole old → Adds path old new n → IsWhole new
whole_added path old new n w a =
    subst (λ (e : Ends). AreEnds start new.nodes.items e) (sizes_added path old new n a)
    (subst (λ (ns : List NodeFact). AreEnds start ns (sizes (with_node (flat_in path old) n))) (nodes_added path old new n a)
    (ends_more (flat_in path old) n n.kind start old.nodes.items (ends_in path old w)))

-- no node
pub whole_empty : (x : FileFacts) → x.nodes.items ≡ [] → lengths_of x ≡ start → IsWhole x
whole_empty x e h = subst (λ (ns : List NodeFact). AreEnds start ns (lengths_of x)) (sym e) (sym h)

-- ---- what all nodes name and list

split_at : {A : Type 0} (k : ℕ) (ys : List A) → take k ys ++ drop k ys ≡ ys
split_at {A} zero ys = refl
split_at {A} (suc k) [] = refl
split_at {A} (suc k) (y ∷ ys) = ap (λ (zs : List A). y ∷ zs) (split_at k ys)

abbrev nil_of : (A : Type 0) → List A
nil_of A = []

drop_nil : (A : Type 0) (k : ℕ) → drop k (nil_of A) ≡ nil_of A
drop_nil A zero = refl
drop_nil A (suc k) = refl

drop_twice : {A : Type 0} (from to : ℕ) (xs : List A) → from ≤ to → drop (to - from) (drop from xs) ≡ drop to xs
drop_twice {A} zero to xs h = ap (λ n. drop n xs) (less_none to)
drop_twice {A} (suc from) zero xs h = absurd (none_more from h)
drop_twice {A} (suc from) (suc to) [] h = drop_nil A (suc to - suc from)
drop_twice {A} (suc from) (suc to) (x ∷ xs) h = ap (λ n. drop n (drop from xs)) (less_one to from) ∙ drop_twice from to xs (omega (arith, h))

-- the items from a place on are those up to another one, and then those from there on
between_first : {A : Type 0} (from to : ℕ) (xs : List A) → from ≤ to → drop from xs ≡ between from to xs ++ drop to xs
between_first {A} from to xs h =
    sym (split_at (to - from) (drop from xs)) ∙ ap (λ (ys : List A). between from to xs ++ ys) (drop_twice from to xs h)

take_one : {A : Type 0} (k : ℕ) (ys : List A) → k ≤ 1 → items_if (first_of (take k ys)) ≡ take k ys
take_one zero ys h = refl
take_one (suc zero) [] h = refl
take_one (suc zero) (y ∷ ys) h = refl
take_one (suc (suc k)) ys h = absurd (too_many k h)
  where
    too_many : (n : ℕ) → suc (suc n) ≤ 1 → ⊥
    too_many n l = omega (arith, l)

drop_past : {A : Type 0} (xs : List A) → drop (length xs) xs ≡ []
drop_past [] = refl
drop_past (x ∷ xs) = drop_past xs

slots_from : (x : Flat) (from : Ends) (ns : List NodeFact) → AreEnds from ns (sizes x) → drop from.slots x.slots ≡ slots_named (nodes_in x from ns)
slots_from x from [] h = ap (λ (e : Ends). drop e.slots x.slots) h ∙ drop_past x.slots
slots_from x from (n ∷ ns) h =
    between_first from.slots n.ends.slots x.slots h.0.up.slots
    ∙ ap (λ (ys : List NamedSlot). between from.slots n.ends.slots x.slots ++ ys) (slots_from x n.ends ns h.1)
    ∙ ap (λ (ys : List NamedSlot). ys ++ slots_named (nodes_in x n.ends ns))
    (sym (take_one (n.ends.slots - from.slots) (drop from.slots x.slots) (omega (arith, h.0.one))))

listed_from : (x : Flat) (from : Ends) (ns : List NodeFact) → AreEnds from ns (sizes x) → drop from.listed x.listed ≡ slots_listed (nodes_in x from ns)
listed_from x from [] h = ap (λ (e : Ends). drop e.listed x.listed) h ∙ drop_past x.listed
listed_from x from (n ∷ ns) h =
    between_first from.listed n.ends.listed x.listed h.0.up.listed
    ∙ ap (λ (ys : List (NamedSlot × NamedSlot)). between from.listed n.ends.listed x.listed ++ ys) (listed_from x n.ends ns h.1)

-- the lists of slots are those of the nodes, one after another
pub slots_whole : (path : List ℕ) (x : FileFacts) → IsWhole x → map (slot_in path) x.slots.items ≡ slots_named (facts_in path x)
slots_whole path x w = slots_from (flat_in path x) start x.nodes.items (ends_in path x w)

pub listed_whole : (path : List ℕ) (x : FileFacts) → IsWhole x → map (slots_in path) x.listed.items ≡ slots_listed (facts_in path x)
listed_whole path x w = listed_from (flat_in path x) start x.nodes.items (ends_in path x w)
