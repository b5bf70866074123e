-- What is spelled so is read, and nothing else is: so there is at most one tree.
use Rattle.std.proofs.Common.{
  ◌≡◌,
  ℕ,
  zero,
  suc,
  ◌+◌,
  ◌<◌,
  ◌≤◌,
  true,
  List,
  [],
  ◌∷◌,
  ◌++◌,
  length,
  Some,
  None,
  nat_lt,
  refl,
  sym,
  ap,
  ◌∙◌,
  subst,
  append_assoc,
  arith,
  length-append,
}
use Rattle.std.proofs.lemmas.Bool.{lt-ltb}
use Rattle.php_tree.specs.declared.token.Token.{Token}
use Rattle.php_tree.specs.declared.kind.NodeKind.{NodeKind}
use Rattle.php_tree.specs.Tree.{depth, Forest, Tree, none, leaf, node, ◌+++◌, leaves}
use Rattle.php_terminals.specs.declared.terminal.Terminal.{Terminal}
use Rattle.php_forms.specs.declared.item.Sort.{Sort}
use Rattle.php_forms.specs.declared.item.Group.{Group}
use Rattle.php_forms.specs.declared.item.Item.{Item}
use Rattle.php_forms.specs.declared.item.Item.TheVariants.{Word, Node, Part, Repeats, Span}
use Rattle.php_forms.specs.Grammar.{Tables, Walks, ends, word, child, part, stop, repeat, span, IsFlat, Grows, head, onward, Spells, IsNested, Ranked}
use Rattle.php_exprs.specs.Parsing.{◌>>=◌, Read, Steps, repeats_at, run_at, items_at, walk, under, grow, begin, parse}
use Rattle.php_exprs.proofs.Forests.{bind_some, some_is, leaves_append, depth_append, forest_assoc}

nested_more : (rank : Group → ℕ) (m n : ℕ) (is : List Item) → m ≤ n → IsNested rank m is → IsNested rank n is
nested_more rank m n [] le h = tt
nested_more rank m n (Word c ∷ is) le h = nested_more rank m n is le h
nested_more rank m n (Node s ∷ is) le h = nested_more rank m n is le h
nested_more rank m n (Part g ∷ is) le h = let lt = h.0 in (omega arith, nested_more rank m n is le h.1)
nested_more rank m n (Repeats g ∷ is) le h = let lt = h.0 in (omega arith, nested_more rank m n is le h.1)
nested_more rank m n (Span ∷ is) le h = nested_more rank m n is le h

abbrev ChildReads : Tables → ℕ → (Sort → List Token → Read Tree) → Type 0
ChildReads T d child_at = (s : Sort) (k : NodeKind) (c : Forest) (rest : List Token) → Grows T s k c rest
    → T.tail s (k, c) rest ≡ None → depth c < d → child_at s (leaves c ++ rest) ≡ Some ((k, c), rest)

pub walk_is : (T : Tables) (child_at : Sort → List Token → Read Tree) (n : ℕ) → walk T child_at n ≡ items_at T child_at (under T child_at n)
walk_is T child_at zero = refl
walk_is T child_at (suc n) = refl

join_text : (h f : Forest) (rest : List Token) → leaves (h +++ f) ++ rest ≡ leaves h ++ (leaves f ++ rest)
join_text h f rest = ap (λ (m : List Token). m ++ rest) (leaves_append h f) ∙ append_assoc (leaves h) (leaves f) rest

module _ (T : Tables) (child_at : Sort → List Token → Read Tree) (steps : Steps) where
  -- the steps of the rules
  word_reads : (c : Terminal) (is : List Item) (t : Token) (f : Forest) (ts rest : List Token) → T.accepts c t ≡ true
      → items_at T child_at steps is ts ≡ Some (f, rest) → items_at T child_at steps (Word c ∷ is) (t ∷ ts) ≡ Some
      (leaf t f, rest)
  word_reads c is t f ts rest p e = rw (p, e) refl

  child_reads : (s : Sort) (is : List Item) (n : Tree) (f : Forest) (ts mid rest : List Token)
      → child_at s ts ≡ Some (n, mid) → items_at T child_at steps is mid ≡ Some (f, rest)
      → items_at T child_at steps (Node s ∷ is) ts ≡ Some (node n.0 n.1 f, rest)
  child_reads s is n f ts mid rest p e = rw (p, e) refl

  part_reads : (g : Group) (is : List Item) (h f : Forest) (ts mid rest : List Token)
      → steps (T.parts g ts) ts ≡ Some (h, mid) → items_at T child_at steps is mid ≡ Some (f, rest)
      → items_at T child_at steps (Part g ∷ is) ts ≡ Some (h +++ f, rest)
  part_reads g is h f ts mid rest p e = rw (p, e) refl

  repeats_reads : (g : Group) (is : List Item) (h f : Forest) (ts mid rest : List Token)
      → repeats_at T steps (length ts) g ts ≡ Some (h, mid) → items_at T child_at steps is mid ≡ Some (f, rest)
      → items_at T child_at steps (Repeats g ∷ is) ts ≡ Some (h +++ f, rest)
  repeats_reads g is h f ts mid rest p e = rw (p, e) refl

-- a run reads what is flat
run_reads : (h : Forest) (rest : List Token) → IsFlat h → run_at (length (leaves h)) (leaves h ++ rest) ≡ Some (h, rest)
run_reads none rest flat = refl
run_reads (leaf t h) rest flat = rw (run_reads h rest flat) refl
run_reads (node k c h) rest flat = absurd flat

module _ (T : Tables) (child_at : Sort → List Token → Read Tree) (steps : Steps) where
  span_reads : (is : List Item) (h f : Forest) (ts mid rest : List Token) → run_at (T.span ts) ts ≡ Some (h, mid)
      → items_at T child_at steps is mid ≡ Some (f, rest) → items_at T child_at steps (Span ∷ is) ts ≡ Some
      (h +++ f, rest)
  span_reads is h f ts mid rest p e = rw (p, e) refl

abbrev with_items : Steps → List Item → Forest × List Token → Read Forest
with_items all is h = all is h.1 >>= λ x. Some (h.0 +++ x.0, x.1)

abbrev then_items : Steps → List Item → Read Forest → Read Forest
then_items all is o = o >>= with_items all is

-- the items read their parts: a group that may come again does so with any fuel that is enough
abbrev Reads : Tables → (Sort → List Token → Read Tree) → Steps → List Item → Forest → List Token → Type 0
Reads T child_at steps (Repeats g ∷ is) f rest = (m : ℕ) → length (leaves f ++ rest) ≤ m
    → then_items (items_at T child_at steps) is (repeats_at T steps m g (leaves f ++ rest)) ≡ Some (f, rest)
Reads T child_at steps is f rest = items_at T child_at steps is (leaves f ++ rest) ≡ Some (f, rest)

from_reads : (T : Tables) (child_at : Sort → List Token → Read Tree) (steps : Steps) (is : List Item) (f : Forest)
    (rest : List Token) → Reads T child_at steps is f rest → items_at T child_at steps is (leaves f ++ rest) ≡ Some
    (f, rest)
from_reads T child_at steps [] f rest h = h
from_reads T child_at steps (Word c ∷ is) f rest h = h
from_reads T child_at steps (Node s ∷ is) f rest h = h
from_reads T child_at steps (Part g ∷ is) f rest h = h
from_reads T child_at steps (Repeats g ∷ is) f rest h = h (length (leaves f ++ rest)) (omega arith)
from_reads T child_at steps (Span ∷ is) f rest h = h

module _ (T : Tables) (child_at : Sort → List Token → Read Tree) (steps : Steps) where
  stop_reads : (g : Group) (is : List Item) (f : Forest) (rest : List Token) → T.parts g (leaves f ++ rest) ≡ []
      → items_at T child_at steps is (leaves f ++ rest) ≡ Some (f, rest)
      → Reads T child_at steps (Repeats g ∷ is) f rest
  stop_reads g is f rest p e zero le = rw (p, e) refl
  stop_reads g is f rest p e (suc m) le = rw (p, e) refl

  repeat_reads : (g : Group) (i : Item) (js is : List Item) (h f : Forest) (rest : List Token)
      → T.parts g (leaves h ++ (leaves f ++ rest)) ≡ i ∷ js → steps (i ∷ js) (leaves h ++ (leaves f ++ rest)) ≡ Some
      (h, leaves f ++ rest) → 0 < length (leaves h) → Reads T child_at steps (Repeats g ∷ is) f rest → (m : ℕ)
      → length (leaves h ++ (leaves f ++ rest)) ≤ m → then_items (items_at T child_at steps) is
      (repeats_at T steps m g (leaves h ++ (leaves f ++ rest))) ≡ Some (h +++ f, rest)
  repeat_reads g i js is h f rest p e has ih zero le = absurd (omega (arith, length-append (leaves h) (leaves f ++ rest)))
  repeat_reads g i js is h f rest p e has ih (suc m) le =
      let mid = leaves f ++ rest in
      let short : nat_lt (length mid) (length (leaves h ++ mid)) ≡ true = lt-ltb _ _ (omega (arith, length-append (leaves h) mid)) in
      let a = bind_some (repeats_at T steps m g mid) (with_items (items_at T child_at steps) is) (f, rest) (ih m (omega (arith, length-append (leaves h) mid))) in
      let b = bind_some (items_at T child_at steps is a.0.1) (λ x. Some (a.0.0 +++ x.0, x.1)) (f, rest) a.2 in
      let is_f = some_is (a.0.0 +++ b.0.0, b.0.1) (f, rest) b.2 in
      let all : ((h +++ a.0.0) +++ b.0.0, b.0.1) ≡ (h +++ f, rest) = ap (λ z. (z, b.0.1)) (forest_assoc h a.0.0 b.0.0) ∙ ap (λ (z : Forest × List Token). (h +++ z.0, z.1)) is_f in
      rw (p, e, short, a.1, b.1) (ap Some all)

deeper : (T : Tables) (child_at : Sort → List Token → Read Tree) (r n : ℕ) → r < n → (m : ℕ) × (r ≤ m) × (under T child_at n ≡ walk T child_at m)
deeper T child_at r zero lt = absurd (omega arith)
deeper T child_at r (suc n) lt = (n, omega arith, refl)

module _ (T : Tables) (top : ℕ) (rank : Group → ℕ) (law : Ranked T top rank) (d : ℕ) (child_at : Sort → List Token → Read Tree) (ih : ChildReads T d child_at) where
  items_read : {is : List Item} {f : Forest} {rest : List Token} → (n : ℕ) → Walks T is f rest → IsNested rank n is → depth f ≤ d → Reads T child_at (under T child_at n) is f rest
  items_read n ends nest low = refl
  items_read n (word {c} {is} {t} {f} {rest} p w) nest low =
      word_reads T child_at (under T child_at n) c is t f (leaves f ++ rest) rest p (from_reads T child_at (under T child_at n) is f rest (items_read n w nest low))
  items_read n (child {s} {is} {k} {c} {f} {rest} g p w) nest low =
      let r = from_reads T child_at (under T child_at n) is f rest (items_read n w nest (omega arith)) in
      let c_reads = ih s k c (leaves f ++ rest) g p (omega arith) in
      rw (append_assoc (leaves c) (leaves f) rest) (child_reads T child_at (under T child_at n) s is (k, c) f (leaves c ++ (leaves f ++ rest)) (leaves f ++ rest) rest c_reads r)
  items_read n (part {g} {is} {h} {f} {rest} w v) nest low =
      let lows = depth_append h f in
      let r = from_reads T child_at (under T child_at n) is f rest (items_read n v nest.1 (omega arith)) in
      let m = deeper T child_at (rank g) n nest.0 in
      let text = leaves h ++ (leaves f ++ rest) in
      let inner = from_reads T child_at (under T child_at m.0) (T.parts g text) h (leaves f ++ rest)
      (items_read m.0 w (nested_more rank (rank g) m.0 (T.parts g text) m.1 (law.groups g text)) (omega arith)) in
      let steps_is : under T child_at n ≡ items_at T child_at (under T child_at m.0) = m.2 ∙ walk_is T child_at m.0 in
      let first : under T child_at n (T.parts g text) text ≡ Some (h, leaves f ++ rest) = ap (λ (st : Steps). st (T.parts g text) text) steps_is ∙ inner in
      rw (join_text h f rest) (part_reads T child_at (under T child_at n) g is h f text (leaves f ++ rest) rest first r)
  items_read n (stop {g} {is} {f} {rest} p w) nest low =
      stop_reads T child_at (under T child_at n) g is f rest p (from_reads T child_at (under T child_at n) is f rest (items_read n w nest.1 low))
  items_read n (repeat {g} {i} {js} {is} {h} {f} {rest} p w has v) nest low =
      let lows = depth_append h f in
      let r = items_read n v nest (omega arith) in
      let m = deeper T child_at (rank g) n nest.0 in
      let text = leaves h ++ (leaves f ++ rest) in
      let nested = nested_more rank (rank g) m.0 (i ∷ js) m.1 (subst (IsNested rank (rank g)) p (law.groups g text)) in
      let inner = from_reads T child_at (under T child_at m.0) (i ∷ js) h (leaves f ++ rest) (items_read m.0 w nested (omega arith)) in
      let steps_is : under T child_at n ≡ items_at T child_at (under T child_at m.0) = m.2 ∙ walk_is T child_at m.0 in
      let first : under T child_at n (i ∷ js) text ≡ Some (h, leaves f ++ rest) = ap (λ (st : Steps). st (i ∷ js) text) steps_is ∙ inner in
      rw (join_text h f rest) (repeat_reads T child_at (under T child_at n) g i js is h f rest p first has r)
  items_read n (span {is} {f} {rest} h flat p w) nest low =
      let lows = depth_append h f in
      let r = from_reads T child_at (under T child_at n) is f rest (items_read n w nest (omega arith)) in
      let text = leaves h ++ (leaves f ++ rest) in
      let first : run_at (T.span text) text ≡ Some (h, leaves f ++ rest) = ap (λ (m : ℕ). run_at m text) p ∙ run_reads h (leaves f ++ rest) flat in
      rw (join_text h f rest) (span_reads T child_at (under T child_at n) is h f text (leaves f ++ rest) rest first r)

  pub walk_reads : {is : List Item} {f : Forest} {rest : List Token} → (n : ℕ) → Walks T is f rest
      → IsNested rank n is → depth f ≤ d → walk T child_at n is (leaves f ++ rest) ≡ Some (f, rest)
  walk_reads {is} {f} {rest} n w nest low = ap (λ (st : Steps). st is (leaves f ++ rest)) (walk_is T child_at n)
      ∙ from_reads T child_at (under T child_at n) is f rest (items_read n w nest low)

-- a node, as far as it has grown
record Onward (T : Tables) (steps : Steps) (d : ℕ) (s : Sort) (t : Tree) (ts rest : List Token) (whole : Read Tree) : Type 0 where
  fuel : ℕ
  enough : d ≤ fuel + depth t.1
  same : whole ≡ grow T steps d fuel s t rest

begin_reads : (T : Tables) (steps : Steps) (d : ℕ) (s : Sort) (k : NodeKind) (is : List Item) (c : Forest)
    (ts rest : List Token) → T.form s ts ≡ Some (k, is) → steps is ts ≡ Some (c, rest)
    → (begin steps (T.form s ts) ts >>= λ t. grow T steps d d s t.0 t.1) ≡ grow T steps d d s (k, c) rest
begin_reads T steps d s k is c ts rest p e = rw (p, e) refl

onward_reads : (T : Tables) (steps : Steps) (d m : ℕ) (s : Sort) (j k : NodeKind) (is : List Item) (b f : Forest)
    (ts rest : List Token) → T.tail s (j, b) ts ≡ Some (k, is) → steps is ts ≡ Some (f, rest) → depth b + 1 < d
    → grow T steps d (suc m) s (j, b) ts ≡ grow T steps d m s (k, node j b f) rest
onward_reads T steps d m s j k is b f ts rest p e low = rw (p, e, lt-ltb (depth b + 1) d low) refl

ends_reads : (T : Tables) (steps : Steps) (d m : ℕ) (s : Sort) (t : Tree) (rest : List Token) → T.tail s t rest ≡ None → grow T steps d m s t rest ≡ Some (t, rest)
ends_reads T steps d zero s t rest p = rw p refl
ends_reads T steps d (suc m) s t rest p = rw p refl

module _ (T : Tables) (top : ℕ) (rank : Group → ℕ) (law : Ranked T top rank) (d : ℕ) (ih : ChildReads T d (parse T top d)) where
  grows_read : {s : Sort} {k : NodeKind} {c : Forest} {rest : List Token} → Grows T s k c rest → depth c < suc d
      → Onward T (walk T (parse T top d) top) (suc d) s (k, c) (leaves c ++ rest) rest
      (parse T top (suc d) s (leaves c ++ rest))
  grows_read (head {s} {k} {is} {c} {rest} p w) low =
      let e = walk_reads T top rank law d (parse T top d) ih top w (law.forms s (leaves c ++ rest) (k, is) p) (omega arith) in
      record {
        fuel = suc d;
        enough = omega arith;
        same = begin_reads T (walk T (parse T top d) top) (suc d) s k is c (leaves c ++ rest) rest p e;
      }
  grows_read (onward {s} {j} {k} {is} {b} {f} {rest} g p w) low =
      let mid = leaves f ++ rest in
      let o = grows_read g (omega arith) in
      let e = walk_reads T top rank law d (parse T top d) ih top w (law.tails s (j, b) mid (k, is) p) (omega arith) in
      go j k is b f rest p e (omega arith) low o.fuel o.enough o.same
    where
      go : (j k : NodeKind) (is : List Item) (b f : Forest) (rest : List Token)
          → T.tail s (j, b) (leaves f ++ rest) ≡ Some (k, is)
          → walk T (parse T top d) top is (leaves f ++ rest) ≡ Some (f, rest) → depth b + 1 < suc d
          → depth (node j b f) < suc d → (m : ℕ) → suc d ≤ m + depth b
          → parse T top (suc d) s (leaves b ++ (leaves f ++ rest)) ≡ grow T (walk T (parse T top d) top) (suc d) m s
          (j, b) (leaves f ++ rest) → Onward T (walk T (parse T top d) top) (suc d) s (k, node j b f)
          (leaves (node j b f) ++ rest) rest (parse T top (suc d) s (leaves (node j b f) ++ rest))
      go j k is b f rest p e low1 low zero enough same = absurd (omega arith)
      go j k is b f rest p e low1 low (suc m) enough same =
          record {
            fuel = m;
            enough = omega arith;
            same = ap (parse T top (suc d) s) (append_assoc (leaves b) (leaves f) rest) ∙ same
                ∙ onward_reads T (walk T (parse T top d) top) (suc d) m s j k is b f (leaves f ++ rest) rest p e low1;
          }

-- What is spelled so is read, whatever follows, where it is no deeper than d.
pub parse_complete : (T : Tables) (top : ℕ) (rank : Group → ℕ) → Ranked T top rank → (d : ℕ) → ChildReads T d (parse T top d)
parse_complete T top rank law zero s k c rest g p low = absurd (omega arith)
parse_complete T top rank law (suc d) s k c rest g p low =
    let o = grows_read T top rank law d (parse_complete T top rank law d) g low in
    o.same ∙ ends_reads T (walk T (parse T top d) top) (suc d) o.fuel s (k, c) rest p

abbrev pub read : Tree → List Token → Read Tree
read t rest = Some (t, rest)

-- The tokens have at most one front that is a node of the sort, and it has one tree.
pub one_tree : (T : Tables) (top : ℕ) (rank : Group → ℕ) → Ranked T top rank
    → (s : Sort) (t u : Tree) (after_t after_u : List Token) → Spells T s t after_t → Spells T s u after_u
    → leaves t.1 ++ after_t ≡ leaves u.1 ++ after_u → read t after_t ≡ read u after_u
one_tree T top rank law s t u after_t after_u p q e =
    let d = depth t.1 + depth u.1 + 1 in
    let a = parse_complete T top rank law d s t.0 t.1 after_t p.0 p.1 (omega arith) in
    let b = parse_complete T top rank law d s u.0 u.1 after_u q.0 q.1 (omega arith) in
    sym a ∙ ap (parse T top d s) e ∙ b
