-- The steps of the parser's functions, beside the parser on lists.
use Rattle.std.proofs.Common.{
  ◌≡◌,
  ℕ,
  zero,
  suc,
  ◌+◌,
  ◌-◌,
  ◌<◌,
  ◌≤◌,
  max,
  Bool,
  true,
  false,
  List,
  [],
  ◌∷◌,
  ◌++◌,
  length,
  get_or,
  take,
  drop,
  Option,
  Some,
  None,
  Result,
  Ok,
  Err,
  nat_lt,
  refl,
  sym,
  ap,
  ◌∙◌,
  subst,
  append_assoc,
  arith,
  add-one,
  drop-cons,
}
use Rattle.std.proofs.lemmas.Bool.{lt-ltb, le-ltb}
use Rattle.std.proofs.lemmas.List.{append-nil, length-drop}
use Rattle.php_tree.specs.declared.token.Token.{Token}
use Rattle.php_tree.specs.declared.version.Version.{Version}
use Rattle.php_terminals.specs.declared.terminal.Terminal.{Terminal}
use Rattle.php_tree.specs.declared.kind.NodeKind.{NodeKind}
use Rattle.php_tree.specs.Tree.{Forest, Tree, none, leaf, node, ◌+++◌, leaves, depth}
use Rattle.php_forms.specs.declared.item.Sort.{Sort}
use Rattle.php_forms.specs.declared.item.Group.{Group}
use Rattle.php_forms.specs.declared.item.Item.{Item}
use Rattle.php_forms.specs.declared.item.Item.TheVariants.{Word, Node, Part, Repeats, Span}
use Rattle.php_grammar.specs.Edges.{edge, edge_from}
use Rattle.php_grammar.specs.Tables.{php, tail, tail_by}
use Rattle.php_grammar.proofs.EdgeLemmas.{edge_alone}
use Rattle.php_rows.specs.declared.row.Row.{Row}
use Rattle.php_rows.specs.Flatten.{leafed}
use Rattle.php_rows.specs.Rows.{Grew, IsOpen}
use Rattle.php_exprs.specs.declared.build.Closed.{Closed}
use Rattle.php_exprs.specs.declared.build.Reach.{Reach}
use Rattle.php_exprs.specs.declared.fault.ParseFault.{ParseFault}
use Rattle.php_exprs.specs.declared.fault.ParseFault.TheVariants.{NotInGrammar, Memory}
use Rattle.php_forms.specs.Grammar.{Form, Tables}
use Rattle.php_exprs.specs.Built.{Added, AddedNode, IsClosed, IsReady, State, behind}
use Rattle.php_exprs.specs.Parsing.{◌>>=◌, given, Read, Steps, items_at, run_at, repeat_at, repeats_at, walk, under, begin, grown, grow, parse}
use Rattle.php_exprs.specs.Parsed.{run_read, Extends, GivesTree, node_at, inner_at, parts_at, repeated_at, grown_at, item_at, word_at, as_part, with_front, Walked, Repeated}
use Rattle.php_exprs.proofs.Forests.{append_none, depth_append, forest_assoc}
use Rattle.php_exprs.proofs.Complete.{walk_is}
use Rattle.php_exprs.proofs.Grown.{added_join, added_none, leaf_added, leaves_added, node_added, ready, closed_node}

front_none : (r : Read Forest) → r ≡ with_front none r
front_none None = refl
front_none (Some y) = refl

front_front : (f g : Forest) (r : Read Forest) → with_front f (with_front g r) ≡ with_front (f +++ g) r
front_front f g None = refl
front_front f g (Some y) = ap (λ (h : Forest). read h y.1) (sym (forest_assoc f g y.0))
  where
    read : Forest → List Token → Read Forest
    read h ts = Some (h, ts)

-- ---- one item

abbrev pub to_part : Tree × List Token → Read Forest
to_part x = Some (as_part x)

pub child_extends : (v : Version) (all : List Token) (c : Closed) (old new : State) (d : ℕ) (r : Read Tree)
    → GivesTree (Ok c) v all old.0 new.0 d r → new.1.deep ≡ max old.1.deep c.deep → new.1.edge ≡ c.edge
    → Extends (Ok tt) v all old new d (r >>= to_part)
child_extends v all c old new d None g p q = g
child_extends v all c old new d (Some y) g p q =
    let low = g.3 in
    (node_added v all old new c y.0 g.0 g.1 p q, g.2, omega arith)

pub child_fails : (v : Version) (all : List Token) (e : ParseFault) (old new : State) (d : ℕ) (r : Read Tree)
    → GivesTree (Err e) v all old.0 new.0 d r → Extends (Err e) v all old new d (r >>= to_part)
child_fails v all NotInGrammar old new d r g = ap (λ (o : Read Tree). o >>= to_part) g
child_fails v all Memory old new d r g = tt

pub word_none : (T : Tables) (c : Terminal) (ts : List Token) → ts ≡ [] → word_at T c ts ≡ None
word_none T c ts e = ap (word_at T c) e

pub word_other : (T : Tables) (c : Terminal) (ts us : List Token) (t : Token) → ts ≡ t ∷ us → T.accepts c t ≡ false → word_at T c ts ≡ None
word_other T c ts us t e p = ap (word_at T c) e ∙ rw p refl

pub word_extends : (v : Version) (all : List Token) (c : Terminal) (old new : State) (d : ℕ) (t : Token)
    (us : List Token) → behind all old.0 ≡ t ∷ us → (php v).accepts c t ≡ true → Grew old.0 new.0 (leaf t none)
    → new.0.at ≡ old.0.at + 1 → new.1.deep ≡ old.1.deep → new.1.edge ≡ 0
    → Extends (Ok tt) v all old new d (word_at (php v) c (behind all old.0))
word_extends v all c old new d t us e p g at deep z =
    let a = leaf_added v all old new t us e g at deep z in
    let is : word_at (php v) c (behind all old.0) ≡ Some (leaf t none, us) = ap (word_at (php v) c) e ∙ rw p refl in
    subst (λ (r : Read Forest). Extends (Ok tt) v all old new d r) (sym is) (a.0, a.1, omega arith)

-- ---- the items

abbrev then_parts : Tables → ℕ → ℕ → List Item → Read Forest → Read Forest
then_parts T d n is r = r >>= λ h. with_front h.0 (parts_at T d n is h.1)

abbrev word_then : Tables → ℕ → ℕ → List Item → Token → List Token → Read Forest
word_then T d n is t ts = items_at T (node_at T d) (inner_at T d n) is ts >>= λ f. Some (leaf t f.0, f.1)

abbrev node_then : Tables → ℕ → ℕ → List Item → Read Tree → Read Forest
node_then T d n is r = r >>= λ x. items_at T (node_at T d) (inner_at T d n) is x.1 >>= λ f. Some (node x.0.0 x.0.1 f.0, f.1)

first_item : (T : Tables) (d n : ℕ) (i : Item) (is : List Item) (ts : List Token) → parts_at T d n (i ∷ is) ts ≡ then_parts T d n is (item_at T d n i ts)
unfolding parts_at item_at repeated_at
first_item T d n (Word c) is [] = refl
first_item T d n (Word c) is (t ∷ ts) = go (T.accepts c t)
  where
    go : (b : Bool) → given b (word_then T d n is t ts) ≡ then_parts T d n is (given b (Some (leaf t none, ts)))
    go true = refl
    go false = refl
first_item T d n (Node s) is ts = go (node_at T d s ts)
  where
    go : (r : Read Tree) → node_then T d n is r ≡ then_parts T d n is (r >>= to_part)
    go None = refl
    go (Some x) = refl
first_item T d n (Part g) is ts = refl
first_item T d n (Repeats g) is ts = refl
first_item T d n Span is ts = refl

pub walked_first : (v : Version) (all : List Token) (d n : ℕ) (form : List Item) (old : State) → old.0.at ≤ length all → Walked v all d n form form old old
walked_first v all d n form old w = record { parts = none; added = added_none v all old w; low = omega arith; same = front_none (parts_at (php v) d n form (behind all old.0)) }

pub walked_more : (v : Version) (all : List Token) (d n : ℕ) (form is : List Item) (i : Item) (old mid new : State)
    (r : Read Forest) → item_at (php v) d n i (behind all mid.0) ≡ r → Extends (Ok tt) v all mid new d r
    → Walked v all d n form (i ∷ is) old mid → Walked v all d n form is old new
walked_more v all d n form is i old mid new None e x w = absurd x
walked_more v all d n form is i old mid new (Some y) e x w =
    let T = php v in
    let rest = behind all mid.0 in
    let step : parts_at T d n (i ∷ is) rest ≡ with_front y.0 (parts_at T d n is y.1) = first_item T d n i is rest ∙ ap (then_parts T d n is) e in
    let low1 = w.low in
    let low2 = x.2 in
    record {
      parts = w.parts +++ y.0;
      added = added_join v all old mid new w.parts y.0 w.added x.0;
      low = omega (arith, depth_append w.parts y.0);
      same = w.same ∙ ap (with_front w.parts) step ∙ front_front w.parts y.0 (parts_at T d n is y.1)
          ∙ ap (λ (ts : List Token). with_front (w.parts +++ y.0) (parts_at T d n is ts)) (sym x.1);
    }

pub walked_fails : (v : Version) (all : List Token) (d n : ℕ) (form is : List Item) (i : Item) (old mid new : State)
    (e : ParseFault) → Extends (Err e) v all mid new d (item_at (php v) d n i (behind all mid.0))
    → Walked v all d n form (i ∷ is) old mid → Extends (Err e) v all old new d
    (parts_at (php v) d n form (behind all old.0))
walked_fails v all d n form is i old mid new NotInGrammar x w = w.same ∙ ap (with_front w.parts) (first_item (php v) d n i is (behind all mid.0) ∙ ap (then_parts (php v) d n is) x)
walked_fails v all d n form is i old mid new Memory x w = tt

low_none : (f : Forest) (d : ℕ) → depth f ≤ d → depth (f +++ none) ≤ d
low_none f d h = subst (λ (g : Forest). depth g ≤ d) (sym (append_none f)) h

added_as : (v : Version) (all : List Token) (old new : State) (f : Forest) → Added v all old new f → Added v all old new (f +++ none)
added_as v all old new f a = subst (λ (g : Forest). Added v all old new g) (sym (append_none f)) a

pub walked_ends : (v : Version) (all : List Token) (d n : ℕ) (form : List Item) (old new : State)
    → Walked v all d n form [] old new → Extends (Ok tt) v all old new d
    (parts_at (php v) d n form (behind all old.0))
unfolding parts_at
walked_ends v all d n form old new w =
    let e : parts_at (php v) d n form (behind all old.0) ≡ Some (w.parts +++ none, behind all new.0) = w.same in
    subst (λ (r : Read Forest). Extends (Ok tt) v all old new d r) (sym e) (added_as v all old new w.parts w.added, refl, low_none w.parts d w.low)

-- ---- the repeats of a group

pub repeated_first : (v : Version) (all : List Token) (d n : ℕ) (g : Group) (old : State) → old.0.at ≤ length all → Repeated v all d n g old old
repeated_first v all d n g old w = record {
  parts = none;
  fuel = length (behind all old.0);
  added =
      added_none v all old w;
  low = omega arith;
  enough = omega arith;
  same =
      front_none (repeated_at (php v) d n (length (behind all old.0)) g (behind all old.0));
}

no_repeat : (T : Tables) (d n m : ℕ) (g : Group) (rest : List Token) → T.parts g rest ≡ [] → repeated_at T d n m g rest ≡ Some (none, rest)
unfolding repeated_at
no_repeat T d n zero g rest e = rw e refl
no_repeat T d n (suc m) g rest e = rw e refl

repeat_then : (List Token → Read Forest) → List Token → Read Forest → Read Forest
repeat_then more ts r = r >>= λ h. given (nat_lt (length h.1) (length ts)) (more h.1) >>= λ f. Some (h.0 +++ f.0, f.1)

one_repeat : (T : Tables) (d n m : ℕ) (g : Group) (i : Item) (is : List Item) (rest : List Token) → T.parts g rest ≡ i
    ∷ is → repeated_at T d n (suc m) g rest ≡ repeat_then (repeated_at T d n m g) rest
    (inner_at T d n (T.parts g rest) rest)
unfolding repeated_at repeat_then
one_repeat T d n m g i is rest e = rw e refl

last_repeat : (T : Tables) (d n : ℕ) (g : Group) (i : Item) (is : List Item) (rest : List Token) → T.parts g rest ≡ i
    ∷ is → repeated_at T d n zero g rest ≡ repeat_then (λ _. None) rest (inner_at T d n (T.parts g rest) rest)
unfolding repeated_at repeat_then
last_repeat T d n g i is rest e = rw e refl

repeat_goes : (more : List Token → Read Forest) (ts : List Token) (y : Forest × List Token) → length y.1 < length ts → repeat_then more ts (Some y) ≡ with_front y.0 (more y.1)
unfolding repeat_then
repeat_goes more ts y lt = rw (lt-ltb (length y.1) (length ts) lt) refl

repeat_stays : (more : List Token → Read Forest) (ts : List Token) (y : Forest × List Token) → length ts ≤ length y.1 → repeat_then more ts (Some y) ≡ None
unfolding repeat_then
repeat_stays more ts y le = rw (le-ltb (length y.1) (length ts) le) refl

repeat_fails : (more : List Token → Read Forest) (ts : List Token) → repeat_then more ts None ≡ None
unfolding repeat_then
repeat_fails more ts = refl

pub repeated_ends : (v : Version) (all : List Token) (d n : ℕ) (g : Group) (old new : State)
    → (php v).parts g (behind all new.0) ≡ [] → Repeated v all d n g old new
    → Extends (Ok tt) v all old new d (repeated_at (php v) d n (length (behind all old.0)) g (behind all old.0))
repeated_ends v all d n g old new e w =
    let same = w.same ∙ ap (with_front w.parts) (no_repeat (php v) d n w.fuel g (behind all new.0) e) in
    subst (λ (r : Read Forest). Extends (Ok tt) v all old new d r) (sym same) (added_as v all old new w.parts w.added, refl, low_none w.parts d w.low)

repeated_fails : (v : Version) (all : List Token) (d n : ℕ) (g : Group) (i : Item) (is : List Item) (old mid : State)
    → (php v).parts g (behind all mid.0) ≡ i ∷ is → inner_at (php v) d n ((php v).parts g (behind all mid.0))
    (behind all mid.0) ≡ None → Repeated v all d n g old mid → repeated_at (php v) d n (length (behind all old.0)) g
    (behind all old.0) ≡ None
repeated_fails v all d n g i is old mid e x w = w.same ∙ ap (with_front w.parts) (go w.fuel)
  where
    go : (m : ℕ) → repeated_at (php v) d n m g (behind all mid.0) ≡ None
    go zero = last_repeat (php v) d n g i is (behind all mid.0) e ∙ ap (repeat_then (λ _. None) (behind all mid.0)) x ∙ repeat_fails (λ _. None) (behind all mid.0)
    go (suc m) = one_repeat (php v) d n m g i is (behind all mid.0) e
        ∙ ap (repeat_then (repeated_at (php v) d n m g) (behind all mid.0)) x
        ∙ repeat_fails (repeated_at (php v) d n m g) (behind all mid.0)

repeated_stays : (v : Version) (all : List Token) (d n : ℕ) (g : Group) (i : Item) (is : List Item) (old mid : State)
    (y : Forest × List Token) → (php v).parts g (behind all mid.0) ≡ i ∷ is
    → inner_at (php v) d n ((php v).parts g (behind all mid.0)) (behind all mid.0) ≡ Some y
    → length (behind all mid.0) ≤ length y.1 → Repeated v all d n g old mid
    → repeated_at (php v) d n (length (behind all old.0)) g (behind all old.0) ≡ None
repeated_stays v all d n g i is old mid y e x le w = w.same ∙ ap (with_front w.parts) (go w.fuel)
  where
    go : (m : ℕ) → repeated_at (php v) d n m g (behind all mid.0) ≡ None
    go zero = last_repeat (php v) d n g i is (behind all mid.0) e ∙ ap (repeat_then (λ _. None) (behind all mid.0)) x ∙ repeat_stays (λ _. None) (behind all mid.0) y le
    go (suc m) = one_repeat (php v) d n m g i is (behind all mid.0) e
        ∙ ap (repeat_then (repeated_at (php v) d n m g) (behind all mid.0)) x
        ∙ repeat_stays (repeated_at (php v) d n m g) (behind all mid.0) y le

repeated_more : (v : Version) (all : List Token) (d n : ℕ) (g : Group) (i : Item) (is : List Item) (old mid new : State)
    (r : Read Forest) → (php v).parts g (behind all mid.0) ≡ i ∷ is
    → inner_at (php v) d n ((php v).parts g (behind all mid.0)) (behind all mid.0) ≡ r
    → Extends (Ok tt) v all mid new d r → length (behind all new.0) < length (behind all mid.0)
    → Repeated v all d n g old mid → Repeated v all d n g old new
repeated_more v all d n g i is old mid new None e p x lt w = absurd x
repeated_more v all d n g i is old mid new (Some y) e p x lt w = go w.fuel w.enough w.same
  where
    go : (m : ℕ) → length (behind all mid.0) ≤ m → repeated_at (php v) d n (length (behind all old.0)) g
        (behind all old.0) ≡ with_front w.parts (repeated_at (php v) d n m g (behind all mid.0))
        → Repeated v all d n g old new
    go zero le same = absurd (omega arith)
    go (suc m) le same =
        let T = php v in
        let rest = behind all mid.0 in
        let low1 = w.low in
        let low2 = x.2 in
        let len : length (behind all new.0) ≡ length y.1 = ap length x.1 in
        let step : repeated_at T d n (suc m) g rest ≡ with_front y.0 (repeated_at T d n m g y.1) =
        one_repeat T d n m g i is rest e ∙ ap (repeat_then (repeated_at T d n m g) rest) p
        ∙ repeat_goes (repeated_at T d n m g) rest y (omega arith) in
        record {
          parts = w.parts +++ y.0;
          fuel = m;
          added = added_join v all old mid new w.parts y.0 w.added x.0;
          low = omega (arith, depth_append w.parts y.0);
          enough = omega arith;
          same = same ∙ ap (with_front w.parts) step ∙ front_front w.parts y.0 (repeated_at T d n m g y.1)
              ∙ ap (λ (ts : List Token). with_front (w.parts +++ y.0) (repeated_at T d n m g ts)) (sym x.1);
        }

-- ---- groups in groups

pub inner_none : (T : Tables) (d n : ℕ) (is : List Item) (ts : List Token) → n ≡ 0 → inner_at T d n is ts ≡ None
unfolding inner_at
inner_none T d zero is ts e = refl
inner_none T d (suc n) is ts e = absurd (omega arith)

pub inner_is : (T : Tables) (d n m : ℕ) (is : List Item) (ts : List Token) → n ≡ m + 1 → inner_at T d n is ts ≡ parts_at T d m is ts
unfolding inner_at parts_at
inner_is T d zero m is ts e = absurd (omega arith)
inner_is T d (suc n) m is ts e =
    let same : n ≡ m = omega arith in
    rw same (ap (λ (st : Steps). st is ts) (walk_is T (node_at T d) m))

-- ---- a node

-- what stands at the front of a node, and how it goes on
abbrev start : Tables → ℕ → Option Form → Sort → List Token → Read Tree
start T d o s ts = begin (parts_at T d 7) o ts >>= λ t. grown_at T d (suc d) s t.0 t.1

node_starts : (T : Tables) (d e : ℕ) (s : Sort) (ts : List Token) → d ≡ e + 1 → node_at T d s ts ≡ start T e (T.form s ts) s ts
unfolding node_at parts_at grown_at inner_at
node_starts T zero e s ts p = absurd (omega arith)
node_starts T (suc d) e s ts p = let same : d ≡ e = omega arith in subst (λ (x : ℕ). node_at T (suc d) s ts ≡ start T x (T.form s ts) s ts) same refl

pub node_none : (T : Tables) (d : ℕ) (s : Sort) (ts : List Token) → d ≡ 0 → node_at T d s ts ≡ None
unfolding node_at
node_none T zero s ts e = refl
node_none T (suc d) s ts e = absurd (omega arith)

pub node_no_form : (T : Tables) (d e : ℕ) (s : Sort) (ts : List Token) → d ≡ e + 1 → T.form s ts ≡ None → node_at T d s ts ≡ None
node_no_form T d e s ts p q = node_starts T d e s ts p ∙ ap (λ (o : Option Form). start T e o s ts) q

pub node_fails : (v : Version) (all : List Token) (d e : ℕ) (s : Sort) (first now new : Row) (k : NodeKind)
    (is : List Item) (old later : State) (f : ParseFault) → d ≡ e + 1
    → (php v).form s (behind all first) ≡ Some (k, is) → old.0.at ≡ first.at
    → Extends (Err f) v all old later e (parts_at (php v) e 7 is (behind all old.0))
    → GivesTree (Err f) v all first new d (node_at (php v) d s (behind all first))
node_fails v all d e s first now new k is old later NotInGrammar p q at x =
    let T = php v in
    let ts = behind all first in
    let none : parts_at T e 7 is ts ≡ None = ap (λ (n : ℕ). parts_at T e 7 is (drop n all)) (sym at) ∙ x in
    node_starts T d e s ts p ∙ ap (λ (o : Option Form). start T e o s ts) q ∙ ap (λ (o : Read Forest). (o >>= λ c. read k c) >>= λ t. grown_at T e (suc e) s t.0 t.1) none
  where
    read : NodeKind → Forest × List Token → Read Tree
    read k c = Some ((k, c.0), c.1)
node_fails v all d e s first now new k is old later Memory p q at x = tt

-- what an opened node has, behind whose opening parts were read
pub opened_ready : (v : Version) (all : List Token) (first : Row) (old new : State) (from e : ℕ) (r : Read Forest)
    → IsOpen first old.0 from none → old.0.at ≡ first.at → old.1.deep ≡ 0 → old.1.edge ≡ 0
    → Extends (Ok tt) v all old new e r → (f : Forest) × IsReady v all first new.0 from new.1 f
opened_ready v all first old new from e None o at d z x = absurd x
opened_ready v all first old new from e (Some y) o at d z x = (y.0, ready v all first old new from none y.0 o (ap (λ (n : ℕ). drop n all) (sym at)) d z x.0)

pub node_grows : (v : Version) (all : List Token) (d e : ℕ) (s : Sort) (first : Row) (k : NodeKind) (is : List Item)
    (old new : State) (whole last : Row) (from : ℕ) (c : Closed) (result : Result Closed ParseFault) (r : Read Forest)
    → d ≡ e + 1 → (php v).form s (behind all first) ≡ Some (k, is) → IsOpen first old.0 from none
    → old.0.at ≡ first.at → old.1.deep ≡ 0 → old.1.edge ≡ 0 → parts_at (php v) e 7 is (behind all old.0) ≡ r
    → Extends (Ok tt) v all old new e r
    → ((f : Forest) → IsReady v all first new.0 from new.1 f → Grew first whole (node k f none))
    → ((f : Forest) → IsReady v all first new.0 from new.1 f → IsClosed v c (k, f)) → whole.at ≡ new.0.at
    → ((x : Tree) (m : ℕ) → length first.nodes.items ≡ from → AddedNode all first whole x → IsClosed v c x
    → e + 1 ≤ m + depth x.1 → GivesTree result v all first last (e + 1)
    (grown_at (php v) e m s x (behind all whole)))
    → GivesTree result v all first last d (node_at (php v) d s (behind all first))
node_grows v all d e s first k is old new whole last from c result None p q o at d0 z w x gr cl wat g = absurd x
node_grows v all d e s first k is old new whole last from c result (Some y) p q o at d0 z w x gr cl wat g =
    let T = php v in
    let ts = behind all first in
    let here : behind all old.0 ≡ ts = ap (λ (n : ℕ). drop n all) at in
    let parts : parts_at T e 7 is ts ≡ Some y = ap (parts_at T e 7 is) (sym here) ∙ w in
    let begun : node_at T d s ts ≡ grown_at T e (suc e) s (k, y.0) y.1 = node_starts T d e s ts p ∙ ap (λ (o : Option Form). start T e o s ts) q ∙ rw parts refl in
    let is_ready = ready v all first old new from none y.0 o (sym here) d0 z x.0 in
    let added = closed_node v all first new.0 whole from new.1 k y.0 is_ready wat (gr y.0 is_ready) in
    let got = g (k, y.0) (suc e) o.place added (cl y.0 is_ready) (omega arith) in
    let rest : behind all whole ≡ y.1 = ap (λ (n : ℕ). drop n all) wat ∙ x.1 in
    rw (begun, p) (subst (λ (us : List Token). GivesTree result v all first last (e + 1) (grown_at T e (suc e) s (k, y.0) us)) rest got)

-- ---- a node that goes on

grown_steps : (T : Tables) (d : ℕ) (fuel : ℕ) (s : Sort) (t : Tree) (ts : List Token) → (Tree → List Token → Read Tree) × Unit {0}
grown_steps T d zero s t ts = (λ _ _. None, tt)
grown_steps T d (suc m) s t ts = (grown_at T d m s, tt)

grow_is : (T : Tables) (d fuel : ℕ) (s : Sort) (t : Tree) (ts : List Token)
    → grown_at T d fuel s t ts ≡ grown (parts_at T d 7) (grown_steps T d fuel s t ts).0 (suc d) t (T.tail s t ts) ts
unfolding grown_at grown_steps
grow_is T d zero s t ts = refl
grow_is T d (suc m) s t ts = refl

-- how a node goes on, by what the grammar asks of it
abbrev pub tail_with : Version → Sort → Closed → List Token → Option Form
tail_with v s c ts = tail_by v s c.kind c.edge c.misindented ts

closed_tail : (v : Version) (s : Sort) (c : Closed) (x : Tree) (ts : List Token) → IsClosed v c x → tail_with v s c ts ≡ tail v s x ts
closed_tail v s c x ts i = ap (λ (k : NodeKind). tail_by v s k c.edge c.misindented ts) i.kind
    ∙ ap (λ (n : ℕ). tail_by v s x.0 n c.misindented ts) i.edge
    ∙ ap (λ (b : Bool). tail_by v s x.0 (edge v x) b ts) i.misindented

pub grow_ends : (v : Version) (all : List Token) (d fuel : ℕ) (s : Sort) (before now : Row) (c : Closed) (x : Tree)
    → AddedNode all before now x → IsClosed v c x → tail_with v s c (behind all now) ≡ None → c.deep ≤ d + 1
    → GivesTree (Ok c) v all before now (d + 1) (grown_at (php v) d fuel s x (behind all now))
grow_ends v all d fuel s before now c x a i e low =
    let deep = i.deep in
    let ends : grown_at (php v) d fuel s x (behind all now) ≡ Some (x, behind all now) =
    grow_is (php v) d fuel s x (behind all now) ∙ rw (sym (closed_tail v s c x (behind all now) i) ∙ e) refl in
    subst (λ (r : Read Tree). GivesTree (Ok c) v all before now (d + 1) r) (sym ends) (a, i, refl, omega arith)

pub grow_deep : (v : Version) (d fuel : ℕ) (s : Sort) (c : Closed) (x : Tree) (ts : List Token) (f : Form)
    → IsClosed v c x → tail_with v s c ts ≡ Some f → d < c.deep → grown_at (php v) d fuel s x ts ≡ None
grow_deep v d fuel s c x ts f i e lt =
    let deep = i.deep in
    let t : (php v).tail s x ts ≡ Some f = sym (closed_tail v s c x ts i) ∙ e in
    rw (grow_is (php v) d fuel s x ts, t, le-ltb (depth x.1 + 1) (suc d) (omega arith)) refl

pub grow_fails : (v : Version) (all : List Token) (d fuel : ℕ) (s : Sort) (before now last : Row) (c : Closed)
    (x : Tree) (k : NodeKind) (is : List Item) (old later : State) (f : ParseFault) → IsClosed v c x
    → tail_with v s c (behind all now) ≡ Some (k, is) → c.deep ≤ d → old.0.at ≡ now.at
    → Extends (Err f) v all old later d (parts_at (php v) d 7 is (behind all old.0))
    → GivesTree (Err f) v all before last (d + 1) (grown_at (php v) d fuel s x (behind all now))
grow_fails v all d fuel s before now last c x k is old later NotInGrammar i e low at g =
    let deep = i.deep in
    let ts = behind all now in
    let t : (php v).tail s x ts ≡ Some (k, is) = sym (closed_tail v s c x ts i) ∙ e in
    let none : parts_at (php v) d 7 is ts ≡ None = ap (λ (n : ℕ). parts_at (php v) d 7 is (drop n all)) (sym at) ∙ g in
    rw (grow_is (php v) d fuel s x ts, t, lt-ltb (depth x.1 + 1) (suc d) (omega arith), none) refl
grow_fails v all d fuel s before now last c x k is old later Memory i e low at g = tt

-- a node that was wrapped, behind which parts were read
wrapped_ready : (v : Version) (all : List Token) (before now : Row) (old new : State) (from : ℕ) (c : Closed)
    (x : Tree) (f : Forest) → AddedNode all before now x → IsClosed v c x
    → IsOpen before old.0 from (node x.0 x.1 none) → old.0.at ≡ now.at → old.1.deep ≡ c.deep → old.1.edge ≡ c.edge
    → Added v all old new f → IsReady v all before new.0 from new.1 (node x.0 x.1 f)
wrapped_ready v all before now old new from c x f a i o at d z g =
    let deep = i.deep in
    let text : behind all before ≡ leaves (node x.0 x.1 none) ++ behind all old.0 = a.text ∙ rw (at, append-nil (leaves x.1)) refl in
    ready v all before old new from (node x.0 x.1 none) f o text (omega arith) (z ∙ i.edge ∙ sym (edge_alone v x 0)) g

pub extends_ready : (v : Version) (all : List Token) (before now : Row) (old new : State) (from d : ℕ) (c : Closed)
    (x : Tree) (r : Read Forest) → AddedNode all before now x → IsClosed v c x
    → IsOpen before old.0 from (node x.0 x.1 none) → old.0.at ≡ now.at → old.1.deep ≡ c.deep → old.1.edge ≡ c.edge
    → Extends (Ok tt) v all old new d r → (f : Forest) × IsReady v all before new.0 from new.1 f
extends_ready v all before now old new from d c x None a i o at e z g = absurd g
extends_ready v all before now old new from d c x (Some y) a i o at e z g = (node x.0 x.1 y.0, wrapped_ready v all before now old new from c x y.0 a i o at e z g.0)

pub grow_goes : (v : Version) (all : List Token) (d fuel : ℕ) (s : Sort) (before now : Row) (c : Closed) (x : Tree)
    (k : NodeKind) (is : List Item) (old new : State) (whole last : Row) (from : ℕ) (b : Closed)
    (result : Result Closed ParseFault) (r : Read Forest) → length before.nodes.items ≡ from
    → AddedNode all before now x → IsClosed v c x → tail_with v s c (behind all now) ≡ Some (k, is) → c.deep ≤ d
    → IsOpen before old.0 from (node x.0 x.1 none) → old.0.at ≡ now.at → old.1.deep ≡ c.deep → old.1.edge ≡ c.edge
    → parts_at (php v) d 7 is (behind all old.0) ≡ r → Extends (Ok tt) v all old new d r
    → ((f : Forest) → IsReady v all before new.0 from new.1 f → Grew before whole (node k f none))
    → ((f : Forest) → IsReady v all before new.0 from new.1 f → IsClosed v b (k, f)) → whole.at ≡ new.0.at
    → ((u : Tree) (m : ℕ) → length before.nodes.items ≡ from → AddedNode all before whole u → IsClosed v b u
    → d + 1 ≤ m + depth u.1 → GivesTree result v all before last (d + 1)
    (grown_at (php v) d m s u (behind all whole)))
    → d + 1 ≤ fuel + depth x.1 → GivesTree result v all before last (d + 1) (grown_at (php v) d fuel s x (behind all now))
grow_goes v all d fuel s before now c x k is old new whole last from b result None pl a i e low o at de z w g gr cl wat go enough = absurd g
grow_goes v all d zero s before now c x k is old new whole last from b result (Some y) pl a i e low o at de z w g gr cl wat go enough = let deep = i.deep in absurd (omega arith)
grow_goes v all d (suc m) s before now c x k is old new whole last from b result (Some y) pl a i e low o at de z w g gr cl wat go enough =
    let T = php v in
    let deep = i.deep in
    let ts = behind all now in
    let t : T.tail s x ts ≡ Some (k, is) = sym (closed_tail v s c x ts i) ∙ e in
    let here : behind all old.0 ≡ ts = ap (λ (n : ℕ). drop n all) at in
    let parts : parts_at T d 7 is ts ≡ Some y = ap (parts_at T d 7 is) (sym here) ∙ w in
    let u : Tree = (k, node x.0 x.1 y.0) in
    let goes : grown_at T d (suc m) s x ts ≡ grown_at T d m s u y.1 = grow_is T d (suc m) s x ts
    ∙ rw (t, lt-ltb (depth x.1 + 1) (suc d) (omega arith), parts) (unfold grown_steps in refl) in
    let is_ready = wrapped_ready v all before now old new from c x y.0 a i o at de z g.0 in
    let added = closed_node v all before new.0 whole from new.1 k (node x.0 x.1 y.0) is_ready wat (gr (node x.0 x.1 y.0) is_ready) in
    let got = go u m pl added (cl (node x.0 x.1 y.0) is_ready) (omega arith) in
    let rest : behind all whole ≡ y.1 = ap (λ (n : ℕ). drop n all) wat ∙ g.1 in
    rw goes (subst (λ (us : List Token). GivesTree result v all before last (d + 1) (grown_at T d m s u us)) rest got)

-- ---- heights, and lists that are not empty

pub extends_deep : (v : Version) (all : List Token) (old new : State) (d : ℕ) (r : Read Forest) → Extends (Ok tt) v all old new d r → old.1.deep ≤ d → new.1.deep ≤ d
extends_deep v all old new d None x low = absurd x
extends_deep v all old new d (Some y) x low = let a = x.0.deep in let b = x.2 in omega arith

pub extends_high : (v : Version) (all : List Token) (old new : State) (d : ℕ) (r : Read Forest) → Extends (Ok tt) v all old new d r → old.1.deep ≤ new.1.deep
extends_high v all old new d None x = absurd x
extends_high v all old new d (Some y) x = let a = x.0.deep in omega arith

pub extends_within : (v : Version) (all : List Token) (old new : State) (d : ℕ) (r : Read Forest) → Extends (Ok tt) v all old new d r → new.0.at ≤ length all
extends_within v all old new d None x = absurd x
extends_within v all old new d (Some y) x = x.0.within

pub gives_within : (v : Version) (all : List Token) (old new : Row) (c : Closed) (d : ℕ) (r : Read Tree) → GivesTree (Ok c) v all old new d r → new.at ≤ length all
gives_within v all old new c d None x = absurd x
gives_within v all old new c d (Some y) x = x.0.within

-- fewer tokens are left
pub fewer : (all : List Token) (old new : Row) → new.at ≤ length all → old.at < new.at → length (behind all new) < length (behind all old)
fewer all old new w lt = let a = length-drop old.at all in let b = length-drop new.at all in omega arith

-- no fewer tokens are left
pub no_fewer : (all : List Token) (old new : Row) → new.at ≤ old.at → length (behind all old) ≤ length (behind all new)
no_fewer all old new le = let a = length-drop old.at all in let b = length-drop new.at all in omega arith

pub cons_of : (is : List Item) → 0 < length is → (i : Item) × (js : List Item) × (is ≡ i ∷ js)
cons_of [] lt = absurd (omega arith)
cons_of (i ∷ is) lt = (i, is, refl)

pub drop_past : (is : List Item) (n : ℕ) → length is ≤ n → drop n is ≡ []
drop_past [] zero le = refl
drop_past [] (suc n) le = refl
drop_past (i ∷ is) zero le = absurd (omega arith)
drop_past (i ∷ is) (suc n) le = drop_past is n (omega arith)

pub stays_none : (v : Version) (all : List Token) (d n : ℕ) (g : Group) (old mid new : State) (r : Read Forest)
    → 0 < length ((php v).parts g (behind all mid.0)) → inner_at (php v) d n ((php v).parts g (behind all mid.0))
    (behind all mid.0) ≡ r → Extends (Ok tt) v all mid new d r → new.0.at ≤ mid.0.at → Repeated v all d n g old mid
    → repeated_at (php v) d n (length (behind all old.0)) g (behind all old.0) ≡ None
stays_none v all d n g old mid new None has e x le w = absurd x
stays_none v all d n g old mid new (Some y) has e x le w =
    let c = cons_of ((php v).parts g (behind all mid.0)) has in
    let len = ap length x.1 in
    let more = no_fewer all mid.0 new.0 le in
    repeated_stays v all d n g c.0 c.1 old mid y c.2 e (omega arith) w

pub repeated_breaks : (v : Version) (all : List Token) (d n : ℕ) (g : Group) (old mid new : State) (e : ParseFault)
    → 0 < length ((php v).parts g (behind all mid.0)) → Extends (Err e) v all mid new d
    (inner_at (php v) d n ((php v).parts g (behind all mid.0)) (behind all mid.0)) → Repeated v all d n g old mid
    → Extends (Err e) v all old new d (repeated_at (php v) d n (length (behind all old.0)) g (behind all old.0))
repeated_breaks v all d n g old mid new NotInGrammar has x w = let c = cons_of ((php v).parts g (behind all mid.0)) has in repeated_fails v all d n g c.0 c.1 old mid c.2 x w
repeated_breaks v all d n g old mid new Memory has x w = tt

pub repeated_on : (v : Version) (all : List Token) (d n : ℕ) (g : Group) (old mid new : State)
    → 0 < length ((php v).parts g (behind all mid.0)) → Extends (Ok tt) v all mid new d
    (inner_at (php v) d n ((php v).parts g (behind all mid.0)) (behind all mid.0)) → mid.0.at < new.0.at
    → Repeated v all d n g old mid → Repeated v all d n g old new
repeated_on v all d n g old mid new has x lt w =
    let c = cons_of ((php v).parts g (behind all mid.0)) has in
    let less = fewer all mid.0 new.0 (extends_within v all mid new d _ x) lt in
    repeated_more v all d n g c.0 c.1 old mid new _ c.2 refl x less w

-- ---- runs of tokens

pub run_short : (n : ℕ) (ts : List Token) → length ts < n → run_read n ts ≡ None
unfolding run_read
run_short zero ts lt = absurd (omega arith)
run_short (suc n) [] lt = refl
run_short (suc n) (t ∷ ts) lt = let e : run_read n ts ≡ None = run_short n ts (omega arith) in rw e refl

run_takes : (n : ℕ) (ts : List Token) → n ≤ length ts → run_read n ts ≡ Some (leafed (take n ts) none, drop n ts)
unfolding run_read
run_takes zero ts le = refl
run_takes (suc n) [] le = absurd (omega arith)
run_takes (suc n) (t ∷ ts) le = let e : run_read n ts ≡ Some (leafed (take n ts) none, drop n ts) = run_takes n ts (omega arith) in rw e refl

leafed_low : (ts : List Token) → depth (leafed ts none) ≡ 0
leafed_low [] = refl
leafed_low (t ∷ ts) = leafed_low ts

pub run_done : (v : Version) (all : List Token) (old new : State) (n d : ℕ) → n ≤ length (behind all old.0)
    → old.0.at ≤ length all → Grew old.0 new.0 (leafed (take n (behind all old.0)) none) → new.0.at ≡ old.0.at + n
    → new.1.deep ≡ old.1.deep → (0 < n → new.1.edge ≡ 0) → (n ≡ 0 → new.1.edge ≡ old.1.edge)
    → Extends (Ok tt) v all old new d (run_read n (behind all old.0))
run_done v all old new n d le w g at deep many empty =
    let a = leaves_added v all old new n le w g at deep many empty in
    subst (λ (r : Read Forest). Extends (Ok tt) v all old new d r) (sym (run_takes n (behind all old.0) le)) (a.0, a.1, omega (arith, leafed_low (take n (behind all old.0))))
