-- Parts and nodes behind what was read before.
use Rattle.std.proofs.Common.{◌≡◌, ℕ, zero, suc, ◌+◌, ◌-◌, ◌<◌, ◌≤◌, max, List, [], ◌∷◌, ◌++◌, length, take, drop, refl, sym, ap, ◌∙◌, append_assoc, arith}
use Rattle.std.specs.Prelude.{HoldsAt}
use Rattle.std.proofs.lemmas.List.{append-nil, drop-drop, length-append, length-drop, length-map}
use Rattle.php_tree.specs.declared.kind.NodeKind.{NodeKind}
use Rattle.php_tree.specs.declared.token.Token.{Token}
use Rattle.php_tree.specs.declared.version.Version.{Version}
use Rattle.php_tree.specs.Tree.{Forest, Tree, none, leaf, node, ◌+++◌, alone, leaves, depth}
use Rattle.php_grammar.specs.Edges.{edge, edge_from}
use Rattle.php_grammar.proofs.EdgeLemmas.{edge_append, edge_alone}
use Rattle.php_rows.specs.declared.row.Row.{Row}
use Rattle.php_terminals.specs.declared.tokens.Tokens.{Tokens}
use Rattle.php_terminals.specs.Marked.{token_at}
use Rattle.php_terminals.specs.Tokens.{tokens_in}
use Rattle.php_rows.specs.Flatten.{flatten, leafed, tokens}
use Rattle.php_rows.specs.Rows.{Grew, IsInner, IsOpen}
use Rattle.php_rows.proofs.Growing.{grew_none, grew_join, open_grew, tokens_leafed}
use Rattle.php_exprs.specs.declared.build.Closed.{Closed}
use Rattle.php_exprs.specs.declared.build.Reach.{Reach}
use Rattle.php_exprs.specs.Built.{Added, AddedNode, IsClosed, IsReady, State, behind}
use Rattle.php_exprs.proofs.Forests.{depth_append, leaves_append}

pub added_none : (v : Version) (all : List Token) (o : State) → o.0.at ≤ length all → Added v all o o none
added_none v all o w = record { grew = grew_none o.0; text = refl; within = w; deep = omega arith; edge = refl }

join_text : (a b c f g : List Token) → a ≡ f ++ b → b ≡ g ++ c → a ≡ (f ++ g) ++ c
join_text a b c f g p q = p ∙ ap (λ (x : List Token). f ++ x) q ∙ sym (append_assoc f g c)

pub added_join : (v : Version) (all : List Token) (a b c : State) (f g : Forest) → Added v all a b f → Added v all b c g → Added v all a c (f +++ g)
added_join v all a b c f g p q =
    let d1 = p.deep in
    let d2 = q.deep in
    record {
      grew = grew_join a.0 b.0 c.0 f g p.grew q.grew;
      text = join_text (behind all a.0) (behind all b.0) (behind all c.0) (leaves f) (leaves g) p.text q.text
          ∙ ap (λ (us : List Token). us ++ behind all c.0) (sym (leaves_append f g));
      within = q.within;
      deep = omega (arith, depth_append f g);
      edge = q.edge ∙ ap (λ (e : ℕ). edge_from v e g) p.edge ∙ sym (edge_append v a.1.edge f g);
    }

-- how many tokens there are behind
pub behind_more : (all : List Token) (old new : Row) (f : Forest) → behind all old ≡ leaves f ++ behind all new → length (behind all old) ≡ tokens f + length (behind all new)
behind_more all old new f e = ap length e ∙ length-append (leaves f) (behind all new)

-- a node was read, and its number is known
pub node_added : (v : Version) (all : List Token) (old new : State) (c : Closed) (x : Tree)
    → AddedNode all old.0 new.0 x → IsClosed v c x → new.1.deep ≡ max old.1.deep c.deep → new.1.edge ≡ c.edge
    → Added v all old new (node x.0 x.1 none)
node_added v all old new c x a i d e =
    let h = i.deep in
    record {
      grew = a.grew;
      text = a.text ∙ ap (λ (us : List Token). us ++ behind all new.0) (sym (append-nil (leaves x.1)));
      within = a.within;
      deep = omega arith;
      edge = e ∙ i.edge ∙ sym (edge_alone v x old.1.edge);
    }

-- ---- tokens

next_behind : (all : List Token) (n : ℕ) (t : Token) (ts : List Token) → drop n all ≡ t ∷ ts → drop (n + 1) all ≡ ts
next_behind all n t ts e = sym (drop-drop 1 n all) ∙ ap (drop 1) e

some_behind : (all : List Token) (n : ℕ) (t : Token) (ts : List Token) → drop n all ≡ t ∷ ts → n + 1 ≤ length all
some_behind all n t ts e = let l = ap length e in let m = length-drop n all in omega arith

pub leaf_added : (v : Version) (all : List Token) (old new : State) (t : Token) (ts : List Token)
    → behind all old.0 ≡ t ∷ ts → Grew old.0 new.0 (leaf t none) → new.0.at ≡ old.0.at + 1 → new.1.deep ≡ old.1.deep
    → new.1.edge ≡ 0 → Added v all old new (leaf t none) × (behind all new.0 ≡ ts)
leaf_added v all old new t ts e g at d z =
    let rest : behind all new.0 ≡ ts = ap (λ (n : ℕ). drop n all) at ∙ next_behind all old.0.at t ts e in
    let w = some_behind all old.0.at t ts e in (
      record {
        grew = g;
        text = e ∙ ap (λ (us : List Token). t ∷ us) (sym rest);
        within = omega arith;
        deep = omega arith;
        edge = z;
      },
      rest,
    )

leafed_deep : (us : List Token) → depth (leafed us none) ≡ 0
leafed_deep [] = refl
leafed_deep (t ∷ us) = leafed_deep us

leafed_edge : (v : Version) (e : ℕ) (us : List Token) → 0 < length us → edge_from v e (leafed us none) ≡ 0
leafed_edge v e [] lt = absurd (omega arith)
leafed_edge v e (t ∷ []) lt = refl
leafed_edge v e (t ∷ u ∷ us) lt = leafed_edge v 0 (u ∷ us) (omega arith)

no_tokens : (us : List Token) → length us ≡ 0 → us ≡ []
no_tokens [] e = refl
no_tokens (t ∷ us) e = absurd (omega arith)

take_drop : (n : ℕ) (ts : List Token) → ts ≡ take n ts ++ drop n ts
take_drop zero ts = refl
take_drop (suc n) [] = refl
take_drop (suc n) (t ∷ ts) = ap (λ (us : List Token). t ∷ us) (take_drop n ts)

take_length : (n : ℕ) (ts : List Token) → n ≤ length ts → length (take n ts) ≡ n
take_length zero ts le = refl
take_length (suc n) [] le = absurd (omega arith)
take_length (suc n) (t ∷ ts) le = ap suc (take_length n ts (omega arith))

pub taken : (n : ℕ) (ts : List Token) → n ≤ length ts → length (take n ts) ≡ n
taken = take_length

-- so many tokens
pub leaves_added : (v : Version) (all : List Token) (old new : State) (n : ℕ) → n ≤ length (behind all old.0)
    → old.0.at ≤ length all → Grew old.0 new.0 (leafed (take n (behind all old.0)) none) → new.0.at ≡ old.0.at + n
    → new.1.deep ≡ old.1.deep → (0 < n → new.1.edge ≡ 0) → (n ≡ 0 → new.1.edge ≡ old.1.edge)
    → Added v all old new (leafed (take n (behind all old.0)) none) × (behind all new.0 ≡ drop n (behind all old.0))
leaves_added v all old new n le w g at d many empty =
    let us = take n (behind all old.0) in
    let rest : behind all new.0 ≡ drop n (behind all old.0) = ap (λ (m : ℕ). drop m all) at ∙ sym (drop-drop n old.0.at all) in
    let long : length us ≡ n = take_length n (behind all old.0) le in
    let l = length-drop old.0.at all in (
      record {
        grew = g;
        text = take_drop n (behind all old.0) ∙ rw (tokens_leafed us, rest) refl;
        within = omega arith;
        deep = omega (arith, leafed_deep us);
        edge = by_count n us long many empty;
      },
      rest,
    )
  where
    by_count : (n : ℕ) (us : List Token) → length us ≡ n → (0 < n → new.1.edge ≡ 0) → (n ≡ 0 → new.1.edge ≡ old.1.edge) → new.1.edge ≡ edge_from v old.1.edge (leafed us none)
    by_count n [] l many empty = empty (sym l)
    by_count n (t ∷ us) l many empty = many (omega arith) ∙ sym (leafed_edge v old.1.edge (t ∷ us) (omega arith))

-- ---- a node and its parts

-- what was opened, and parts behind it
pub ready : (v : Version) (all : List Token) (before : Row) (old new : State) (from : ℕ) (c f : Forest)
    → IsOpen before old.0 from c → behind all before ≡ leaves c ++ behind all old.0 → old.1.deep ≡ depth c
    → old.1.edge ≡ edge_from v 0 c → Added v all old new f → IsReady v all before new.0 from new.1 (c +++ f)
ready v all before old new from c f o t d e a =
    let d1 = a.deep in
    record {
      opened = open_grew before old.0 new.0 from c f o a.grew;
      text = join_text (behind all before) (behind all old.0) (behind all new.0) (leaves c) (leaves f) t a.text
          ∙ ap (λ (us : List Token). us ++ behind all new.0) (sym (leaves_append c f));
      within = a.within;
      deep = omega (arith, depth_append c f);
      edge = a.edge ∙ ap (λ (n : ℕ). edge_from v n f) e ∙ sym (edge_append v 0 c f);
    }

-- the node of these parts
pub closed_node : (v : Version) (all : List Token) (before now new : Row) (from : ℕ) (reach : Reach) (k : NodeKind)
    (f : Forest) → IsReady v all before now from reach f → new.at ≡ now.at → Grew before new (node k f none)
    → AddedNode all before new (k, f)
closed_node v all before now new from reach k f r at g =
    let w = r.within in
    record {
      grew = g;
      text = r.text ∙ ap (λ (n : ℕ). leaves f ++ drop n all) (sym at);
      within = omega arith;
    }

pub opened_below : (before now : Row) (from : ℕ) (f : Forest) → IsOpen before now from f → from < length now.nodes.items
opened_below before now from f o =
    let p = o.place in
    let l = ap length o.nodes in
    let m = length-append before.nodes.items (o.hole ∷ flatten before.at f) in
    omega arith

pub node_below : (before now : Row) (from : ℕ) (x : Tree) → Grew before now (node x.0 x.1 none) → length before.nodes.items ≡ from → from < length now.nodes.items
node_below before now from x g p =
    let l = ap length g.nodes in
    let m = length-append before.nodes.items (flatten before.at (node x.0 x.1 none)) in
    omega arith

-- how many tokens there are
pub marks_many : (ts : Tokens) → length (tokens_in ts) ≡ length ts.marks.now
marks_many ts = length-map ts.marks.now (token_at ts.bytes.now)

-- the parts of the node
pub inner_of : (v : Version) (all : Tokens) (before now new : Row) (from : ℕ) (reach : Reach) (k : NodeKind)
    (f : Forest) → IsReady v (tokens_in all) before now from reach f → new.at ≡ now.at
    → Grew before new (node k f none) → IsInner before from new all k f (behind (tokens_in all) now)
inner_of v all before now new from reach k f r at g =
    let w = r.within in
    let m = marks_many all in
    record { grew = g; place = r.opened.place; text = r.text; within = omega arith }

pub head_is : (ts : List Token) (t : Token) → 0 < length ts → HoldsAt (λ u. u ≡ t) ts 0 → ts ≡ t ∷ drop 1 ts
head_is [] t lt h = absurd (omega arith)
head_is (x ∷ xs) t lt h = ap (λ (u : Token). u ∷ xs) (h x)
