-- A part at the end of some parts.
use Rattle.std.proofs.Common.{ℕ, zero, suc, length, take, drop, get_or, ◌≡◌, ◌+◌, ◌<◌, ◌≤◌, true, false, List, [], ◌∷◌, ◌++◌, refl, ap, ◌∙◌, sym, subst, arith}
use Rattle.php_tree.specs.declared.kind.NodeKind.{NodeKind}
use Rattle.php_tree.specs.declared.token.Token.{Token}
use Rattle.std.proofs.lemmas.List.{length-append, length-drop}
use Rattle.std.proofs.Math.Seq.{take-append_seam, drop-append_seam}
use Rattle.php_rows.specs.Flatten.{tokens}
use Rattle.php_rows.specs.Nodes.{are_nodes, with_tokens}
use Rattle.php_rows.specs.Reading.{weight}
use Rattle.php_tree.specs.declared.node.Node.{Node}
use Rattle.php_tree.specs.declared.node.Part.{Part, Leaf, Child, fold-Part, fold_out-Part}
use Rattle.php_tree.specs.declared.node.Part.TheOpen.{Part-F}
use Rattle.php_tree.specs.Tree.{Forest, Tree, none, leaf, node, ◌+++◌, alone, part_step, tree_step, part_before, tree, forest_of, nodes_forest, leaves}
use Rattle.php_tree.proofs.Trees.{part_before-Leaf, part_before-Child, tree-fields}

step_append : (x : Part-F (Forest → Forest) Tree) (f g : Forest) → part_step x (f +++ g) ≡ part_step x f +++ g
step_append (Part-F.Leaf t) f g = refl
step_append (Part-F.Child n) f g = refl

before_append : (p : Part) (f g : Forest) → part_before p (f +++ g) ≡ part_before p f +++ g
before_append p f g =
    subst (λ (h : Forest → Forest). h (f +++ g) ≡ h f +++ g) (sym (fold_out-Part (Forest → Forest) Tree part_step tree_step p)) (step_append _ f g)

pub parts_push : (ps : List Part) (p : Part) → forest_of (ps ++ p ∷ []) ≡ forest_of ps +++ part_before p none
parts_push [] p = refl
parts_push (q ∷ ps) p = ap (part_before q) (parts_push ps p) ∙ before_append q (forest_of ps) (part_before p none)

pub leaf_before : (t : Token) → part_before (Leaf t) none ≡ leaf t none
leaf_before t = part_before-Leaf t none

pub child_before : (n : Node) → part_before (Child n) none ≡ alone (tree n)
child_before n = part_before-Child n none ∙ ap alone (sym (tree-fields n))

pub nodes_push : (ns : List Node) (n : Node) → nodes_forest (ns ++ n ∷ []) ≡ nodes_forest ns +++ alone (tree n)
nodes_push [] n = refl
nodes_push (m ∷ ns) n = ap (node (tree m).0 (tree m).1) (nodes_push ns n)

append_assoc : (f g h : Forest) → (f +++ g) +++ h ≡ f +++ (g +++ h)
append_assoc none g h = refl
append_assoc (leaf t f) g h = ap (leaf t) (append_assoc f g h)
append_assoc (node k c f) g h = ap (node k c) (append_assoc f g h)

append_none : (f : Forest) → f +++ none ≡ f
append_none none = refl
append_none (leaf t f) = ap (leaf t) (append_none f)
append_none (node k c f) = ap (node k c) (append_none f)

-- what is made, and what is left
pub record Making (all : Forest) (ts : List Token) (made left : Forest) (rest : List Token) : Type 0 where
  pub whole : made +++ with_tokens left rest ≡ with_tokens all ts
  pub many : length rest ≡ tokens left
  pub small : weight left ≤ weight all

pub making_first : (all : Forest) (ts : List Token) → length ts ≡ tokens all → Making all ts none all ts
making_first all ts e = record { whole = refl; many = e; small = omega arith }

front_is : (ts : List Token) (x : Token) → 0 < length ts → x ≡ get_or ts 0 x → ts ≡ x ∷ drop 1 ts
front_is [] x lt e = absurd (omega arith)
front_is (t ∷ ts) x lt e = ap (λ (u : Token). u ∷ ts) (sym e)

some_tokens : (left rest : Forest) (t : Token) (ts : List Token) → left ≡ leaf t rest → length ts ≡ tokens left → 0 < length ts
some_tokens left rest t ts e n = let w = ap tokens e in omega arith

pub room_leaf : (all : Forest) (ts : List Token) (made left : Forest) (rest : List Token) (t : Token) (f : Forest)
    → left ≡ leaf t f → Making all ts made left rest → 0 < length rest
room_leaf all ts made left rest t f e m = some_tokens left f t rest e m.many

pub room_node : (all : Forest) (ts : List Token) (made left : Forest) (rest : List Token) (k : NodeKind)
    (c f : Forest) → left ≡ node k c f → Making all ts made left rest → tokens c ≤ length rest
room_node all ts made left rest k c f e m =
    let n = m.many in
    let w : tokens left ≡ tokens (node k c f) = ap tokens e in
    let l = length-append (leaves c) (leaves f) in
    omega arith

pub making_leaf : (all : Forest) (ts : List Token) (made new left f : Forest) (rest behind : List Token)
    (t u x : Token) → left ≡ leaf t f → x ≡ get_or rest 0 x → u ≡ x → new ≡ made +++ leaf u none
    → behind ≡ drop 1 rest → Making all ts made left rest → Making all ts new f behind
making_leaf all ts made new left f rest behind t u x e g c n b m =
    let s = m.small in
    let w : weight left ≡ weight (leaf t f) = ap weight e in
    let front = front_is rest x (room_leaf all ts made left rest t f e m) g in
    let here : with_tokens left rest ≡ leaf x (with_tokens f (drop 1 rest)) = ap (λ (h : Forest). with_tokens h rest) e ∙ ap (with_tokens (leaf t f)) front in
    let many : length rest ≡ tokens (leaf t f) = m.many ∙ ap tokens e in
    let l = ap length front in
    record {
      whole = rw (n, b, c) (append_assoc made (leaf x none) (with_tokens f (drop 1 rest)) ∙ ap (λ (h : Forest). made +++ h) (sym here) ∙ m.whole);
      many = rw b (omega arith);
      small = omega arith;
    }

pub making_node : (all : Forest) (ts : List Token) (made new left f : Forest) (rest own behind : List Token)
    (k : NodeKind) (c : Forest) (x : Tree) (n : ℕ) → left ≡ node k c f → n ≡ tokens c → own ≡ take n rest
    → behind ≡ drop n rest → x ≡ (k, with_tokens c own) → new ≡ made +++ alone x → Making all ts made left rest
    → Making all ts new f behind
making_node all ts made new left f rest own behind k c x n e p o b i q m =
    let s = m.small in
    let w : weight left ≡ weight (node k c f) = ap weight e in
    let here : with_tokens left rest ≡ node k (with_tokens c (take (tokens c) rest)) (with_tokens f (drop (tokens c) rest)) = ap (λ (h : Forest). with_tokens h rest) e in
    let many : length rest ≡ tokens (node k c f) = m.many ∙ ap tokens e in
    let l = length-append (leaves c) (leaves f) in
    let d = length-drop (tokens c) rest in
    record {
      whole = rw (q, i, o, b, p) (append_assoc made (alone (k, with_tokens c (take (tokens c) rest)))
          (with_tokens f (drop (tokens c) rest)) ∙ ap (λ (h : Forest). made +++ h) (sym here) ∙ m.whole);
      many = rw (b, p) (omega arith);
      small = omega arith;
    }

pub making_ends : (all : Forest) (ts : List Token) (made left : Forest) (rest : List Token) → left ≡ none → Making all ts made left rest → made ≡ with_tokens all ts
making_ends all ts made left rest e m = sym (append_none made) ∙ ap (λ (f : Forest). made +++ with_tokens f rest) (sym e) ∙ m.whole

take_long : (n : ℕ) (ts : List Token) → n ≤ length ts → length (take n ts) ≡ n
take_long zero ts le = refl
take_long (suc n) [] le = absurd (omega arith)
take_long (suc n) (t ∷ ts) le = ap suc (take_long n ts (omega arith))

pub own_long : (own rest : List Token) (n : ℕ) (c : Forest) → own ≡ take n rest → n ≡ tokens c → tokens c ≤ length rest → length own ≡ tokens c
own_long own rest n c o p le = rw (o, p) (take_long (tokens c) rest le)

-- the tokens of a forest in place of its own
pub with_own : (f : Forest) → with_tokens f (leaves f) ≡ f
with_own none = refl
with_own (leaf t f) = ap (leaf t) (with_own f)
with_own (node k c f) =
    rw (take-append_seam (leaves c) (leaves f), drop-append_seam (leaves c) (leaves f), with_own c, with_own f) refl

pub leaf_weight : (left rest : Forest) (t : Token) → left ≡ leaf t rest → weight rest < weight left
leaf_weight left rest t e = let w : weight left ≡ weight (leaf t rest) = ap weight e in omega arith

pub node_weight : (left rest : Forest) (x : Tree) → left ≡ node x.0 x.1 rest → (weight rest < weight left) × (weight x.1 < weight left)
node_weight left rest x e = let w : weight left ≡ weight (node x.0 x.1 rest) = ap weight e in (omega arith, omega arith)

pub node_is : (n : Node) (f : Forest) → forest_of n.parts ≡ f → tree n ≡ (n.kind, f)
node_is n f e = tree-fields n ∙ ap (λ (g : Forest). with_kind n.kind g) e
  where
    with_kind : NodeKind → Forest → Tree
    with_kind k g = (k, g)

pub nodes_left : (left rest : Forest) (x : Tree) → left ≡ node x.0 x.1 rest → are_nodes left ≡ true → are_nodes rest ≡ true
nodes_left left rest x e h = sym (ap are_nodes e) ∙ h

pub no_leaf : (left rest : Forest) (t : Token) → left ≡ leaf t rest → are_nodes left ≡ true → ⊥
no_leaf left rest t e h = let w : false ≡ true = sym (ap are_nodes e) ∙ h in absurd cc
