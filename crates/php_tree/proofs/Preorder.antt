-- The list of nodes in preorder, past a first node.
use Rattle.std.proofs.Common.{◌≡◌, ◌≢◌, ℕ, zero, suc, ◌+◌, ◌-◌, List, [], ◌∷◌, ◌++◌, length, refl, ap, ◌∙◌, arith, slice_get, Some, length-append, zero-add}
use Rattle.php_tree.specs.declared.token.Token.{Token}
use Rattle.php_tree.specs.declared.node.Node.{Node}
use Rattle.php_tree.specs.Tree.{Forest, none, leaf, node, Tree, tree, forest_of, count, leaves}
use Rattle.php_tree.specs.Ids.{preorder, places, first_or}
use Rattle.php_tree.proofs.Trees.{tree-fields}

pub length-preorder : (f : Forest) → length (preorder f) ≡ count f
length-preorder none = refl
length-preorder (leaf t f) = length-preorder f
length-preorder (node k c f) = ap suc (length-append (preorder c) (preorder f)) ∙ omega (arith, length-preorder c, length-preorder f)

pub length-places : (f : Forest) (next : Token) → length (places f next) ≡ count f
length-places none next = refl
length-places (leaf t f) next = length-places f next
length-places (node k c f) next =
    let here = first_or (leaves f) next in
    ap suc (length-append (places c here) (places f next)) ∙ omega (arith, length-places c here, length-places f next)

-- behind a first list
get-behind : {A : Type 0} (xs ys : List A) (m n : ℕ) → m ≡ length xs + n → slice_get (xs ++ ys) m ≡ slice_get ys n
get-behind [] ys m n e = ap (slice_get ys) (e ∙ zero-add n)
get-behind {A} (x ∷ xs) ys m n e =
    let d : m ≡ suc (length xs + n) = omega arith in
    ap (slice_get ((x ∷ xs) ++ ys)) d ∙ get-behind xs ys (length xs + n) n refl

-- within it
get-within : {A : Type 0} (xs ys : List A) (n : ℕ) (x : A) → slice_get xs n ≡ Some x → slice_get (xs ++ ys) n ≡ Some x
get-within [] ys n x h = cc
get-within (y ∷ xs) ys zero x h = h
get-within (y ∷ xs) ys (suc n) x h = get-within xs ys n x h

-- past a whole node
pub skipped : {A : Type 0} (x : A) (xs ys : List A) (m n : ℕ) → m ≡ suc (length xs + n) → slice_get (x ∷ xs ++ ys) m ≡ slice_get ys n
skipped x xs ys m n e = ap (slice_get (x ∷ xs ++ ys)) e ∙ get-behind xs ys (length xs + n) n refl

-- inside the node
pub entered : {A : Type 0} (x y : A) (xs ys : List A) (m : ℕ) → m ≢ 0 → slice_get xs (m - 1) ≡ Some y → slice_get (x ∷ xs ++ ys) m ≡ Some y
entered x y xs ys zero h e = absurd (h refl)
entered x y xs ys (suc m) h e = get-within xs ys m y (ap (slice_get xs) (omega arith) ∙ e)

-- the same of a forest that begins with a node
pub found_in : (all here f : Forest) (n : Node) (id left : ℕ) (x : Tree) → here ≡ node n.kind (forest_of n.parts) f
    → slice_get (preorder all) id ≡ slice_get (preorder here) left → left ≢ 0
    → slice_get (preorder (forest_of n.parts)) (left - 1) ≡ Some x → slice_get (preorder all) id ≡ Some x
found_in all here f n id left x e same past got =
    same ∙ rw e (entered _ x (preorder (forest_of n.parts)) (preorder f) left past got)

-- the node itself
pub first_in : (all here f : Forest) (n : Node) (id left : ℕ) → here ≡ node n.kind (forest_of n.parts) f
    → slice_get (preorder all) id ≡ slice_get (preorder here) left → left ≡ 0 → slice_get (preorder all) id ≡ Some (tree n)
first_in all here f n id left e same first = same ∙ rw (e, first, tree-fields n)

pub passed_in : (all here f : Forest) (n : Node) (id left rest : ℕ) → here ≡ node n.kind (forest_of n.parts) f
    → slice_get (preorder all) id ≡ slice_get (preorder here) left → left ≢ 0 → left - 1 ≡ count (forest_of n.parts) + rest
    → slice_get (preorder all) id ≡ slice_get (preorder f) rest
passed_in all here f n id left rest e same past gone =
    let whole : left ≡ suc (length (preorder (forest_of n.parts)) + rest) = omega (arith, length-preorder (forest_of n.parts)) in
    same ∙ rw e (skipped _ (preorder (forest_of n.parts)) (preorder f) left rest whole)

pub count_passed : (total : ℕ) (here f : Forest) (n : Node) (id left rest : ℕ) → here ≡ node n.kind (forest_of n.parts) f
    → id + count here ≡ total + left → left ≢ 0 → left - 1 ≡ count (forest_of n.parts) + rest → id + count f ≡ total + rest
count_passed total here f n id left rest e sum past gone =
    let counted : count here ≡ suc (count (forest_of n.parts)) + count f = ap count e in
    omega arith
