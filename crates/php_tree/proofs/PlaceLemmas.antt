-- The list of places in preorder, past a first node.
use Rattle.std.proofs.Common.{◌≡◌, ◌≢◌, ℕ, suc, ◌+◌, ◌-◌, [], ◌∷◌, ◌++◌, length, refl, ◌∙◌, subst, arith, slice_get, Some}
use Rattle.php_tree.specs.declared.token.Token.{Token}
use Rattle.php_tree.specs.declared.node.Node.{Node}
use Rattle.php_tree.specs.Tree.{Forest, leaf, node, forest_of, count, leaves}
use Rattle.php_tree.specs.Places.{ArePlaced, behind}
use Rattle.php_tree.specs.Ids.{places, place_of, first_or}
use Rattle.php_tree.proofs.Placed.{ends_at, placed_part, placed_rest}
use Rattle.php_tree.proofs.Preorder.{length-places, skipped, entered}

pub place_found : (all here f : Forest) (n : Node) (next : Token) (id left : ℕ) (x : ℕ × ℕ) → here ≡ node n.kind (forest_of n.parts) f
    → slice_get (places all next) id ≡ slice_get (places here next) left → left ≢ 0
    → slice_get (places (forest_of n.parts) (first_or (leaves f) next)) (left - 1) ≡ Some x → slice_get (places all next) id ≡ Some x
place_found all here f n next id left x e same past got =
    same ∙ rw e (entered _ x (places (forest_of n.parts) (first_or (leaves f) next)) (places f next) left past got)

pub place_first : (all here f : Forest) (n : Node) (next : Token) (id left : ℕ) (x : ℕ × ℕ) → here ≡ node n.kind (forest_of n.parts) f
    → slice_get (places all next) id ≡ slice_get (places here next) left → left ≡ 0
    → x ≡ place_of (leaves (forest_of n.parts)) (first_or (leaves f) next) → slice_get (places all next) id ≡ Some x
place_first all here f n next id left x e same first got = same ∙ rw (e, first, got) refl

pub place_passed : (all here f : Forest) (n : Node) (next : Token) (id left rest : ℕ) → here ≡ node n.kind (forest_of n.parts) f
    → slice_get (places all next) id ≡ slice_get (places here next) left → left ≢ 0 → left - 1 ≡ count (forest_of n.parts) + rest
    → slice_get (places all next) id ≡ slice_get (places f next) rest
place_passed all here f n next id left rest e same past gone =
    let after : Token = first_or (leaves f) next in
    let whole : left ≡ suc (length (places (forest_of n.parts) after) + rest) = omega (arith, length-places (forest_of n.parts) after) in
    same ∙ rw e (skipped _ (places (forest_of n.parts) after) (places f next) left rest whole)

-- the tokens of a first node, and of what follows it, in their places
pub node_placed : (at : ℕ) (here f : Forest) (n : Node) (next : Token) → here ≡ node n.kind (forest_of n.parts) f → ArePlaced at (leaves here ++ next ∷ [])
    → ArePlaced at (leaves (forest_of n.parts) ++ first_or (leaves f) next ∷ [])
node_placed at here f n next e h =
    placed_part at (leaves (forest_of n.parts)) (leaves f) next (subst (λ (x : Forest). ArePlaced at (leaves x ++ next ∷ [])) e h)

pub rest_placed : (at : ℕ) (here f : Forest) (n : Node) (next : Token) → here ≡ node n.kind (forest_of n.parts) f → ArePlaced at (leaves here ++ next ∷ [])
    → (to : ℕ) × ArePlaced to (leaves f ++ next ∷ [])
rest_placed at here f n next e h =
    (ends_at at (leaves (forest_of n.parts)), placed_rest at (leaves (forest_of n.parts)) (leaves f) next (subst (λ (x : Forest). ArePlaced at (leaves x ++ next ∷ [])) e h))

pub token_placed : (at : ℕ) (here f : Forest) (t next : Token) → here ≡ leaf t f → ArePlaced at (leaves here ++ next ∷ [])
    → (to : ℕ) × ArePlaced to (leaves f ++ next ∷ [])
token_placed at here f t next e h = (behind at t, (subst (λ (x : Forest). ArePlaced at (leaves x ++ next ∷ [])) e h).1)
