-- Edges of statements one after another.
use Rattle.std.proofs.Common.{◌≡◌, suc, ◌+◌, ◌++◌, sym, ◌∙◌, ap, arith, append_assoc}
use Rattle.php_tree.specs.Tree.{none, leaf, node, count}
use Rattle.program_points.specs.Pieces.{pieces}
use Rattle.program_points.specs.Edges.{edges, row, inside}
use Rattle.program_points.specs.Following.{EdgesFollow}

pub edges_follow : EdgesFollow
edges_follow around n none g = ap (λ m. edges around m g) (let e : n ≡ n + 0 = omega arith in e)
edges_follow around n (leaf t f) g = edges_follow around n f g
edges_follow around n (node k c f) g =
    let here = row k n c (around n) in
    let within = edges (inside k n (pieces (suc n) c) (around n)) (suc n) c in
    let first = edges around (suc n + count c) f in
    let number : (suc n + count c) + count f ≡ n + (suc (count c) + count f) = omega arith in
    ap (λ es. here ++ within ++ es) (edges_follow around (suc n + count c) f g)
    ∙ ap (λ m. here ++ within ++ (first ++ edges around m g)) number
    ∙ sym (append_assoc (here ++ within) first (edges around (n + (suc (count c) + count f)) g))
