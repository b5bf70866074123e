-- What nodes tell, taken from the facts of the nodes.
use Rattle.std.specs.Prelude.{map}
use Rattle.std.proofs.Common.{◌≡◌, ℕ, Bool, true, ◌&&◌, List, [], ◌∷◌, ◌++◌, refl, sym, ap, ◌∙◌}
use Rattle.php_tree.specs.Tree.{Forest, none, leaf, node}
use Rattle.node_names.specs.Facts.{Fact, facts, keeps_top}
use Rattle.node_names.specs.Slots.{Standing, in_file, stands_within, stands_beside}
use Rattle.node_facts.specs.Named.{Named, named, named_at, named_of, file_named}

map_both : (xs ys : List Fact) → map named_of (xs ++ ys) ≡ map named_of xs ++ map named_of ys
map_both [] ys = refl
map_both (x ∷ xs) ys = ap (λ (zs : List Named). named_of x ∷ zs) (map_both xs ys)

pub named_facts : (p : Standing) (top : Bool) (f : Forest) → map named_of (facts p top f) ≡ named p f
named_facts p top none = refl
named_facts p top (leaf t f) = named_facts p top f
named_facts p top (node k c f) =
    ap (λ (zs : List Named). named_at k c p ∷ zs)
    (map_both (facts (stands_within k c p) (keeps_top k && top) c) (facts (stands_beside k c p) top f)
    ∙ ap (λ (zs : List Named). zs ++ map named_of (facts (stands_beside k c p) top f)) (named_facts (stands_within k c p) (keeps_top k && top) c)
    ∙ ap (λ (zs : List Named). named (stands_within k c p) c ++ zs) (named_facts (stands_beside k c p) top f))

pub named_file : (path : List ℕ) (f : Forest) → named (in_file path) f ≡ file_named path f
named_file path f = sym (named_facts (in_file path) true f)
