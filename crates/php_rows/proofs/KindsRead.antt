-- The kinds of a row's nodes.
use Rattle.std.proofs.Common.{◌≡◌, ℕ, zero, suc, ◌-◌, true, List, [], ◌∷◌, ◌++◌, length, take, drop, map, slice_range, refl, sym, ap, ◌∙◌}
use Rattle.std.proofs.lemmas.List.{map-append, take-append-drop}
use Rattle.php_tree.specs.declared.kind.NodeKind.{NodeKind}
use Rattle.php_tree.specs.declared.token.Token.{Token}
use Rattle.php_tree.specs.Tree.{Forest, none, leaf, node}
use Rattle.php_rows.specs.declared.flat.Flat.{Flat}
use Rattle.php_rows.specs.Flatten.{fits, leafed, read}
use Rattle.php_rows.specs.Kinds.{kind_of, kinds}
use Rattle.php_rows.proofs.Fitting.{inside}

kinds_leafed : (ts : List Token) (f : Forest) → kinds (leafed ts f) ≡ kinds f
kinds_leafed [] f = refl
kinds_leafed (t ∷ ts) f = kinds_leafed ts f

pub kinds_read : (n at end : ℕ) (ns : List Flat) (ts : List Token) → fits n at end ns ≡ true → map kind_of ns ≡ kinds (read n at end ns ts)
kinds_read n at end [] ts h = sym (kinds_leafed (slice_range ts at end) none)
kinds_read zero at end (x ∷ xs) ts h = absurd cc
kinds_read (suc n) at end (x ∷ xs) ts h =
    let i = inside n at end x xs h in
    let inner = read n x.first x.end (take (x.size - 1) xs) ts in
    let rest = read n x.end end (drop (x.size - 1) xs) ts in
    let a : map kind_of (take (x.size - 1) xs) ≡ kinds inner = kinds_read n x.first x.end (take (x.size - 1) xs) ts i.inner in
    let b : map kind_of (drop (x.size - 1) xs) ≡ kinds rest = kinds_read n x.end end (drop (x.size - 1) xs) ts i.rest in
    let whole : map kind_of xs ≡ kinds inner ++ kinds rest =
    ap (map kind_of) (sym (take-append-drop (x.size - 1) xs))
    ∙ map-append kind_of (take (x.size - 1) xs) (drop (x.size - 1) xs)
    ∙ rw (a, b) refl in
    ap (λ (ks : List NodeKind). x.kind ∷ ks) whole
    ∙ sym (kinds_leafed (slice_range ts at x.first) (node x.kind inner rest))
