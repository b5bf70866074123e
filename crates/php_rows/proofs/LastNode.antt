-- The parts of the last node of a row.
use Rattle.std.proofs.Common.{◌≡◌, ℕ, zero, suc, ◌+◌, ◌-◌, ◌<◌, ◌≤◌, true, List, [], ◌∷◌, ◌++◌, length, take, drop, refl, sym, ap, subst, ◌∙◌, arith}
use Rattle.std.proofs.lemmas.List.{length-append, append-nil, take_all, length-drop}
use Rattle.std.proofs.Math.Seq.{take-append_seam}
use Rattle.php_tree.specs.declared.kind.NodeKind.{NodeKind}
use Rattle.php_tree.specs.declared.token.Token.{Token}
use Rattle.php_tree.specs.Tree.{Forest, none, leaf, node, leaves, count}
use Rattle.php_terminals.specs.declared.tokens.Tokens.{Tokens}
use Rattle.php_terminals.specs.Tokens.{tokens_in}
use Rattle.php_rows.specs.declared.flat.Flat.{Flat}
use Rattle.php_rows.specs.declared.row.Row.{Row}
use Rattle.php_rows.specs.Flatten.{fits, flatten, tokens, read}
use Rattle.php_rows.specs.Rows.{Grew, IsInner}
use Rattle.php_rows.proofs.Flattened.{length_flatten}
use Rattle.php_rows.proofs.Fitting.{fits_flatten}
use Rattle.php_rows.proofs.Roundtrip.{read_flatten}

drop_seam : (xs ys : List Flat) (n : ℕ) → length xs ≡ n → drop n (xs ++ ys) ≡ ys
drop_seam [] ys zero e = refl
drop_seam [] ys (suc n) e = absurd (omega arith)
drop_seam (x ∷ xs) ys zero e = absurd (omega arith)
drop_seam (x ∷ xs) ys (suc n) e = drop_seam xs ys n (omega arith)

abbrev whole : NodeKind → ℕ → Forest → Flat
whole k at f = record { kind = k; first = at; end = at + tokens f; size = suc (count f) }

abbrev cons : Flat → List Flat → List Flat
cons x xs = x ∷ xs

cons_both : (x y : Flat) (a b : List Flat) → cons x a ≡ cons y b → (x ≡ y) × (a ≡ b)
cons_both x y a b e = (cc, cc)

-- what stands at the number
pub last_node : (before row : Row) (from : ℕ) (k : NodeKind) (f : Forest) (x : Flat) (xs : List Flat)
    → Grew before row (node k f none) → length before.nodes.items ≡ from → drop from row.nodes.items ≡ x ∷ xs
    → (x ≡ whole k before.at f) × (xs ≡ flatten before.at f)
last_node before row from k f x xs g p e =
    let here : cons x xs ≡ cons (whole k before.at f) (flatten before.at f ++ []) =
    sym e ∙ ap (drop from) g.nodes ∙ drop_seam before.nodes.items (whole k before.at f ∷ flatten before.at f ++ []) from p in
    let b = cons_both x (whole k before.at f) xs (flatten before.at f ++ []) here in
    (b.0, b.1 ∙ append-nil (flatten before.at f))

pub some_node : (before row : Row) (from : ℕ) (k : NodeKind) (f : Forest) → Grew before row (node k f none) → length before.nodes.items ≡ from → from + 1 ≤ length row.nodes.items
some_node before row from k f g p =
    let l = ap length g.nodes in
    let m = length-append before.nodes.items (whole k before.at f ∷ flatten before.at f ++ []) in
    omega arith

size_is : (at : ℕ) (f : Forest) → suc (count f) - 1 ≡ length (flatten at f)
size_is at f = let l = length_flatten at f in omega arith

pub inner_few : (at : ℕ) (k : NodeKind) (f : Forest) (x : Flat) (xs : List Flat) → x ≡ whole k at f → xs ≡ flatten at f → x.size - 1 ≤ length xs
inner_few at k f x xs p q = let l = size_is at f in rw (p, q) (omega arith)

pub inner_fits : (at : ℕ) (k : NodeKind) (f : Forest) (x : Flat) (xs : List Flat) → x ≡ whole k at f
    → xs ≡ flatten at f → fits (x.size - 1) x.first x.end (take (x.size - 1) xs) ≡ true
inner_fits at k f x xs p q =
    let l = length_flatten at f in
    rw (p, q, take_all (suc (count f) - 1) (flatten at f) (omega arith)) (fits_flatten (suc (count f) - 1) at f (omega arith))

pub inner_within : (before row : Row) (from : ℕ) (k : NodeKind) (f : Forest) (x : Flat) (n : ℕ) → Grew before row (node k f none) → x ≡ whole k before.at f → row.at ≤ n → x.end ≤ n
inner_within before row from k f x n g p w =
    let a = g.at in
    let l : tokens (node k f none) ≡ tokens f = length-append (leaves f) [] ∙ omega arith in
    rw p (omega arith)

take_front : (us vs : List Token) → take (length us) (us ++ vs) ≡ us
take_front us vs = take-append_seam us vs

pub inner_read : (at : ℕ) (k : NodeKind) (f : Forest) (x : Flat) (xs : List Flat) (all rest : List Token) → x ≡ whole k at f → xs ≡ flatten at f → drop at all ≡ leaves f ++ rest
    → read (x.size - 1) x.first x.end (take (x.size - 1) xs) all ≡ f
inner_read at k f x xs all rest p q e =
    let l = length_flatten at f in
    let text : take (tokens f) (drop at all) ≡ leaves f = ap (take (tokens f)) e ∙ take_front (leaves f) rest in
    rw (p, q, take_all (suc (count f) - 1) (flatten at f) (omega arith)) (read_flatten (suc (count f) - 1) at f all (omega arith) text)
