-- The tokens of a row's nodes.
use Rattle.std.proofs.Common.{
  ◌≡◌,
  ℕ,
  zero,
  suc,
  ◌+◌,
  ◌-◌,
  ◌<◌,
  ◌≤◌,
  true,
  false,
  List,
  [],
  ◌∷◌,
  ◌++◌,
  length,
  take,
  drop,
  map,
  All,
  slice_range,
  slice_index_or,
  refl,
  sym,
  ap,
  ◌∙◌,
  arith,
}
use Rattle.std.proofs.lemmas.List.{length-append, drop-drop, take-map, drop-map, length-drop, length-take-le, get_or-take, get_or-drop}
use Rattle.std.proofs.Math.Seq.{take-add}
use Rattle.php_tree.specs.declared.token.Token.{Token}
use Rattle.php_tree.specs.Tree.{Forest, none, leaf, node, leaves}
use Rattle.php_terminals.specs.declared.mark.Mark.{Mark}
use Rattle.php_terminals.specs.Marked.{IsMark, token_at}
use Rattle.php_rows.specs.declared.flat.Flat.{Flat}
use Rattle.php_rows.specs.Flatten.{fits, leafed, read}
use Rattle.php_rows.proofs.Fitting.{inside, in_order}

pub range_joins : {X : Type 0} (ts : List X) (a b c : ℕ) → a ≤ b → b ≤ c → slice_range ts a b ++ slice_range ts b c ≡ slice_range ts a c
range_joins ts a b c p q =
    let n : c - a ≡ (b - a) + (c - b) = omega arith in
    let m : a + (b - a) ≡ b = omega arith in
    rw (n, take-add (b - a) (c - b) (drop a ts), drop-drop (b - a) a ts, m) refl

leaves_leafed : (ts : List Token) (f : Forest) → leaves (leafed ts f) ≡ ts ++ leaves f
leaves_leafed [] f = refl
leaves_leafed (t ∷ ts) f = ap (λ (us : List Token). t ∷ us) (leaves_leafed ts f)

append_none : (ts : List Token) → leaves (leafed ts none) ≡ ts
append_none [] = refl
append_none (t ∷ ts) = ap (λ (us : List Token). t ∷ us) (append_none ts)

pub leaves_read : (n at end : ℕ) (ns : List Flat) (ts : List Token) → fits n at end ns ≡ true → leaves (read n at end ns ts) ≡ slice_range ts at end
leaves_read n at end [] ts h = append_none (slice_range ts at end)
leaves_read zero at end (x ∷ xs) ts h = absurd cc
leaves_read (suc n) at end (x ∷ xs) ts h =
    let i = inside n at end x xs h in
    let inner = read n x.first x.end (take (x.size - 1) xs) ts in
    let rest = read n x.end end (drop (x.size - 1) xs) ts in
    let a : leaves inner ≡ slice_range ts x.first x.end = leaves_read n x.first x.end (take (x.size - 1) xs) ts i.inner in
    let b : leaves rest ≡ slice_range ts x.end end = leaves_read n x.end end (drop (x.size - 1) xs) ts i.rest in
    let c = in_order n x.first x.end (take (x.size - 1) xs) i.inner in
    let d = in_order n x.end end (drop (x.size - 1) xs) i.rest in
    let e = i.after in
    leaves_leafed (slice_range ts at x.first) (node x.kind inner rest)
    ∙ rw (a, b, range_joins ts x.first x.end end c d) (range_joins ts at x.first end e (omega arith))

pub range_map : {X Y : Type 0} (f : X → Y) (xs : List X) (a b : ℕ) → map f (slice_range xs a b) ≡ slice_range (map f xs) a b
range_map f xs a b = sym (take-map f (b - a) (drop a xs)) ∙ ap (take (b - a)) (sym (drop-map f a xs))

pub marks_between : (bytes : List ℕ) (ms : List Mark) (a b : ℕ) → b ≤ length ms → a ≤ b → All (IsMark bytes) ms → All (IsMark bytes) (slice_range ms a b)
marks_between bytes ms a b w o all = λ k d lt.
    let l = length-drop a ms in
    let m = length-take-le (b - a) (drop a ms) (omega arith) in
    rw (get_or-take (b - a) (drop a ms) k d (omega arith), get_or-drop a ms k d) (all (a + k) d (omega arith))
