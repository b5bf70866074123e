-- A node in a row becomes whole.
use Rattle.std.proofs.Common.{◌≡◌, ℕ, zero, suc, ◌+◌, ◌-◌, ◌<◌, ◌≤◌, List, [], ◌∷◌, ◌++◌, length, slice_set, slice_index_or, refl, sym, ap, ◌∙◌, append_assoc, arith}
use Rattle.std.proofs.lemmas.List.{length-append, append-nil}
use Rattle.std.proofs.Math.Seq.{set-append_seam}
use Rattle.php_tree.specs.declared.kind.NodeKind.{NodeKind}
use Rattle.php_tree.specs.Tree.{Forest, none, leaf, node, leaves, count}
use Rattle.php_rows.specs.declared.flat.Flat.{Flat}
use Rattle.php_rows.specs.declared.row.Row.{Row}
use Rattle.php_rows.specs.Flatten.{flatten, tokens}
use Rattle.php_rows.specs.Rows.{Grew, IsOpen}
use Rattle.php_rows.proofs.Flattened.{length_flatten}

abbrev whole : NodeKind → ℕ → Forest → Flat
whole k at f = record { kind = k; first = at; end = at + tokens f; size = suc (count f) }

size_is : (ns : List Flat) (h : Flat) (at from : ℕ) (f : Forest) → length ns ≡ from → length (ns ++ h ∷ flatten at f) - from ≡ suc (count f)
size_is ns h at from f e =
    let a = length-append ns (h ∷ flatten at f) in
    let b = length_flatten at f in
    omega arith

pub closed : (before now new : Row) (from : ℕ) (k : NodeKind) (f : Forest) (x : Flat) → IsOpen before now from f
    → x.kind ≡ k → x.first ≡ before.at → x.end ≡ now.at → x.size ≡ length now.nodes.items - from
    → new.nodes.items ≡ slice_set now.nodes.items from x → new.at ≡ now.at → Grew before new (node k f none)
closed before now new from k f x o ek ef ee es en ea =
    let is : x ≡ whole k before.at f = rw (ek, ef, ee, es, o.nodes, size_is before.nodes.items o.hole before.at from f o.place, o.at) refl in
    record {
      nodes = en ∙ rw (o.nodes, sym o.place, is)
          (set-append_seam before.nodes.items o.hole (flatten before.at f) (whole k before.at f)
          ∙ ap (λ (u : List Flat). before.nodes.items ++ whole k before.at f ∷ u)
          (sym (append-nil (flatten before.at f))));
      at = ea ∙ o.at ∙ ap (λ (n : ℕ). before.at + n) (sym (ap length (append-nil (leaves f))));
    }

at_length : (ns : List Flat) (h : Flat) (r : List Flat) (d : Flat) → slice_index_or (ns ++ h ∷ r) (length ns) d ≡ h
at_length [] h r d = refl
at_length (n ∷ ns) h r d = at_length ns h r d

pub hole_at : (before now : Row) (from : ℕ) (f : Forest) (x : Flat) → IsOpen before now from f → x ≡ slice_index_or now.nodes.items from x → x.first ≡ before.at
hole_at before now from f x o e =
    let h : x ≡ o.hole = e ∙ rw (o.nodes, sym o.place) (at_length before.nodes.items o.hole (flatten before.at f) x) in
    ap (λ (y : Flat). y.first) h ∙ o.first
