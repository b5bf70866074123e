-- What is read, one behind another.
use Rattle.std.proofs.Common.{◌≡◌, ℕ, ◌+◌, List, [], ◌∷◌, ◌++◌, length, suc, refl, sym, ap, ◌∙◌, append_assoc, arith}
use Rattle.std.proofs.lemmas.List.{append-nil}
use Rattle.php_tree.specs.Tree.{Forest, none, ◌+++◌, leaves}
use Rattle.php_rows.specs.declared.flat.Flat.{Flat}
use Rattle.php_rows.specs.declared.row.Row.{Row}
use Rattle.php_tree.specs.declared.token.Token.{Token}
use Rattle.php_rows.specs.Flatten.{flatten, tokens, leafed}
use Rattle.php_rows.specs.Rows.{Grew, IsOpen}
use Rattle.php_rows.proofs.Flattened.{flatten_append, tokens_append}

pub grew_none : (r : Row) → Grew r r none
grew_none r = record { nodes = sym (append-nil r.nodes.items); at = omega arith }

pub grew_join : (a b c : Row) (f g : Forest) → Grew a b f → Grew b c g → Grew a c (f +++ g)
grew_join a b c f g p q =
    let n = p.at in
    let m = q.at in
    let t = tokens_append f g in
    record {
      nodes = q.nodes ∙ rw (p.nodes, p.at, flatten_append a.at f g) (append_assoc a.nodes.items (flatten a.at f) (flatten (a.at + tokens f) g));
      at = omega arith;
    }

pub open_grew : (a b c : Row) (from : ℕ) (f g : Forest) → IsOpen a b from f → Grew b c g → IsOpen a c from (f +++ g)
open_grew a b c from f g p q =
    let n = p.at in
    let m = q.at in
    let t = tokens_append f g in
    record {
      hole = p.hole;
      first = p.first;
      place = p.place;
      nodes = q.nodes ∙ rw (p.nodes, p.at, flatten_append a.at f g) (append_assoc a.nodes.items (p.hole ∷ flatten a.at f) (flatten (a.at + tokens f) g));
      at = omega arith;
    }

flatten_leafed : (at : ℕ) (us : List Token) → flatten at (leafed us none) ≡ []
flatten_leafed at [] = refl
flatten_leafed at (t ∷ us) = flatten_leafed (suc at) us

pub tokens_leafed : (us : List Token) → leaves (leafed us none) ≡ us
tokens_leafed [] = refl
tokens_leafed (t ∷ us) = ap (λ (vs : List Token). t ∷ vs) (tokens_leafed us)

pub grew_leafed : (old new : Row) (us : List Token) → new.nodes ≡ old.nodes → new.at ≡ old.at + length us → Grew old new (leafed us none)
grew_leafed old new us e p = record {
  nodes = ap (λ v. v.items) e ∙ sym (append-nil old.nodes.items) ∙ ap (λ (ns : List Flat). old.nodes.items ++ ns) (sym (flatten_leafed old.at us));
  at = p ∙ ap (λ (n : ℕ). old.at + n) (sym (ap length (tokens_leafed us)));
}
