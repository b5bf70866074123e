-- Files without quoted texts and uses of traits.
use Rattle.std.proofs.Common.{◌≡◌, Bool, true, false, not, ◌&&◌, ◌||◌, refl, sym, subst}
use Rattle.std.proofs.lemmas.Bool.{and_parts, and_from}
use Rattle.php_tree.specs.declared.kind.NodeKind.{NodeKind}
use Rattle.php_tree.specs.Tree.{Forest, none, leaf, node}
use Rattle.written_tokens.specs.tokens.Written.{has_nullsafe, is_quoted_node, is_safe}
use Rattle.rewritten_shapes.specs.paired.Traits.{PlainTraits, has_plain_rules, is_trait_use}
use Rattle.written_reading.specs.edited.Laws.{FilesWithNeitherArePlain, has_neither}

neither : (a b : Bool) → not (a || b) ≡ true → (a ≡ false) × (b ≡ false)
neither false false h = (refl, refl)
neither false true h = absurd cc
neither true b h = absurd cc

never : (a : Bool) (P : Type 0) → a ≡ false → a ≡ true → P
never true P p q = absurd cc
never false P p q = absurd cc

-- what a node without such nodes has
record Parts (k : NodeKind) (c f : Forest) : Type 0 where
  quoted : is_quoted_node k ≡ false
  trait : is_trait_use k ≡ false
  within : has_neither c ≡ true
  behind : has_neither f ≡ true

parts : (k : NodeKind) (c f : Forest) → has_neither (node k c f) ≡ true → Parts k c f
parts k c f h =
    let own : (not (is_quoted_node k || is_trait_use k) ≡ true) × ((has_neither c && has_neither f) ≡ true) =
    and_parts (not (is_quoted_node k || is_trait_use k)) (has_neither c && has_neither f) h in
    let inner : (has_neither c ≡ true) × (has_neither f ≡ true) = and_parts (has_neither c) (has_neither f) own.1 in
    let none_of : (is_quoted_node k ≡ false) × (is_trait_use k ≡ false) = neither (is_quoted_node k) (is_trait_use k) own.0 in
    record { quoted = none_of.0; trait = none_of.1; within = inner.0; behind = inner.1 }

safe : (f : Forest) → has_neither f ≡ true → is_safe f ≡ true
safe none h = refl
safe (leaf t f) h = safe f h
safe (node k c f) h =
    let p : Parts k c f = parts k c f h in
    subst (λ (q : Bool). (not (q && has_nullsafe c) && (is_safe c && is_safe f)) ≡ true) (sym p.quoted)
    (and_from (is_safe c) (is_safe f) (safe c p.within) (safe f p.behind))

traits : (f : Forest) → has_neither f ≡ true → PlainTraits f
traits none h = tt
traits (leaf t f) h = traits f h
traits (node k c f) h =
    let p : Parts k c f = parts k c f h in
    (never (is_trait_use k) (has_plain_rules c ≡ true) p.trait, traits c p.within, traits f p.behind)

pub files_with_neither_are_plain : FilesWithNeitherArePlain
files_with_neither_are_plain f h = (safe f.statements h, traits f.statements h)
