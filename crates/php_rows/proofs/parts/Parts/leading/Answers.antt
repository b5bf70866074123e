use Rattle.std.proofs.Common.{◌≡◌, ◌<◌, ◌≤◌, ◌+◌, ◌-◌, true, false, ◌∷◌, List, length, take, drop, refl, sym, ap, subst, ◌∙◌, arith, slice_range, [], ℕ}
use Rattle.php_tree.specs.Tree.{Forest, node, none}
use Rattle.php_tree.specs.declared.token.Token.{Token}
use Rattle.php_terminals.specs.Tokens.{tokens_in}
use Rattle.php_rows.specs.declared.flat.Flat.{Flat}
use Rattle.php_rows.specs.Flatten.{read, fits, leafed}
use Rattle.php_rows.specs.Reading.{begins_with_token}
use Rattle.php_rows.proofs.Fitting.{Inside, inside, in_order}
use Rattle.php_rows.proofs.parts.Parts.leading.Goals as goal

nested_first : (at end : ℕ) (ns xs : List Flat) (x : Flat) → fits (length ns) at end ns ≡ true → ns ≡ x ∷ xs → Inside (length xs) at end x xs
nested_first at end ns xs x h e = inside (length xs) at end x xs (subst (λ (u : List Flat). fits (length u) at end u ≡ true) e h)

first_within : (at end : ℕ) (ns xs : List Flat) (x : Flat) → fits (length ns) at end ns ≡ true → ns ≡ x ∷ xs → (at ≤ x.first) × (x.first ≤ end)
first_within at end ns xs x h e =
    let i = nested_first at end ns xs x h e in
    let a = in_order (length xs) x.first x.end (take (x.size - 1) xs) i.inner in
    let b = in_order (length xs) x.end end (drop (x.size - 1) xs) i.rest in
    (i.after, omega arith)

leading : (at end : ℕ) (ns xs : List Flat) (x : Flat) (ts us : List Token) → ns ≡ x ∷ xs → us ≡ slice_range ts at x.first
    → (f : Forest) × ((read (length ns) at end ns ts ≡ leafed us f) × (begins_with_token f ≡ false))
leading at end ns xs x ts us e p = (
  node x.kind (read (length xs) x.first x.end (take (x.size - 1) xs) ts) (read (length xs) x.end end (drop (x.size - 1) xs) ts),
  (
    ap (λ (u : List Flat). read (length u) at end u ts) e ∙ ap
        (λ (vs : List Token). leafed vs (node x.kind (read (length xs) x.first x.end (take (x.size - 1) xs) ts)
        (read (length xs) x.end end (drop (x.size - 1) xs) ts))) (sym p),
    refl,
  ),
)

leading_all : (at end : ℕ) (ns : List Flat) (ts us : List Token) → ns ≡ [] → us ≡ slice_range ts at end
    → (f : Forest) × ((read (length ns) at end ns ts ≡ leafed us f) × (begins_with_token f ≡ false))
leading_all at end ns ts us e p = (none, (ap (λ (u : List Flat). read (length u) at end u ts) e ∙ ap (λ (vs : List Token). leafed vs none) (sym p), refl))

pub between-requires-clause-order : goal.between-requires-clause-order
between-requires-clause-order c = let p = c.args.self in in_order (length p.nodes.now) p.at p.end p.nodes.now p.nested

pub between-requires-in-Some-clause-order : goal.between-requires-in-Some-clause-order
between-requires-in-Some-clause-order c = let p = c.args.self in (first_within p.at p.end p.nodes.now c.in-Some.field-0-1.now c.in-Some.node p.nested c.in-Some.ensures).0

pub between-requires-in-Some-clause-within : goal.between-requires-in-Some-clause-within
between-requires-in-Some-clause-within c =
    let p = c.args.self in
    let h = first_within p.at p.end p.nodes.now c.in-Some.field-0-1.now c.in-Some.node p.nested c.in-Some.ensures in
    let w = p.within in
    omega arith

pub returns-in-Some-clause-tokens : goal.returns-in-Some-clause-tokens
returns-in-Some-clause-tokens c =
    let p = c.args.self in
    leading p.at p.end p.nodes.now c.in-Some.field-0-1.now c.in-Some.node (tokens_in p.tokens)
    (tokens_in c.between-in-Some.result) c.in-Some.ensures c.between-in-Some.ensures.tokens

pub returns-in-None-clause-tokens : goal.returns-in-None-clause-tokens
returns-in-None-clause-tokens c =
    let p = c.args.self in
    leading_all p.at p.end p.nodes.now (tokens_in p.tokens) (tokens_in c.between.result) c.in-None.ensures c.between.ensures.tokens
