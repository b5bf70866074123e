use Rattle.std.proofs.Common.{◌≡◌, ◌<◌, ◌≤◌, ◌+◌, ◌-◌, ◌^◌, ℕ, suc, true, ◌∷◌, List, length, take, drop, refl, sym, ap, subst, ◌∙◌, arith}
use Rattle.std.proofs.lemmas.List.{length-take-le, length-drop}
use Rattle.php_terminals.specs.Tokens.{tokens_in}
use Rattle.php_rows.specs.declared.flat.Flat.{Flat}
use Rattle.php_rows.specs.Flatten.{read, fits}
use Rattle.php_rows.specs.Reading.{IsBefore, IsChild, forest_in}
use Rattle.php_rows.proofs.Fitting.{Inside, inside, in_order, fits_enough, count_read}
use Rattle.php_rows.proofs.RowReads.{next_child}
use Rattle.php_rows.proofs.parts.Parts.next.Goals as goal

nested_first : (at end : ℕ) (ns xs : List Flat) (x : Flat) → fits (length ns) at end ns ≡ true → ns ≡ x ∷ xs → Inside (length xs) at end x xs
nested_first at end ns xs x h e = inside (length xs) at end x xs (subst (λ (u : List Flat). fits (length u) at end u ≡ true) e h)

inner_fits : (at end : ℕ) (xs inner : List Flat) (x : Flat) → Inside (length xs) at end x xs → inner ≡ take (x.size - 1) xs → fits (length inner) x.first x.end inner ≡ true
inner_fits at end xs inner x i e =
    let l = length-take-le (x.size - 1) xs i.within in
    let w = i.within in
    rw e (fits_enough (length (take (x.size - 1) xs)) (length xs) x.first x.end (take (x.size - 1) xs) (omega arith) (omega arith) ∙ i.inner)

rest_fits : (at end : ℕ) (xs rest : List Flat) (x : Flat) → Inside (length xs) at end x xs → rest ≡ drop (x.size - 1) xs → fits (length rest) x.end end rest ≡ true
rest_fits at end xs rest x i e =
    let l = length-drop (x.size - 1) xs in
    rw e (fits_enough (length (drop (x.size - 1) xs)) (length xs) x.end end (drop (x.size - 1) xs) (omega arith) (omega arith) ∙ i.rest)

pub invariant_of-self : goal.invariant_of-self
invariant_of-self c =
    let p = c.args.self.now in
    let x = c.in-Some.node in
    let xs = c.in-Some.behind.now in
    let i = nested_first p.at p.end p.nodes.now xs x p.nested c.in-Some.ensures in
    let n = ap length c.in-Some.ensures in
    let l = length-drop (x.size - 1) xs in
    let r = ap length c.inside.ensures.rest in
    let few = p.few in
    let some = i.some in
    let w = i.within in
    record {
      small = p.small;
      within = p.within;
      nested = rest_fits p.at p.end xs c.inside.result.1.now x i c.inside.ensures.rest;
      few = omega arith;
    }

pub invariant_of-child : goal.invariant_of-child
invariant_of-child c =
    let p = c.args.self.now in
    let x = c.in-Some.node in
    let xs = c.in-Some.behind.now in
    let i = nested_first p.at p.end p.nodes.now xs x p.nested c.in-Some.ensures in
    let n = ap length c.in-Some.ensures in
    let l = length-take-le (x.size - 1) xs i.within in
    let r = ap length c.inside.ensures.inner in
    let few = p.few in
    let some = i.some in
    let w = i.within in
    let late = in_order (length xs) x.end p.end (drop (x.size - 1) xs) i.rest in
    let small = p.small in
    let end = p.within in
    record {
      small = omega arith;
      within = omega arith;
      nested = inner_fits p.at p.end xs c.inside.result.0.now x i c.inside.ensures.inner;
      few = omega arith;
    }

pub returns-else-self-node : goal.returns-else-self-node
returns-else-self-node c =
    let p = c.args.self.now in
    let x = c.in-Some.node in
    let xs = c.in-Some.behind.now in
    let inner = c.inside.result.0.now in
    let ts = tokens_in p.tokens in
    let i = nested_first p.at p.end p.nodes.now xs x p.nested c.in-Some.ensures in
    let l = length-take-le (x.size - 1) xs i.within in
    let r = ap length c.inside.ensures.inner in
    let some = i.some in
    let counted = count_read (length inner) x.first x.end inner ts (inner_fits p.at p.end xs inner x i c.inside.ensures.inner) in
    record {
      parts = ap (λ (ns : List Flat). read (length ns) p.at p.end ns ts) c.in-Some.ensures
          ∙ next_child p.at p.end x xs inner c.inside.result.1.now ts (omega arith) c.inside.ensures.inner c.inside.ensures.rest;
      own = refl;
      inner = omega arith;
      number = omega arith;
      tokens = refl;
      same = refl;
    }
