use Rattle.std.proofs.Common.{rules, ◌≡◌, ◌≤◌, ◌+◌, ◌-◌, ℕ, true, List, length, take, refl, sym, ap, ◌∙◌, subst, arith}
use Rattle.std.proofs.lemmas.List.{length-take-le}
use Rattle.php_terminals.specs.Tokens.{tokens_in}
use Rattle.php_rows.specs.declared.flat.Flat.{Flat}
use Rattle.php_rows.specs.Flatten.{fits, read}
use Rattle.php_rows.proofs.inner.parts_at.Goals as goal

long : (n : ℕ) (xs us : List Flat) → us ≡ take n xs → n ≤ length xs → length us ≡ n
long n xs us e le = ap length e ∙ length-take-le n xs le

pub invariant_of-result : goal.invariant_of-result
invariant_of-result c =
    let n = c.args.node.size - 1 in
    let l = long n c.args.behind.now c.inside.result.0.now c.inside.ensures.inner c.requires.few in
    let q = c.requires.numbers in
    record {
      small = search rules;
      within = c.requires.within;
      nested = rw (l, c.inside.ensures.inner) c.requires.nested;
      few = omega arith;
    }

pub returns-clause-parts : goal.returns-clause-parts
returns-clause-parts c =
    let n = c.args.node.size - 1 in
    let l = long n c.args.behind.now c.inside.result.0.now c.inside.ensures.inner c.requires.few in
    rw (l, c.inside.ensures.inner) refl
