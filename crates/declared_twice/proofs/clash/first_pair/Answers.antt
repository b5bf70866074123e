use Rattle.std.proofs.Common.{◌≤◌, ℕ, ◌+◌, length, subst, arith, Option}
use Rattle.std.specs.Borrow.{Bor}
use Rattle.std.proofs.lemmas.List.{length-map}
use Rattle.file_declarations.specs.declared.declaration.Declaration.{Declaration}
use Rattle.graph_search.specs.Graph.{graph_of}
use Rattle.declared_twice.specs.Keys.{ClashAt, lent}
use Rattle.declared_twice.specs.Later.{IsFirstAt}
use Rattle.declared_twice.proofs.ClashLemmas.{first_pair_is}
use Rattle.declared_twice.proofs.NextLemmas.{none_at_all, none_more}
use Rattle.declared_twice.proofs.clash.first_pair.Goals as goal

pub returns-in-Some : goal.returns-in-Some
returns-in-Some c =
    let R = ClashAt (lent c.args.declared.now) (graph_of c.args.runs.now.next.items) c.args.entries.now in
    let i = c.loop-place.place in
    first_pair_is R i c.in-Some.later_one c.loop-place.invariant.none (λ l x. omega (arith, x.order))
    (subst (λ (o : Option ℕ). IsFirstAt (R i) (i + 1) o) c.in-Some.is c.in_ok-second.ensures.second)

pub loop-place-preserved : goal.loop-place-preserved
loop-place-preserved c =
    let ds = lent c.args.declared.now in
    let g = graph_of c.args.runs.now.next.items in
    let i = c.loop-place.place in
    record {
      none = none_more ds g c.args.entries.now i c.loop-place.invariant.none
          (subst (λ (o : Option ℕ). IsFirstAt (ClashAt ds g c.args.entries.now i) (i + 1) o) c.in-None.is c.in_ok-second.ensures.second);
      known = c.in_ok-second.ensures.known;
    }

pub returns : goal.returns
returns c =
    let ds = lent c.args.declared.now in
    let past : length ds ≤ c.loop-place.place = omega (arith, c.loop-place-test.false, length-map c.args.declared.now (λ (d : Bor Declaration). d.now)) in
    none_at_all ds (graph_of c.args.runs.now.next.items) c.args.entries.now c.loop-place.place past c.loop-place.invariant.none
