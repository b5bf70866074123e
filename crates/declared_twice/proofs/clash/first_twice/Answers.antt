use Rattle.std.proofs.Common.{ℕ, subst, arith, Option}
use Rattle.std.specs.Borrow.{Bor}
use Rattle.std.proofs.lemmas.List.{length-map}
use Rattle.std.proofs.lemmas.Option.{slice_get_within}
use Rattle.file_declarations.specs.declared.declaration.Declaration.{Declaration}
use Rattle.graph_search.specs.Graph.{graph_of}
use Rattle.declared_twice.specs.FirstPair.{IsFirstPair}
use Rattle.declared_twice.specs.Keys.{ClashAt, lent}
use Rattle.declared_twice.proofs.clash.first_twice.Goals as goal

pub declaration_at-requires : goal.declaration_at-requires
declaration_at-requires c =
    let R = ClashAt (lent c.args.declared.now) (graph_of c.args.runs.now.next.items) c.args.entries.now in
    let p = subst (λ (o : Option (ℕ × ℕ)). IsFirstPair R o) c.in-Some.is c.in_ok-pair.ensures in
    omega (arith, slice_get_within (lent c.args.declared.now) c.in-Some.one p.0.first.declaration p.0.first.at, length-map c.args.declared.now (λ (d : Bor Declaration). d.now))

pub declaration_at-requires-in-Some : goal.declaration_at-requires-in-Some
declaration_at-requires-in-Some c =
    let R = ClashAt (lent c.args.declared.now) (graph_of c.args.runs.now.next.items) c.args.entries.now in
    let p = subst (λ (o : Option (ℕ × ℕ)). IsFirstPair R o) c.in-Some.is c.in_ok-pair.ensures in
    omega (arith, slice_get_within (lent c.args.declared.now) c.in-Some.other p.0.second.declaration p.0.second.at, length-map c.args.declared.now (λ (d : Bor Declaration). d.now))

pub returns-in-Some : goal.returns-in-Some
returns-in-Some c =
    let R = ClashAt (lent c.args.declared.now) (graph_of c.args.runs.now.next.items) c.args.entries.now in
    let p = subst (λ (o : Option (ℕ × ℕ)). IsFirstPair R o) c.in-Some.is c.in_ok-pair.ensures in
    (c.in-Some.one, c.in-Some.other, p, c.declaration_at.ensures, c.declaration_at-in-Some.ensures)
