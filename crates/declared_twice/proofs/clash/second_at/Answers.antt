use Rattle.std.proofs.Common.{Bool, List, sym, subst, arith}
use Rattle.std.specs.Borrow.{Bor}
use Rattle.std.proofs.lemmas.List.{length-map}
use Rattle.file_declarations.specs.declared.declaration.Declaration.{Declaration}
use Rattle.graph_search.specs.Graph.{graph_of}
use Rattle.declared_twice.specs.Keys.{lent}
use Rattle.declared_twice.specs.Runs.{AreMet}
use Rattle.declared_twice.proofs.NextLemmas.{next_larger, second_is, second_none}
use Rattle.declared_twice.proofs.clash.second_at.Goals as goal

pub returns-in-None-clause-second : goal.returns-in-None-clause-second
returns-in-None-clause-second c =
    second_none (lent c.args.declared.now) c.args.later.now (graph_of c.args.runs.now.next.items) c.args.entries.now c.args.place c.requires.next c.in-None.ensures

pub first_met-second-requires-clause-first : goal.first_met-second-requires-clause-first
first_met-second-requires-clause-first c =
    let n = next_larger (lent c.args.declared.now) c.args.later.now c.args.place c.in-Some.next
    c.declaration_at.result.now c.requires.next c.declaration_at.ensures c.in-Some.ensures in
    omega (arith, n.1, length-map c.args.declared.now (λ (d : Bor Declaration). d.now))

pub returns-clause-second : goal.returns-clause-second
returns-clause-second c =
    let g = graph_of c.args.runs.now.next.items in
    let d = c.declaration_at.result.now in
    second_is (lent c.args.declared.now) c.args.later.now g c.args.entries.now c.as_slice.result.now c.args.place
    c.in-Some.next d c.first_met-second.result c.requires.next c.declaration_at.ensures c.in-Some.ensures
    (subst (λ (ms : List Bool). AreMet g c.args.entries.now d.at.file ms) (sym c.as_slice.ensures.value) c.in_ok-met.ensures.met)
    c.first_met-second.ensures
