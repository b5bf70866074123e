use Rattle.std.proofs.Common.{sym, ◌∙◌, arith}
use Rattle.declared_twice.specs.Keys.{lent}
use Rattle.declared_twice.proofs.NextLemmas.{first_met_here, first_met_next, first_met_none, next_larger}
use Rattle.declared_twice.proofs.clash.first_met.Goals as goal

pub returns-then-is_marked : goal.returns-then-is_marked
returns-then-is_marked c =
    first_met_here (lent c.args.declared.now) c.args.marks.now c.args.first c.loop-first.place c.declaration_at.result.now c.declaration_at.ensures
    (sym c.is_marked.ensures ∙ c.if-is_marked.true) c.loop-first.invariant

pub loop-first-smaller : goal.loop-first-smaller
loop-first-smaller c =
    let n = next_larger (lent c.args.declared.now) c.args.later.now c.loop-first.place c.in-Some.next
    c.declaration_at.result.now c.requires.next c.declaration_at.ensures c.in-Some.ensures in
    omega (arith, n.0, n.1)

pub loop-first-preserved : goal.loop-first-preserved
loop-first-preserved c =
    first_met_next (lent c.args.declared.now) c.args.later.now c.args.marks.now c.args.first c.loop-first.place
    c.in-Some.next c.declaration_at.result.now c.requires.next c.declaration_at.ensures
    (sym c.is_marked.ensures ∙ c.if-is_marked.false) c.in-Some.ensures c.loop-first.invariant

pub returns-in-None : goal.returns-in-None
returns-in-None c =
    first_met_none (lent c.args.declared.now) c.args.later.now c.args.marks.now c.args.first c.loop-first.place c.declaration_at.result.now c.requires.next c.declaration_at.ensures
    (sym c.is_marked.ensures ∙ c.if-is_marked.false) c.in-None.ensures c.loop-first.invariant
