use Rattle.std.proofs.Common.{false, refl, sym, ◌∙◌, arith}
use Rattle.syntax_upgrade.proofs.CalmTokens.{run_is}
use Rattle.syntax_upgrade.specs.declared.calm.Calm.{Calm}
use Rattle.syntax_upgrade.specs.declared.calm.Last.{Last}
use Rattle.syntax_upgrade.proofs.calm.calm_from.Goals as goal

pub returns-else-is_mixed : goal.returns-else-is_mixed
returns-else-is_mixed c =
    let m = c.args.first in
    let from : Last = record { end = m.lead; class = m.class; is_keyword = false; takes = false; joins = false } in
    let made : Calm = record { start = m.lead; last = c.in-Some.last } in
    let i = c.requires.first in
    let o = i.order in
    let b = i.behind in
    let w = i.within in
    run_is c.args.bytes.now from c.in-Some.last c.args.marks.now made (omega (arith, o, b, w)) c.requires.marked c.requires.some
    c.in-Some.ensures refl refl (sym c.is_mixed.ensures ∙ c.if-is_mixed.false)
