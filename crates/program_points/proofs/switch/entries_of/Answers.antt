use Rattle.program_points.specs.declared.point.Point.TheVariants.{After}
use Rattle.program_points.specs.Rows.{entries}
use Rattle.program_points.proofs.SwitchLemmas.{entries_pop}
use Rattle.program_points.proofs.switch.entries_of.Goals as goal

pub loop-case-preserved : goal.loop-case-preserved
loop-case-preserved c =
    entries_pop c.loop-case.left.items c.pop.new.self.items c.in-Some.case c.loop-case.entries.items c.push.new.self.items
    c.loop-case.at c.start-at.result (entries c.args.cases.items (After c.args.node))
    c.in-Some.ensures.items c.start-at.ensures c.in_ok-push.ensures.items c.loop-case.invariant
