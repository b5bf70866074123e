use Rattle.std.proofs.Common.{◌≡◌, List, [], ◌∷◌, ◌++◌, rules}
use Rattle.upgrade_core.proofs.MadeLemmas.{added_next}
use Rattle.upgrade_core.proofs.reporting.add_reports.Goals as goal

pub loop-place-preserved : goal.loop-place-preserved
loop-place-preserved c =
    let pushed : c.push.new.self.items ≡ c.loop-place.reports.items ++ c.in_ok-report_of.field-0 ∷ [] = search rules in
    added_next c.args.path.now c.args.places.now c.loop-place.place-index c.place-item.result c.place-item.result
    c.args.reports.now.items c.loop-place.reports.items c.push.new.self.items c.in_ok-report_of.field-0
    c.loop-place-test.true c.place-item.is c.loop-place.invariant pushed c.in_ok-report_of.ensures
