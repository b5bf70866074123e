use Rattle.std.proofs.Common.{map, take}
use Rattle.syntax_upgrade.specs.Found.{found_of}
use Rattle.upgrade_core.specs.Made.{AreAdded}
use Rattle.upgrade_core.proofs.reporting.add_reports.Given as goal

abbrev pub invariant-loop-place : goal.invariant-loop-place
invariant-loop-place l = AreAdded l.path (map found_of (take l.place-index l.places)) l.initial.reports.items l.reports.items
