use Rattle.std.proofs.Common.{map, take}
use Rattle.upgrade_core.specs.Made.{IsOf}
use Rattle.upgrade_core.specs.Rows.{trees_of}
use Rattle.upgrade_core.proofs.upgraded.upgrade_rows.Given as goal

abbrev pub invariant-loop-row : goal.invariant-loop-row
invariant-loop-row l = IsOf l.settings (trees_of (take l.row-index l.rows)) l.all
