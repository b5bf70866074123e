use Rattle.std.proofs.Common.{◌≡◌, ◌++◌, drop}
use Rattle.toml.specs.View.{items_view}
use Rattle.rule_tables.specs.SettingsView.{texts_of}
use Rattle.rule_tables.proofs.reads.paths_of.Given as goal

abbrev pub invariant-loop-item : goal.invariant-loop-item
invariant-loop-item l = l.paths.items ++ texts_of (items_view (drop l.item-index l.items)) ≡ texts_of (items_view l.items)
