use Rattle.std.proofs.Common.{ℕ, List, subst, sym}
use Rattle.php_tree.specs.declared.version.Version.TheVariants.{V74}
use Rattle.php_rows.specs.File.{file_in}
use Rattle.php_rows.specs.declared.file.RowTree.{RowTree}
use Rattle.php_reading.specs.Reading.{Reads}
use Rattle.upgrade_core.proofs.RowLemmas.{read_at}
use Rattle.upgrade_core.specs.Rows.{tree_of}
use Rattle.upgrade_core.proofs.MadeLemmas.{rows_made}
use Rattle.upgrade_core.proofs.upgraded.upgrade_rows.Goals as goal

pub loop-row-preserved : goal.loop-row-preserved
loop-row-preserved c =
    rows_made c.args.settings.now tree_of c.args.rows.now c.loop-row.row-index c.row-item.result c.row-item.result
    c.in_ok-upgrade.upgrade c.loop-row.all c.add.new.self c.loop-row-test.true c.row-item.is c.loop-row.invariant
    c.in_ok-upgrade.ensures c.in_ok-add.ensures

pub upgrade_tree-requires : goal.upgrade_tree-requires
upgrade_tree-requires c =
    subst (λ (row : List ℕ × RowTree). (bytes : List ℕ) × Reads V74 bytes (file_in row.1)) (sym c.row-item.is)
    (read_at c.args.rows.now c.loop-row.row-index c.row-item.result c.requires c.loop-row-test.true)
