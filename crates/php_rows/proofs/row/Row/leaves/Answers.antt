use Rattle.std.proofs.Common.{◌≡◌, ◌+◌, refl, arith, length, ap, sym, ◌∙◌, ℕ}
use Rattle.php_rows.proofs.Growing.{grew_leafed}
use Rattle.php_rows.proofs.row.Row.leaves.Goals as goal

pub returns-clause-grew : goal.returns-clause-grew
returns-clause-grew c = λ us e.
    let a = c.in_ok-at.ensures in
    let b = c.in_ok-more.ensures in
    grew_leafed c.args.self.now _ us refl (omega arith)
