use Rattle.std.proofs.Common.{rules, ◌≡◌, ◌<◌, ◌≤◌, ◌++◌, ◌∷◌, [], length, refl, sym, ap, ◌∙◌, ℕ, ◌+◌, ◌-◌, List, arith}
use Rattle.php_rows.specs.declared.row.Row.{Row as TheRow}
use Rattle.php_tree.specs.Tree.{Forest}
use Rattle.php_rows.specs.declared.flat.Flat.{Flat}
use Rattle.php_rows.specs.Flatten.{flatten}
use Rattle.php_rows.specs.Rows.{Grew, IsOpen}
use Rattle.php_rows.proofs.Closing.{closed, hole_at}
use Rattle.php_rows.proofs.row.Row.close.Goals as goal

pub returns-clause-grew : goal.returns-clause-grew
returns-clause-grew c = λ before f o.
    let x : Flat = record { kind = c.args.kind; first = c.index.result.now.first; end = c.args.self.now.at; size = c.in_ok-size.size } in
    closed before c.args.self.now _ c.args.from c.args.kind f x o refl
    (hole_at before c.args.self.now c.args.from f c.index.result.now o c.index.ensures) refl (search rules) refl
    refl
