use Rattle.std.proofs.Common.{◌≡◌, ℕ, List, rules, subst}
use Rattle.std.specs.Prelude.{Option}
use Rattle.php_rows.specs.declared.file.RowTree.{RowTree}
use Rattle.upgrade_core.specs.Trees.{HasNoTree}
use Rattle.upgrade_core.specs.Rows.{MayBeRead}
use Rattle.upgrade_core.proofs.reading.read_file.Goals as goal

pub returns-in-None : goal.returns-in-None
returns-in-None c =
    let same : c.in_ok-bytes.bytes.items ≡ c.args.file.now.bytes = search rules in
    let none : HasNoTree c.in_ok-bytes.bytes.items =
    subst (λ (o : Option RowTree). MayBeRead c.in_ok-bytes.bytes.items o) c.in-None.is c.in_ok-tree.ensures in
    (c.in_ok-path.ensures, subst (λ (bs : List ℕ). HasNoTree bs) same none)
