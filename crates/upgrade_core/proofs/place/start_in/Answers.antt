use Rattle.std.proofs.Common.{◌≡◌, ℕ, List, rules, subst}
use Rattle.std.specs.Prelude.{Option}
use Rattle.php_tree.specs.declared.version.Version.TheVariants.{V74}
use Rattle.php_rows.specs.File.{file_in}
use Rattle.php_rows.specs.declared.file.RowTree.{RowTree}
use Rattle.php_reading.specs.Reading.{Reads}
use Rattle.upgrade_core.specs.Trees.{HasNoTree}
use Rattle.upgrade_core.specs.Rows.{MayBeRead}
use Rattle.upgrade_core.proofs.PlaceLemmas.{begins}
use Rattle.upgrade_core.proofs.place.start_in.Goals as goal

pub returns-in-Some : goal.returns-in-Some
returns-in-Some c =
    let same : c.in_ok-bytes.bytes.items ≡ c.args.file.now.bytes = search rules in
    let reads : Reads V74 c.in_ok-bytes.bytes.items (file_in c.in-Some.tree) =
    subst (λ (o : Option RowTree). MayBeRead c.in_ok-bytes.bytes.items o) c.in-Some.is c.in_ok-tree.ensures in
    begins c.args.file.now.bytes (file_in c.in-Some.tree) c.args.node c.start_of.result
    (subst (λ (bs : List ℕ). Reads V74 bs (file_in c.in-Some.tree)) same reads) c.start_of.ensures

pub returns-in-None : goal.returns-in-None
returns-in-None c =
    let same : c.in_ok-bytes.bytes.items ≡ c.args.file.now.bytes = search rules in
    let none : HasNoTree c.in_ok-bytes.bytes.items =
    subst (λ (o : Option RowTree). MayBeRead c.in_ok-bytes.bytes.items o) c.in-None.is c.in_ok-tree.ensures in
    λ tree reads. absurd (subst (λ (bs : List ℕ). HasNoTree bs) same none tree reads)
