use Rattle.php_tree.specs.declared.kind.NodeKind.TheVariants.{Block}
use Rattle.std.proofs.Common.{◌≡◌, zero, List, ◌++◌, map, subst, ap, ◌∙◌}
use Rattle.std.specs.List.Sorted.{IsPermutation}
use Rattle.std.proofs.lemmas.List.{map-append}
use Rattle.std.proofs.lemmas.List.Sorted.{IsPermutation-map}
use Rattle.php_rows.specs.File.{file_in}
use Rattle.syntax_upgrade.specs.Found.{Report, found_of}
use Rattle.syntax_upgrade.specs.Reports.{reports, reports_by, reports_in}
use Rattle.syntax_upgrade.specs.ReservedName.{at_first}
use Rattle.syntax_upgrade.specs.Writing.{Recorded}
use Rattle.syntax_upgrade.proofs.WholeFile.{files_are_written}
use Rattle.syntax_upgrade.proofs.whole.upgraded.Goals as goal

pub returns-clause-bytes : goal.returns-clause-bytes
returns-clause-bytes c =
    c.finish-bytes.ensures.out ∙ ap (λ (r : Recorded). r.out) c.in_ok-walk.ensures.written ∙ (files_are_written c.args.rules (file_in c.args.tree.now)).bytes

pub returns-clause-edits : goal.returns-clause-edits
returns-clause-edits c =
    c.finish-bytes.ensures.edits ∙ ap (λ (r : Recorded). r.edits) c.in_ok-walk.ensures.written ∙ (files_are_written c.args.rules (file_in c.args.tree.now)).edits

pub returns-clause-reports : goal.returns-clause-reports
returns-clause-reports c =
    let f = file_in c.args.tree.now in
    let a = c.in_ok-walk.walk.found.items in
    let b = c.finish.result.items in
    let o = c.finish-2.result.items in
    let undecided : map found_of c.in_ok-undecided.undecided.items ≡ reports f =
    ap (map found_of) c.in_ok-undecided.ensures
    ∙ map-append found_of a b
    ∙ ap (λ (rs : List Report). rs ++ map found_of b) c.in_ok-walk.ensures.found
    ∙ ap (λ (rs : List Report). reports_in Block at_first zero 0 f.statements ++ rs) (c.finish.ensures ∙ c.in_ok-walk.ensures.labels) in
    let all : map found_of c.in_ok-join.field-0.items ≡ reports_by c.args.rules f =
    ap (map found_of) c.in_ok-join.ensures
    ∙ map-append found_of c.in_ok-undecided.undecided.items o
    ∙ ap (λ (rs : List Report). rs ++ map found_of o) undecided
    ∙ ap (λ (rs : List Report). reports f ++ rs) (c.finish-2.ensures ∙ c.in_ok-walk.ensures.off) in
    subst (λ (rs : List Report). IsPermutation rs (map found_of c.in_ok-reports.reports.items)) all
    (IsPermutation-map found_of c.in_ok-join.field-0.items c.in_ok-reports.reports.items c.in_ok-reports.ensures.same)
