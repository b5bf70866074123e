use Rattle.std.proofs.Common.{ℕ, ◌+◌, zero, List, ◌++◌, map, length, sym, ap, ◌∙◌, append-nil}
use Rattle.php_rows.specs.Reading.{bytes_of, forest_in}
use Rattle.syntax_upgrade.specs.Found.{Report, found_of}
use Rattle.syntax_upgrade.specs.ReservedName.{at_first}
use Rattle.syntax_upgrade.proofs.CalmOff.{end_behind_bytes}
use Rattle.syntax_upgrade.proofs.CalmPassed.{passed_labels, passed_off, passed_written}
use Rattle.syntax_upgrade.proofs.CalmReports.{nothing_found}
use Rattle.syntax_upgrade.proofs.walk.pass.Goals as goal

pub returns-clause-written : goal.returns-clause-written
returns-clause-written c =
    c.in_ok-keep_all.ensures
    ∙ passed_written c.args.rules c.args.kind (forest_in c.args.parts) c.args.walk.now.writer (bytes_of c.args.parts) c.text_in-text.result.now c.args.calm
    c.requires.stays c.requires.closed c.text_in-text.ensures

pub returns-clause-found : goal.returns-clause-found
returns-clause-found c =
    let g = map found_of c.args.walk.now.found.items in
    sym (ap (λ (rs : List Report). g ++ rs) (nothing_found c.args.kind at_first zero c.args.at (forest_in c.args.parts) c.requires.stays.parts) ∙ append-nil g)

pub returns-clause-labels : goal.returns-clause-labels
returns-clause-labels c =
    c.go_behind.ensures
    ∙ passed_labels c.args.at c.args.kind (forest_in c.args.parts) c.args.walk.now.labels (bytes_of c.args.parts) c.args.calm c.requires.stays c.requires.free

pub returns-clause-off : goal.returns-clause-off
returns-clause-off c =
    c.behind_calm.ensures
    ∙ passed_off c.args.rules c.args.at c.args.kind (forest_in c.args.parts) c.args.walk.now.off (bytes_of c.args.parts) c.args.calm c.requires.stays

pub returns-clause-end : goal.returns-clause-end
returns-clause-end c =
    c.in_ok-end.ensures
    ∙ ap (λ (bs : List ℕ). c.args.at + length bs) c.text_in-text.ensures
    ∙ sym (end_behind_bytes c.args.at (forest_in c.args.parts))
