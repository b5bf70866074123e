use Rattle.std.proofs.Common.{List, ◌++◌, map, sym, ap, ◌∙◌, append-nil}
use Rattle.php_tree.specs.Tree.{Tree}
use Rattle.php_rows.specs.Reading.{forest_in}
use Rattle.syntax_upgrade.specs.Found.{Report, found_of}
use Rattle.syntax_upgrade.specs.Words.{seen}
use Rattle.syntax_upgrade.proofs.Nulls.{cast_text, null_written}
use Rattle.syntax_upgrade.proofs.Styles.{inside_written}
use Rattle.syntax_upgrade.proofs.UnsetWalk.{unset_end, unset_found, unset_labels, unset_off}
use Rattle.syntax_upgrade.proofs.walk.walk_unset.Goals as goal

pub null-requires : goal.null-requires
null-requires c = cast_text c.args.rules (c.args.kind, forest_in c.args.parts) (seen c.args.cast) (seen c.args.variable) (sym c.requires.unset)

pub returns-clause-written : goal.returns-clause-written
returns-clause-written c =
    let t : Tree = (c.args.kind, forest_in c.args.parts) in
    let w = c.args.walk.now.writer in
    c.in_ok-null.ensures ∙ null_written c.args.rules t (seen c.args.cast) (seen c.args.variable) w (sym c.requires.unset) ∙ inside_written c.args.rules t w c.requires.quotable.0

pub returns-clause-found : goal.returns-clause-found
returns-clause-found c =
    let g = map found_of c.args.walk.now.found.items in
    sym (ap (λ (rs : List Report). g ++ rs) (unset_found c.args.rules (c.args.kind, forest_in c.args.parts)
    (seen c.args.cast) (seen c.args.variable) c.args.at c.requires.unset) ∙ append-nil g)

pub returns-clause-labels : goal.returns-clause-labels
returns-clause-labels c =
    rw (c.in_ok-step-2.ensures, c.in_ok-step.ensures, c.in_ok-behind.ensures)
    (unset_labels c.args.rules (c.args.kind, forest_in c.args.parts) (seen c.args.cast) (seen c.args.variable) c.args.at c.args.walk.now.labels c.requires.unset)

pub returns-clause-end : goal.returns-clause-end
returns-clause-end c =
    rw (c.in_ok-end.ensures, c.in_ok-behind.ensures)
    (unset_end c.args.rules (c.args.kind, forest_in c.args.parts) (seen c.args.cast) (seen c.args.variable) c.args.at c.requires.unset)

pub returns-clause-off : goal.returns-clause-off
returns-clause-off c =
    c.in_ok-alone.ensures
    ∙ unset_off c.args.rules (c.args.kind, forest_in c.args.parts) (seen c.args.cast) (seen c.args.variable) c.args.at
    (forest_in c.others.result) c.args.walk.now.off c.requires.unset c.others.ensures
