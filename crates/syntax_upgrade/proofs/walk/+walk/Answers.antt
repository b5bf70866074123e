use Rattle.std.proofs.Common.{◌≡◌, ℕ, zero, true, List, ◌++◌, map, Some, sym, ap, ◌∙◌, subst}
use Rattle.php_tree.specs.declared.kind.NodeKind.{NodeKind}
use Rattle.php_tree.specs.Tree.{Tree, leaf}
use Rattle.php_tree.specs.Places.{end_of}
use Rattle.php_rows.specs.Reading.{forest_in, weight}
use Rattle.syntax_upgrade.specs.Found.{found_of}
use Rattle.syntax_upgrade.specs.Labels.{labels_in}
use Rattle.syntax_upgrade.specs.Reports.{reports_in}
use Rattle.syntax_upgrade.specs.ReservedName.{at_first}
use Rattle.syntax_upgrade.specs.TokenStandings.{standing_of}
use Rattle.syntax_upgrade.specs.Words.{seen}
use Rattle.syntax_rules.specs.InContext.{around_of}
use Rattle.syntax_upgrade.specs.OffPlaces.{off_in}
use Rattle.syntax_upgrade.specs.Progress.{left_walked}
use Rattle.syntax_upgrade.specs.Walk.{around_home, kind_of}
use Rattle.syntax_upgrade.proofs.Loop.{leaf_step}
use Rattle.syntax_upgrade.proofs.Nulls.{not_edited}
use Rattle.syntax_upgrade.proofs.Styles.{inside_written}
use Rattle.syntax_upgrade.proofs.UnsetWalk.{not_null}
use Rattle.syntax_upgrade.proofs.Walking.{child_written}
use Rattle.syntax_upgrade.proofs.walk.+walk.Goals as goal

pub walk_child-returns-clause-written : goal.walk_child-returns-clause-written
walk_child-returns-clause-written t c =
    let n : Tree = (c.args.kind, forest_in c.args.parts) in
    let a = c.args.around in
    child_written c.args.rules (around_of a.outer a.operator.now a.is_first) n c.args.walk.now.writer
    c.open_round.new.writer c.walk_inside.new.walk.writer c.close_round.new.writer
    c.in_ok-open_round.ensures c.in_ok-end.ensures.written c.in_ok-close_round.ensures

pub walk_touched-returns-clause-written : goal.walk_touched-returns-clause-written
walk_touched-returns-clause-written t c =
    let f = forest_in c.args.parts in
    let n : Tree = (c.args.kind, f) in
    let w = c.args.walk.now.writer in
    c.in_ok-end-2.ensures.written
    ∙ ap (λ (bs : List ℕ). left_walked c.args.rules c.start.result (around_home (Some c.args.kind) bs) true f w) c.operator_of.ensures
    ∙ c.start.ensures w (not_edited c.args.rules n (sym c.in_default.ensures))
    ∙ inside_written c.args.rules n w c.requires.quotable.0

pub walk_touched-returns-clause-off : goal.walk_touched-returns-clause-off
walk_touched-returns-clause-off t c =
    let f = forest_in c.args.parts in
    let n : Tree = (c.args.kind, f) in
    let r = c.args.rules in
    let o = c.args.walk.now.off in
    c.in_ok-end-2.ensures.off
    ∙ ap (λ (bs : List ℕ). off_in r (around_home (Some c.args.kind) bs) true zero c.args.at f o) c.operator_of.ensures
    ∙ sym (not_null r n c.args.at o (not_edited r n (sym c.in_default.ensures)))

pub walk_parts-parts-preserved-in-Some-Leaf : goal.walk_parts-parts-preserved-in-Some-Leaf
walk_parts-parts-preserved-in-Some-Leaf t c =
    let r = c.args.rules in
    let around = around_home c.args.home.outer c.args.home.operator.now in
    let k = kind_of c.args.home.outer in
    let all = forest_in c.args.parts in
    let f = forest_in c.parts.left in
    let x = seen c.in-Some-Leaf.token in
    let v = forest_in c.next.new.parts in
    let i = c.parts.is_first in
    let spot = c.in_ok-spot-in-Some-Leaf.spot in
    let g = map found_of c.parts.walk.found.items in
    let h = map found_of c.word.new.out.items in
    let st = standing_of c.parts.spot.standing in
    let past = standing_of spot.standing in
    let here : f ≡ leaf x v = rw c.in-Some-Leaf.field-0-is at c.in-Some-Leaf.ensures in
    let places : h ++ reports_in k past spot.more spot.place v ≡ g ++ reports_in k st c.parts.spot.more c.parts.spot.place (leaf x v) =
    subst
    (λ (j : NodeKind). h ++ reports_in j past spot.more spot.place v ≡ g ++ reports_in j st c.parts.spot.more c.parts.spot.place (leaf x v))
    c.kind_in-kind.ensures c.in_ok-spot-in-Some-Leaf.ensures.places in
    leaf_step r around k (weight all) (left_walked r c.args.progress around true all c.args.walk.now.writer)
    (map found_of c.args.walk.now.found.items ++ reports_in k at_first zero c.args.at all)
    (labels_in c.args.at all c.args.walk.now.labels) (off_in r around true zero c.args.at all c.args.walk.now.off) (end_of c.args.at all)
    c.parts.written i f st c.parts.spot.more c.parts.inner_tokens c.parts.spot.place c.parts.walk.writer g c.parts.walk.labels c.parts.walk.off
    c.parts.invariant x v c.in_ok-written-in-Some-Leaf.written c.leaf.new.writer past spot.more
    c.in_ok-inner_tokens-in-Some-Leaf.inner_tokens spot.place h c.step.new.self c.token.new.self here
    (c.in_ok-written-in-Some-Leaf.ensures around i here) c.in_ok-spot-in-Some-Leaf.ensures.place places
    c.in_ok-step-in-Some-Leaf.ensures (c.in_ok-inner_tokens-in-Some-Leaf.ensures around i)
