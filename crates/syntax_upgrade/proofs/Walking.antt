-- Parts that are written one after another.
use Rattle.std.proofs.Common.{◌≡◌, true, false, Bool, Option, refl, ap, sym, ◌∙◌, zero}
use Rattle.php_tree.specs.Tree.{Forest, none, Tree}
use Rattle.syntax_rules.specs.declared.rules.Rules.{Rules}
use Rattle.syntax_rules.specs.Around.{Around, at_top}
use Rattle.syntax_rules.specs.SplitName.{whole_names}
use Rattle.syntax_upgrade.specs.declared.progress.Progress.{Progress}
use Rattle.syntax_upgrade.specs.declared.progress.Progress.TheVariants as code
use Rattle.syntax_rules.specs.InContext.{parts_by}
use Rattle.syntax_upgrade.specs.Laws.{nests_by, own_next, regroups_by}
use Rattle.syntax_upgrade.specs.NamesWalked.{child_next}
use Rattle.syntax_upgrade.specs.Progress.{left_walked}
use Rattle.syntax_upgrade.specs.Written.{Written, draft_next, unwrapped_if, wrapped_if}
use Rattle.syntax_upgrade.proofs.Names.{node_written}
use Rattle.syntax_upgrade.proofs.Styles.{plain_written}
use Rattle.syntax_upgrade.proofs.Starts.{own_false}

-- a node with what is put round it, step by step
pub child_written : (r : Rules) (a : Option Around) (t : Tree) (w opened inner closed : Written)
    → opened ≡ wrapped_if (regroups_by r a t) (wrapped_if (nests_by r a t) w)
    → inner ≡ own_next r t opened
    → closed ≡ unwrapped_if (nests_by r a t) (unwrapped_if (regroups_by r a t) inner)
    → closed ≡ child_next r a t w
child_written r a t w opened inner closed h i j =
    j
    ∙ ap (λ (x : Written). unwrapped_if (nests_by r a t) (unwrapped_if (regroups_by r a t) x))
    (i ∙ ap (own_next r t) h)
    ∙ sym (node_written r a t w)

-- nothing is left
pub none_left : (r : Rules) (p : Progress) (around : Bool → Option Around) (i : Bool) (w : Written) → left_walked r p around i none w ≡ w
none_left r (code.Names b n) around i w = refl
none_left r code.Float around i w = refl
none_left r (code.Quoted role) around i w = refl

-- the statements of a file
pub top_written : (r : Rules) (f : Forest) (w : Written)
    → left_walked r (code.Names false zero) at_top true f w
    ≡ draft_next r.split_names (whole_names r.split_names (parts_by r at_top true f)) w
top_written r f w = own_false r at_top true f w ∙ plain_written r at_top true f w
