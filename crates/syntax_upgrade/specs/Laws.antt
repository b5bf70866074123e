-- What is written token by token is what the rules on syntax say.
use Rattle.std.specs.Prelude.{◌≡◌, zero, ◌&&◌, Bool, true, Option, length}
use Rattle.php_tree.specs.declared.token.Token.{Token}
use Rattle.php_tree.specs.Tree.{Forest, Tree, File, file_printed}
use Rattle.tracked_changes.specs.Draft.{NewToken, token_pieces}
use Rattle.syntax_rules.specs.Around.{Around, at_top}
use Rattle.syntax_rules.specs.DotPrecedence.{is_regrouped}
use Rattle.syntax_rules.specs.SplitName.{whole_names}
use Rattle.syntax_rules.specs.declared.rules.Rules.{Rules}
use Rattle.syntax_rules.specs.Together.{is_quoted, token_by}
use Rattle.syntax_rules.specs.Rewritten.{edits_by, rewritten_by}
use Rattle.syntax_upgrade.specs.Writing.{Recorded, front, pieces_next}
use Rattle.syntax_upgrade.specs.Written.{Written, at_front, draft_next, wrapped_if, unwrapped_if}
use Rattle.syntax_rules.specs.InContext.{parts_by, inside_by, is_nested}
use Rattle.syntax_upgrade.specs.Inside.{inside_next}
use Rattle.syntax_rules.specs.Quotable.{anything, is_quotable}
use Rattle.syntax_upgrade.specs.NamesWalked.{child_next, own_in, walked}

-- what the tokens of a file write, one after another
abbrev pub file_next : Rules → File → Recorded
file_next r f =
    pieces_next (token_pieces (token_by r f.end))
    (draft_next r.split_names (whole_names r.split_names (parts_by r at_top true f.statements)) (at_front front)).recorded

-- these are the bytes of the file rewritten by the rules that are on, by as many edits as it has
pub record IsOf (r : Rules) (f : File) (w : Recorded) : Type 0 where
  pub bytes : w.out ≡ file_printed (rewritten_by r f)
  pub edits : w.edits ≡ length (edits_by r f)

-- The tokens of a file, one after another, write the rewritten file by the edits of the file.
abbrev pub EditsAreWritten : Type 0
EditsAreWritten = (r : Rules) (f : File) → IsOf r f (file_next r f)

-- what is put round a node where it stands, if the rules are on
abbrev pub nests_by : Rules → Option Around → Tree → Bool
nests_by r a t = r.nested_ternaries && is_nested a t.0

abbrev pub regroups_by : Rules → Option Around → Tree → Bool
regroups_by r a t = r.dot_operands && is_regrouped a t

-- a node's own draft
abbrev pub own_next : Rules → Tree → Written → Written
own_next r t w = draft_next r.split_names (whole_names r.split_names (inside_by r t).1) w

-- Where a node stands, what is put round it opens at its first text and closes behind it, and its own tokens are between.
abbrev pub NodesAreWritten : Type 0
NodesAreWritten = (r : Rules) (a : Option Around) (t : Tree) (w : Written)
    → child_next r a t w
    ≡ unwrapped_if (nests_by r a t) (unwrapped_if (regroups_by r a t)
    (own_next r t (wrapped_if (regroups_by r a t) (wrapped_if (nests_by r a t) w))))

-- Parts walked from the first write their draft with its names whole, whatever a token becomes.
abbrev pub NamesAreWalked : Type 0
NamesAreWalked = (r : Rules) (own : Token → NewToken) (around : Bool → Option Around) (i : Bool) (f : Forest) (w : Written)
    → walked r own around i zero f w ≡ draft_next r.split_names (whole_names r.split_names (own_in r own around i f)) w

-- The parts of a node, walked from the first, write its own draft, where a quoted text is one that is walked.
abbrev pub InsidesAreWritten : Type 0
InsidesAreWritten = (r : Rules) (t : Tree) (w : Written) → (is_quoted t.0 ≡ true → is_quotable anything t.1 ≡ true)
    → inside_next r t w ≡ own_next r t w
