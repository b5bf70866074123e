-- What a change of a node comes to, for worked rows.
use Rattle.std.specs.Prelude.{◌≡◌, ℕ, List, [], map}
use Rattle.span_edits.specs.declared.edit.Edit.{Edit}
use Rattle.php_tree.specs.declared.token.TokenKind.{TokenKind}
use Rattle.php_tree.specs.declared.token.TokenKind.TheVariants as token
use Rattle.php_tree.specs.declared.kind.NodeKind.TheVariants as kind
use Rattle.php_tree.specs.Tree.{Forest, none, leaf, node, Tree, alone}
use Rattle.tracked_changes.specs.Draft.{pieces, rewritten, unchanged}
use Rattle.tracked_changes.specs.Edits.{joined, edits_from}
use Rattle.tracked_changes.specs.Walk.{NewTree, new_alone}

-- a token with these trivia and this text, and what follows it; places don't matter here
abbrev pub word_behind : List ℕ → TokenKind → List ℕ → Forest → Forest
word_behind lead kind text f = leaf (record { kind = kind; lead = lead; text = text; start = 0 }) f

abbrev pub word : TokenKind → List ℕ → Forest → Forest
word kind text f = word_behind [] kind text f

abbrev pub op : List ℕ → Forest → Forest
op text f = word token.Op text f

-- a variable and a number, and what follows them
abbrev pub variable : List ℕ → Forest → Forest
variable text f = node kind.Variable (word token.Variable text none) f

abbrev pub number : List ℕ → Forest → Forest
number text f = node kind.Number (word token.Int text none) f

-- a node of the source, as a draft
abbrev pub as_it_stands : Tree → NewTree
as_it_stands t = (t.0, unchanged t.1)

-- an edit: where its span begins and ends, and its text
abbrev pub shown : Edit → ℕ × ℕ × List ℕ
shown e = (e.span.start, e.span.end, e.text)

-- A node that begins at 0 gets these edits, and becomes this node.
pub record Writes (change : NewTree → NewTree) (t : Tree) (list : List (ℕ × ℕ × List ℕ)) (becomes : Tree)
    : Type 0 where
  pub edits : map shown (edits_from 0 (joined (pieces (change (as_it_stands t)).1))) ≡ list
  pub tree : rewritten (new_alone (change (as_it_stands t))) ≡ alone becomes
