-- Casts `(unset)`. 8.0 took the cast away; its value was null. (RFC "Deprecations for PHP 7.2", UPGRADING 8.0.)
use Rattle.std.specs.Prelude.{Bool, true, false, not, ◌&&◌, [], ◌∷◌, codes}
use Rattle.php_tree.specs.declared.token.TokenKind.{TokenKind}
use Rattle.php_tree.specs.declared.token.TokenKind.TheVariants as token
use Rattle.php_tree.specs.declared.kind.NodeKind.{NodeKind}
use Rattle.php_tree.specs.declared.kind.NodeKind.TheVariants as kind
use Rattle.php_tree.specs.Tree.{Forest, none, leaf, node, Tree}
use Rattle.tracked_changes.specs.Pieces.{changed, before}
use Rattle.tracked_changes.specs.Draft.{NewToken, Draft, no_more, new_leaf, new_node, pieces}
use Rattle.tracked_changes.specs.Tokens.{put_also}
use Rattle.tracked_changes.specs.Leads.{first_lead, without_lead}
use Rattle.tracked_changes.specs.Walk.{NewTree, NodesKeepBytes}
use Rattle.syntax_rules.specs.Casts.{is_cast_by}
use Rattle.syntax_rules.specs.Written.{word, word_behind, op, Writes}

-- The place: a cast `(unset)`. None is kept.
abbrev pub is_unset_cast : Tree → Bool
is_unset_cast = is_cast_by (codes "(unset)")

-- whether a node of this kind with a token of this kind is a plain variable
abbrev pub is_variable : NodeKind → TokenKind → Bool
is_variable kind.Variable token.Variable = true
is_variable _ _ = false

-- whether the operand is a plain variable
abbrev pub of_variable : Forest → Bool
of_variable (leaf cast (node k (leaf t none) none)) = is_variable k t.kind
of_variable _ = false

-- It is edited where its operand is a plain variable, and is else undecided for its shape.
abbrev pub is_edited : Tree → Bool
is_edited t = is_unset_cast t && of_variable t.1

abbrev pub is_undecided : Tree → Bool
is_undecided t = is_unset_cast t && not (of_variable t.1)

-- the opening parenthesis, in the place of the whole node; the trivia before it stay
abbrev pub opening : Draft → NewToken
opening d = record {
  kind = token.Op;
  lead = first_lead d;
  text = changed (before (pieces (without_lead d))) (codes "(") ∷ [];
}

-- The edit: the node becomes `(null)`, one edit.
abbrev pub unset_cast : NewTree → NewTree
unset_cast t = (
  kind.Paren,
  new_leaf (opening t.1)
      (new_node kind.Constant (new_leaf (put_also token.Label (codes "null")) no_more)
      (new_leaf (put_also token.Op (codes ")")) no_more)),
)

-- ` (unset) $a` becomes ` (null)`
abbrev pub UnsetRow : Type 0
UnsetRow = Writes unset_cast (
  kind.Cast,
  word_behind (codes " ") token.Cast (codes "(unset)")
      (node kind.Variable (word_behind (codes " ") token.Variable (codes "$a") none) none),
)
    ((1, 11, codes "(null)") ∷ []) (
      kind.Paren,
      word_behind (codes " ") token.Op (codes "(")
          (node kind.Constant (word token.Label (codes "null") none) (op (codes ")") none)),
    )

-- The edit keeps the source's bytes, and writes what the row says.
abbrev pub UnsetCastIsWritten : Type 0
UnsetCastIsWritten = NodesKeepBytes unset_cast × UnsetRow
