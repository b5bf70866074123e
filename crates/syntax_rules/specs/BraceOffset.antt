-- Offsets in braces. 8.0 took `$a{0}` away; `$a[0]` is the same. (RFC "Deprecate curly brace syntax for accessing array
-- elements and string offsets", UPGRADING 8.0.)
use Rattle.std.specs.Prelude.{Bool, true, false, if◌then◌else◌, [], ◌∷◌, codes}
use Rattle.php_tree.specs.declared.token.TokenKind.TheVariants as token
use Rattle.php_tree.specs.declared.kind.NodeKind.{NodeKind}
use Rattle.php_tree.specs.declared.kind.NodeKind.TheVariants as kind
use Rattle.php_tree.specs.Tree.{none}
use Rattle.tracked_changes.specs.Draft.{NewToken, Draft, no_more, new_leaf, new_node}
use Rattle.tracked_changes.specs.Tokens.{is_text, retexted}
use Rattle.tracked_changes.specs.Walk.{NewTree, NodesKeepBytes}
use Rattle.syntax_rules.specs.Written.{op, variable, number, Writes}

-- The place: an offset in braces. None is kept, and none is undecided.
abbrev pub is_brace_offset : NodeKind → Bool
is_brace_offset kind.BraceOffset = true
is_brace_offset _ = false

-- a brace becomes a bracket
abbrev pub bracket : NewToken → NewToken
bracket t =
    if is_text (codes "{") t then retexted token.Op (codes "[") t
    else (if is_text (codes "}") t then retexted token.Op (codes "]") t else t)

-- the node's own tokens, each brace a bracket
abbrev pub bracketed : Draft → Draft
bracketed no_more = no_more
bracketed (new_leaf t d) = new_leaf (bracket t) (bracketed d)
bracketed (new_node k c d) = new_node k c (bracketed d)

-- The edit: brackets for the braces, two edits.
abbrev pub brace_offset : NewTree → NewTree
brace_offset t = (kind.Offset, bracketed t.1)

-- `$a{0}` becomes `$a[0]`
abbrev pub BraceRow : Type 0
BraceRow = Writes brace_offset
    (kind.BraceOffset, variable (codes "$a") (op (codes "{") (number (codes "0") (op (codes "}") none))))
    ((2, 3, codes "[") ∷ (4, 5, codes "]") ∷ [])
    (kind.Offset, variable (codes "$a") (op (codes "[") (number (codes "0") (op (codes "]") none))))

-- The edit keeps the source's bytes, and writes what the row says.
abbrev pub BraceOffsetIsWritten : Type 0
BraceOffsetIsWritten = NodesKeepBytes brace_offset × BraceRow
