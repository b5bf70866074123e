-- Casts `(real)`. 8.0 took the word away; `(float)` is the same cast. (RFC "Deprecations for PHP 7.4", UPGRADING 8.0.)
use Rattle.std.specs.Prelude.{Bool, [], ◌∷◌, codes}
use Rattle.php_tree.specs.declared.token.TokenKind.TheVariants as token
use Rattle.php_tree.specs.declared.kind.NodeKind.TheVariants as kind
use Rattle.php_tree.specs.Tree.{none, Tree}
use Rattle.tracked_changes.specs.Draft.{Draft, no_more, new_leaf, new_node}
use Rattle.tracked_changes.specs.Tokens.{retexted}
use Rattle.tracked_changes.specs.Walk.{NewTree, NodesKeepBytes}
use Rattle.syntax_rules.specs.Casts.{is_cast_by}
use Rattle.syntax_rules.specs.Written.{word, variable, Writes}

-- The place: a cast `(real)`. None is kept, and none is undecided.
abbrev pub is_real_cast : Tree → Bool
is_real_cast = is_cast_by (codes "(real)")

-- the first token becomes `(float)`
abbrev pub float_first : Draft → Draft
float_first no_more = no_more
float_first (new_leaf t d) = new_leaf (retexted token.Cast (codes "(float)") t) d
float_first (new_node k c d) = new_node k c d

-- The edit: the token becomes `(float)`, one edit.
abbrev pub real_cast : NewTree → NewTree
real_cast t = (t.0, float_first t.1)

-- `( Real )$a` becomes `(float)$a`
abbrev pub RealRow : Type 0
RealRow = Writes real_cast
    (kind.Cast, word token.Cast (codes "( Real )") (variable (codes "$a") none))
    ((0, 8, codes "(float)") ∷ [])
    (kind.Cast, word token.Cast (codes "(float)") (variable (codes "$a") none))

-- The edit keeps the source's bytes, and writes what the row says.
abbrev pub RealCastIsWritten : Type 0
RealCastIsWritten = NodesKeepBytes real_cast × RealRow
