-- `${` in a quoted text. 8.2 deprecates it; `{$` is the same. (RFC "Deprecate ${} string interpolation"; PHP manual,
-- "Strings: Variable parsing".)
use Rattle.std.specs.Prelude.{ℕ, Bool, true, false, not, ◌==◌, ◌&&◌, if◌then◌else◌, List, [], ◌∷◌, ◌++◌, codes}
use Rattle.php_tree.specs.declared.token.TokenKind.{TokenKind}
use Rattle.php_tree.specs.declared.token.TokenKind.TheVariants as token
use Rattle.php_tree.specs.declared.kind.NodeKind.{NodeKind}
use Rattle.php_tree.specs.declared.kind.NodeKind.TheVariants as kind
use Rattle.php_tree.specs.Tree.{Forest, none, node, Tree}
use Rattle.tracked_changes.specs.Pieces.{Piece, kept, changed, also, before}
use Rattle.tracked_changes.specs.Draft.{NewToken, Draft, no_more, new_leaf, new_node}
use Rattle.tracked_changes.specs.Tokens.{is_text, retexted, put_also}
use Rattle.tracked_changes.specs.Walk.{NewTree, NodesKeepBytes}
use Rattle.syntax_rules.specs.Written.{word, op, variable, number, Writes}

-- The place: each `${` of a quoted text. None is kept, and none is undecided.
abbrev pub is_dollar_brace : TokenKind → Bool
is_dollar_brace token.DollarBrace = true
is_dollar_brace _ = false

-- ---- the edits at `${` and its `}`

-- `{$` for `${`, one edit: the first byte is a token of its own, and the second begins the variable's
abbrev pub curly : NewToken → NewToken
curly t = retexted token.CurlyOpen (codes "{") t

abbrev pub dollar_name : NewToken → NewToken
dollar_name name = record { kind = token.Variable; lead = []; text = also (codes "$") ∷ name.lead ++ name.text }

-- the variable that a name stands for
abbrev pub named : NewToken → Draft → Draft
named name d = new_node kind.Variable (new_leaf (dollar_name name) no_more) d

-- `{$name` for `${name`
abbrev pub plain : NewToken → NewToken → Draft → Draft
plain t name d = new_leaf (curly t) (named name d)

-- `{$name[..]` for `${name[..]`
abbrev pub with_offset : NewToken → NewToken → NewToken → Draft → Draft
with_offset t name mark (new_node k e (new_leaf shut d)) =
    new_leaf (curly t)
    (new_node kind.Offset (named name (new_leaf mark (new_node k e (new_leaf shut no_more)))) d)
with_offset t name mark d = plain t name (new_leaf mark d)

-- `{${..}}` for `${..}`
abbrev pub with_node : NewToken → NodeKind → Draft → Draft → Draft
with_node t k e (new_leaf close d) =
    new_leaf (curly t) (new_node kind.Variable
    (new_leaf (put_also token.Op (codes "$")) (new_leaf (put_also token.Op (codes "{"))
    (new_node k e (new_leaf (retexted token.Op (codes "}") close) no_more))))
    (new_leaf (put_also token.Op (codes "}")) d))
with_node t k e d = new_leaf t (new_node k e d)

-- `${` and what follows it
abbrev pub opened : NewToken → Draft → Draft
opened t (new_leaf name (new_leaf mark d)) =
    if is_text (codes "[") mark then with_offset t name mark d else plain t name (new_leaf mark d)
opened t (new_node k e d) = with_node t k e d
opened t d = new_leaf t d

-- ---- the edit before a `$` that would else belong to the part

-- whether a text ends in a `$` that no backslash takes along: `\` is 92, `$` 36
abbrev pub ends_bare : Bool → List ℕ → Bool
ends_bare escaped [] = false
ends_bare escaped (b ∷ []) = not escaped && (b == 36)
ends_bare escaped (b ∷ c ∷ bs) = ends_bare (not escaped && (b == 92)) (c ∷ bs)

-- a backslash put in before the last byte
abbrev pub before_last : List ℕ → List Piece
before_last [] = []
before_last (b ∷ []) = changed [] (codes "\\") ∷ kept (b ∷ []) ∷ []
before_last (b ∷ c ∷ bs) = kept (b ∷ []) ∷ before_last (c ∷ bs)

-- a piece of text directly before `${`
abbrev pub escaped : NewToken → NewToken
escaped t = if ends_bare false (before t.text) then record t { text = before_last (before t.text) } else t

-- ---- the rule

abbrev pub is_piece : TokenKind → Bool
is_piece token.Piece = true
is_piece _ = false

-- whether `${` stands first
abbrev pub begins_dollar_brace : Draft → Bool
begins_dollar_brace no_more = false
begins_dollar_brace (new_leaf t d) = is_dollar_brace t.kind
begins_dollar_brace (new_node k c d) = false

-- a token of the text, where another one stands behind it or not, and what follows it
abbrev pub part : NewToken → Bool → Draft → Draft
part t behind d =
    if is_dollar_brace t.kind then opened t d
    else new_leaf (if is_piece t.kind && behind then escaped t else t) d

-- the parts of a quoted text
abbrev pub parts : Draft → Draft
parts no_more = no_more
parts (new_leaf t d) = part t (begins_dollar_brace d) (parts d)
parts (new_node k c d) = new_node k c (parts d)

-- The edit of a quoted text.
abbrev pub dollar_brace : NewTree → NewTree
dollar_brace t = (t.0, parts t.1)

-- what stands between double quotes
abbrev pub quoted : Forest → Tree
quoted f = (kind.Quoted, word token.Quote (codes "\"") f)

abbrev pub quote_end : Forest
quote_end = word token.QuotedEnd (codes "\"") none

-- `"a$${b}"` becomes `"a\${$b}"`
abbrev pub NameRow : Type 0
NameRow = Writes dollar_brace
    (quoted (word token.Piece (codes "a$")
    (word token.DollarBrace (codes "${") (word token.VarName (codes "b") (op (codes "}") quote_end)))))
    ((2, 2, codes "\\") ∷ (3, 5, codes "{$") ∷ [])
    (quoted (word token.Piece (codes "a\\$")
    (word token.CurlyOpen (codes "{") (variable (codes "$b") (op (codes "}") quote_end)))))

-- `"${c[0]}"` becomes `"{$c[0]}"`
abbrev pub OffsetRow : Type 0
OffsetRow = Writes dollar_brace
    (quoted (word token.DollarBrace (codes "${") (word token.VarName (codes "c")
    (op (codes "[") (number (codes "0") (op (codes "]") (op (codes "}") quote_end)))))))
    ((1, 3, codes "{$") ∷ [])
    (quoted (word token.CurlyOpen (codes "{")
    (node kind.Offset (variable (codes "$c") (op (codes "[") (number (codes "0") (op (codes "]") none))))
    (op (codes "}") quote_end))))

-- `"${'d'}"` becomes `"{${'d'}}"`
abbrev pub NodeRow : Type 0
NodeRow = Writes dollar_brace
    (quoted (word token.DollarBrace (codes "${")
    (node kind.Text (word token.Text (codes "'d'") none) (op (codes "}") quote_end))))
    ((1, 3, codes "{${") ∷ (6, 7, codes "}}") ∷ [])
    (quoted (word token.CurlyOpen (codes "{")
    (node kind.Variable (op (codes "$") (op (codes "{")
    (node kind.Text (word token.Text (codes "'d'") none) (op (codes "}") none))))
    (op (codes "}") quote_end))))

-- The edits keep the source's bytes, and write what the rows say.
pub record DollarBraceIsWritten : Type 0 where
  pub bytes : NodesKeepBytes dollar_brace
  pub name : NameRow
  pub offset : OffsetRow
  pub expression : NodeRow
