-- Files whose quoted texts are all walked: each `${` stands before a name or before an expression.
use Rattle.std.specs.Prelude.{◌≡◌, Bool, true, false, not, ◌&&◌, ◌||◌, if◌then◌else◌, codes}
use Rattle.php_tree.specs.declared.token.Token.{Token}
use Rattle.php_tree.specs.Tree.{Forest, none, leaf, node}
use Rattle.tracked_changes.specs.Draft.{NewToken}
use Rattle.tracked_changes.specs.Tokens.{is_text}
use Rattle.syntax_rules.specs.DollarBrace.{is_dollar_brace, is_piece}
use Rattle.syntax_rules.specs.HashComment.{hash_comment}
use Rattle.syntax_rules.specs.SplitName.{is_label, is_backslash, is_namespace}
use Rattle.syntax_rules.specs.Together.{is_quoted}

-- whether a token can't be one with a name behind it
abbrev pub is_loose : NewToken → Bool
is_loose t = not (is_backslash t) && not (is_label t.kind || is_namespace t)

-- a token that is neither `${` nor a piece of text
abbrev pub is_plain : Token → Bool
is_plain t = not (is_dollar_brace t.kind) && not (is_piece t.kind)

abbrev pub is_bracket : Token → Bool
is_bracket t = is_text (codes "[") (hash_comment t)

-- What must come next in a quoted text: the parts behind `${` in order, or anything.
pub data Place : Type 0 where
  anything : Place
  name : Place
  -- behind the name: `[`, or another token
  mark : Place
  offset : Place
  -- behind the offset: `]`
  shut : Place
  expression : Place
  -- behind the expression: `}`
  close : Place

-- what must come behind `${`, in front of these parts
abbrev pub place_behind : Forest → Place
place_behind none = name
place_behind (leaf t f) = name
place_behind (node k c f) = expression

-- Whether each `${` of a quoted text stands before a name and an offset or another token, or before an expression and its
-- `}`, and no token of the text itself begins a name.
abbrev pub is_quotable : Place → Forest → Bool
is_quotable anything none = true
is_quotable anything (leaf t f) =
    if is_dollar_brace t.kind then is_quotable (place_behind f) f else is_loose (hash_comment t) && is_quotable anything f
is_quotable anything (node k c f) = is_quotable anything f
is_quotable name (leaf t f) = is_plain t && is_quotable mark f
is_quotable mark (leaf t f) =
    is_plain t && (if is_bracket t then is_quotable offset f else is_loose (hash_comment t) && is_quotable anything f)
is_quotable offset (node k c f) = is_quotable shut f
is_quotable shut (leaf t f) = is_plain t && is_quotable anything f
is_quotable expression (node k c f) = is_quotable close f
is_quotable close (leaf t f) = is_plain t && is_quotable anything f
is_quotable p f = false

-- whether each quoted text in these parts, however deep, is one that is walked
abbrev pub AreQuotable : Forest → Type 0
AreQuotable none = Unit {0}
AreQuotable (leaf t f) = AreQuotable f
AreQuotable (node k c f) = (is_quoted k ≡ true → is_quotable anything c ≡ true) × AreQuotable c × AreQuotable f
