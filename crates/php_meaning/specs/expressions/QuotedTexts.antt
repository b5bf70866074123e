-- Scripts of quoted texts. (PHP manual, "Strings": double quoted, heredoc, "Variable parsing".)
use Rattle.std.specs.Prelude.{ℕ, zero, suc, Bool, true, false, not, ◌==◌, ◌&&◌, ◌||◌, cond, if◌then◌else◌, List, [], ◌∷◌, ◌++◌, codes, Option, Some, None}
use Rattle.std.specs.Str.{bytes_eq}
use Rattle.php_tree.specs.declared.token.TokenKind.{TokenKind}
use Rattle.php_tree.specs.declared.token.TokenKind.TheVariants as token
use Rattle.php_meaning.specs.values.Value.{Value, Text, Object}
use Rattle.php_meaning.specs.Cause.{NoRule, Outcome}
use Rattle.php_meaning.specs.values.Convert.{to_text}
use Rattle.php_meaning.specs.literals.Escapes.{unescaped, kept_quotes}
use Rattle.php_meaning.specs.literals.Nowdocs.{is_blank, is_line_end, blanks}
use Rattle.php_meaning.specs.values.Offsets.{Strict, at_offset}
use Rattle.php_meaning.specs.runs.World.{Bytes, Store}
use Rattle.scope_names.specs.Form.{Form, Word, Child}
use Rattle.php_meaning.specs.runs.Stores.{cells_of, held_or_null, variable_cell}
use Rattle.php_meaning.specs.runs.Script.{Script, Stop, Look, give, child_value, given, came_then}

-- ---- variables

-- the object that the code runs in; without one `$this` is outside
abbrev pub object_then : Option ℕ → (Value → Script) → Script
object_then None k = Stop NoRule
object_then (Some n) k = k (Object n)

-- The variables that PHP fills by itself and that have no meaning here. (PHP manual, "Predefined Variables"; writing to
-- `$GLOBALS` as a whole, and a reference to it, is refused from 8.1 on.)
abbrev pub is_outside_variable : Bytes → Bool
is_outside_variable name =
    bytes_eq name (codes "GLOBALS") || bytes_eq name (codes "_SERVER") || bytes_eq name (codes "_COOKIE")
    || bytes_eq name (codes "_FILES") || bytes_eq name (codes "_ENV") || bytes_eq name (codes "_REQUEST")
    || bytes_eq name (codes "_SESSION")

-- the variables that PHP fills by itself, and the object that one of them holds
abbrev pub is_filled : Bytes → Bool
is_filled name = bytes_eq name (codes "this") || is_outside_variable name

abbrev pub object_of : Bytes → Store → Option ℕ
object_of name s = if bytes_eq name (codes "this") then s.here.this else None

-- the value of a variable, null where there is none
abbrev pub variable_read : Bytes → (Value → Script) → Script
variable_read name k =
    if is_filled name then Look (λ s. object_then (object_of name s) k)
    else Look (λ s. k (held_or_null s (variable_cell name s)))

-- ---- pieces

-- What a text stands in: double quotes, or a heredoc whose closing line has so many blanks in front.
pub data Style : Type 0 where
  InQuotes : Style
  InHeredoc : ℕ → Style

-- a text without so many blanks at the front of each line, where of the first line so many are left
abbrev pub stripped : ℕ → ℕ → Bytes → Bytes
stripped n left [] = []
stripped n zero (b ∷ bs) = b ∷ stripped n (cond (is_line_end b) n zero) bs
stripped n (suc left) (b ∷ bs) =
    cond (is_blank b) (stripped n left bs) (b ∷ stripped n (cond (is_line_end b) n zero) bs)

-- a text without the line end at its end: `\r` and `\n` are one
abbrev pub without_line_end : Bytes → Bytes
without_line_end [] = []
without_line_end (a ∷ []) = if is_line_end a then [] else a ∷ []
without_line_end (a ∷ b ∷ []) =
    if bytes_eq (a ∷ b ∷ []) (codes "\r\n") then [] else a ∷ without_line_end (b ∷ [])
without_line_end (a ∷ b ∷ c ∷ bs) = a ∷ without_line_end (b ∷ c ∷ bs)

-- whether a text ends with a line end
abbrev pub ends_line : Bytes → Bool
ends_line [] = false
ends_line (b ∷ []) = is_line_end b
ends_line (b ∷ c ∷ bs) = ends_line (c ∷ bs)

-- The bytes that a piece writes. In a heredoc the last line end is no part of the text, and blanks go away where a line
-- begins, before escapes are read.
abbrev pub piece : Style → Bool → Bool → Bytes → Outcome Bytes
piece InQuotes is_fresh is_last w = unescaped 0 w
piece (InHeredoc n) is_fresh is_last w =
    unescaped 0 (kept_quotes false (stripped n (cond is_fresh n zero) (cond is_last (without_line_end w) w)))

-- whether a text ends in a `$` that no backslash takes along; true directly behind such a backslash
abbrev pub ends_bare : Bool → Bytes → Bool
ends_bare escaped [] = false
ends_bare escaped (b ∷ []) = not escaped && (b == 36)
ends_bare escaped (b ∷ c ∷ bs) = ends_bare (not escaped && (b == 92)) (c ∷ bs)

-- ---- parts in order

-- Where the next part stands.
pub data Standing : Type 0 where
  -- in the text: where a line begins, or not
  InText : Bool → Standing
  -- behind `{`, and before its `}`
  InCode : Standing
  BeforeBrace : Standing
  -- behind `${`, and behind a variable's name there
  BehindDollar : Standing
  BehindName : Bytes → Standing
  -- behind `[` behind a variable's name, and before its `]`
  InBrackets : Bytes → Standing
  BeforeBracket : Standing

-- by the kind of a token in the text: the closing one, `{`, `${`, or another one
abbrev pub by_mark : TokenKind → Script → Script → Script → Script → Script
by_mark token.QuotedEnd closing curly dollar other = closing
by_mark token.CurlyOpen closing curly dollar other = curly
by_mark token.DollarBrace closing curly dollar other = dollar
by_mark _ closing curly dollar other = other

-- goes on behind a variable's name, which only these may follow: `}`, or an offset
abbrev pub by_name : TokenKind → Bytes → Script → Script → Script
by_name token.Op w shut offset =
    if bytes_eq w (codes "}") then shut else (if bytes_eq w (codes "[") then offset else Stop NoRule)
by_name _ w shut offset = Stop NoRule

abbrev pub if_name : TokenKind → Script → Script
if_name token.VarName k = k
if_name _ k = Stop NoRule

abbrev pub if_operator : TokenKind → Script → Script
if_operator token.Op k = k
if_operator _ k = Stop NoRule

-- whether an operator stands behind a node
abbrev pub is_shut : Form → Bool
is_shut (Child ∷ Word token.Op w ∷ f) = true
is_shut f = false

-- whether the closing token stands here
abbrev pub ends_here : Form → Bool
ends_here (Word token.QuotedEnd w ∷ f) = true
ends_here f = false

-- whether `${` stands here
abbrev pub begins_dollar : Form → Bool
begins_dollar (Word token.DollarBrace w ∷ f) = true
begins_dollar f = false

-- the text of a value, and what then comes
abbrev pub text_then : Value → (Bytes → Script) → Script
text_then v k = given (to_text v) k

-- the text of the value at an offset
abbrev pub text_at : Value → Value → (Bytes → Script) → Script
text_at v key k = Look (λ s. given (at_offset (cells_of s) Strict v key) (came_then (λ w. text_then w k)))

-- The parts from one on, behind the bytes so far, with the number of the next child. A `$` directly before `${` has no rule.
abbrev pub quoted : Style → Standing → Bytes → ℕ → Form → Script
quoted style here bytes i [] = Stop NoRule
quoted style (InText is_fresh) bytes i (Child ∷ f) =
    child_value i (λ v. text_then v (λ t. quoted style (InText false) (bytes ++ t) (suc i) f))
quoted style (InText is_fresh) bytes i (Word k w ∷ f) =
    by_mark k (give (Text bytes)) (quoted style InCode bytes i f) (quoted style BehindDollar bytes i f)
    (cond (begins_dollar f && ends_bare false w) (Stop NoRule)
    (given (piece style is_fresh (ends_here f) w) (λ p. quoted style (InText (ends_line w)) (bytes ++ p) i f)))
quoted style InCode bytes i (Child ∷ f) =
    child_value i (λ v. text_then v (λ t. quoted style BeforeBrace (bytes ++ t) (suc i) f))
quoted style InCode bytes i (Word k w ∷ f) = Stop NoRule
quoted style BeforeBrace bytes i (Child ∷ f) = Stop NoRule
quoted style BeforeBrace bytes i (Word k w ∷ f) = if_operator k (quoted style (InText false) bytes i f)
quoted style BehindDollar bytes i (Child ∷ f) = Stop NoRule
quoted style BehindDollar bytes i (Word k w ∷ f) = if_name k (quoted style (BehindName w) bytes i f)
quoted style (BehindName name) bytes i (Child ∷ f) = Stop NoRule
quoted style (BehindName name) bytes i (Word k w ∷ f) =
    by_name k w (variable_read name (λ v. text_then v (λ t. quoted style (InText false) (bytes ++ t) i f)))
    (cond (is_shut f) (quoted style (InBrackets name) bytes i f) (Stop NoRule))
quoted style (InBrackets name) bytes i (Child ∷ f) =
    child_value i (λ key. variable_read name (λ v. text_at v key (λ t. quoted style BeforeBracket (bytes ++ t) (suc i) f)))
quoted style (InBrackets name) bytes i (Word k w ∷ f) = Stop NoRule
quoted style BeforeBracket bytes i (Child ∷ f) = Stop NoRule
quoted style BeforeBracket bytes i (Word k w ∷ f) = quoted style BeforeBrace bytes i f

-- ---- whole texts

-- the text of the closing token
abbrev pub closing_word : Form → Bytes
closing_word [] = []
closing_word (Word token.QuotedEnd w ∷ f) = w
closing_word (Word k w ∷ f) = closing_word f
closing_word (Child ∷ f) = closing_word f

-- By the opening token. Text in backticks is a command, which is outside, as is a variable that an expression names.
abbrev pub quoted_by : TokenKind → Form → Script
quoted_by token.Quote f = quoted InQuotes (InText false) [] 0 f
quoted_by token.HeredocStart f = quoted (InHeredoc (blanks (closing_word f))) (InText true) [] 0 f
quoted_by _ f = Stop NoRule

abbrev pub quoted_text : Form → Script
quoted_text (Word k w ∷ f) = quoted_by k f
quoted_text f = Stop NoRule
