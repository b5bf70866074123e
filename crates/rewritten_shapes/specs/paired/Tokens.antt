-- Tokens of code by their kinds and texts.
use Rattle.std.specs.Prelude.{◌≡◌, ℕ, Bool, true, false, not, ◌&&◌, ◌||◌, List, [], ◌∷◌}
use Rattle.php_tree.specs.declared.token.Token.{Token}
use Rattle.php_tree.specs.declared.token.TokenKind.{TokenKind}
use Rattle.php_tree.specs.declared.token.TokenKind.TheVariants as token
use Rattle.php_tree.specs.Tree.{Forest, none, leaf, node}
use Rattle.php_lexer.specs.Modes.{is_byte}

-- whether tokens of the kind stand in code or in inline HTML, and none of them opens a mode but `{`
abbrev pub is_code_kind : TokenKind → Bool
is_code_kind token.InlineHtml = true
is_code_kind token.OpenEcho = true
is_code_kind token.Variable = true
is_code_kind token.Label = true
is_code_kind token.Keyword = true
is_code_kind token.Int = true
is_code_kind token.Float = true
is_code_kind token.Text = true
is_code_kind token.Cast = true
is_code_kind token.Op = true
is_code_kind token.Semi = true
is_code_kind token.Close = true
is_code_kind _ = false

abbrev pub is_op : TokenKind → Bool
is_op token.Op = true
is_op _ = false

-- whether the token is an operator or a bracket of this byte alone
abbrev pub is_mark : ℕ → Token → Bool
is_mark b t = is_op t.kind && is_byte b t.text

-- the same in equations
pub record IsMark (b : ℕ) (t : Token) : Type 0 where
  pub kind : t.kind ≡ token.Op
  pub text : t.text ≡ b ∷ []

-- whether the token is one of code or inline HTML, and neither a brace nor a round bracket: `(` is 40, `)` 41, `{` 123 and
-- `}` 125
abbrev pub is_code_token : Token → Bool
is_code_token t =
    is_code_kind t.kind && not (is_mark 40 t || (is_mark 41 t || (is_mark 123 t || is_mark 125 t)))

-- whether a quoted text begins with a token of the kind
abbrev pub opens_text : TokenKind → Bool
opens_text token.Quote = true
opens_text token.HeredocStart = true
opens_text token.Backtick = true
opens_text _ = false

-- whether one of these parts is an operator or a bracket
abbrev pub has_stop : Forest → Bool
has_stop none = false
has_stop (leaf t f) = is_op t.kind || has_stop f
has_stop (node k c f) = has_stop f

-- whether a token of the kind stands at an edge of code: it is inline HTML, `<?=` or `?>`
abbrev pub is_edge : TokenKind → Bool
is_edge token.InlineHtml = true
is_edge token.OpenEcho = true
is_edge token.Close = true
is_edge _ = false

-- whether there are tokens, and the first is none of these
abbrev pub begins_inside : List Token → Bool
begins_inside [] = false
begins_inside (t ∷ ts) = not (is_edge t.kind)

-- whether there are tokens, and the last is none of these
abbrev pub ends_inside : List Token → Bool
ends_inside [] = false
ends_inside (t ∷ []) = not (is_edge t.kind)
ends_inside (t ∷ u ∷ ts) = ends_inside (u ∷ ts)
