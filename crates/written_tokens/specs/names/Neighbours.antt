-- What may stand directly behind one another, of two tokens in order.
use Rattle.std.specs.Prelude.{Bool, true, false, not, ◌&&◌, ◌||◌}
use Rattle.php_tree.specs.declared.token.TokenKind.{TokenKind}
use Rattle.php_tree.specs.declared.token.TokenKind.TheVariants as token
use Rattle.php_spellings.specs.Bytes.{begins, is_empty, is_letter}
use Rattle.php_lexer.specs.Lexed.{Lexeme}
use Rattle.written_tokens.specs.tokens.Whole.{is_backslash, is_keyword_kind, is_label_kind, is_namespace}
use Rattle.written_tokens.specs.tokens.Written.{begins_question, is_piece}

-- what stands directly behind `\` is a label, if it begins with a letter
abbrev pub is_labelled : Lexeme → Lexeme → Bool
is_labelled t u =
    not (is_backslash t.kind t.text && is_empty u.lead && begins is_letter u.text) || is_label_kind u.kind

-- no `\` stands directly behind a keyword but `namespace`
abbrev pub is_parted : Lexeme → Lexeme → Bool
is_parted t u =
    not (is_keyword_kind t.kind && not (is_namespace t.text) && is_backslash u.kind u.text && is_empty u.lead)

abbrev pub is_variable_kind : TokenKind → Bool
is_variable_kind token.Variable = true
is_variable_kind _ = false

-- no piece that begins with `?->` and a letter stands directly behind a variable
abbrev pub is_safe : Lexeme → Lexeme → Bool
is_safe t u = not (is_variable_kind t.kind && is_piece u.kind && begins_question u.text)
