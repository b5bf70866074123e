-- Names with `\` among tokens: several in 7.4, one in 8.3 (RFC "Treat namespaced names as single token").
use Rattle.std.specs.Prelude.{◌≡◌, ℕ, Bool, true, false, cond, not, ◌&&◌, ◌||◌, nat_eq, List, [], ◌∷◌, ◌++◌, codes}
use Rattle.std.specs.Str.{bytes_eq, str_to_ascii_lowercase}
use Rattle.php_tree.specs.declared.version.Version.TheVariants.{V74, V83}
use Rattle.php_tree.specs.declared.token.TokenKind.{TokenKind}
use Rattle.php_tree.specs.declared.token.TokenKind.TheVariants as token
use Rattle.php_spellings.specs.declared.table.Kind.{Kind}
use Rattle.php_spellings.specs.declared.table.Kind.TheVariants.{Word, Label, Keyword, Op}
use Rattle.php_spellings.specs.Bytes.{is_empty, begins_by}
use Rattle.php_spellings.specs.Words.{is_keyword}
use Rattle.php_lexer.specs.Lexed.{Lexeme, Stack, Lexed}
use Rattle.php_relexing.specs.Tiles.{Tile, tile, joined}
use Rattle.php_relexing.specs.Spelled.{Steps, spelled}
use Rattle.written_tokens.specs.tokens.Names.{is_rooted, whole_names, all_common, is_unnamed}

-- ---- tokens

abbrev pub is_label_kind : TokenKind → Bool
is_label_kind token.Label = true
is_label_kind _ = false

abbrev pub is_name_kind : TokenKind → Bool
is_name_kind token.Name = true
is_name_kind _ = false

abbrev pub is_keyword_kind : TokenKind → Bool
is_keyword_kind token.Keyword = true
is_keyword_kind _ = false

abbrev pub is_op_kind : TokenKind → Bool
is_op_kind token.Op = true
is_op_kind _ = false

-- the word `namespace`, in any case
abbrev pub is_namespace : List ℕ → Bool
is_namespace text = bytes_eq (str_to_ascii_lowercase text) (codes "namespace")

-- what a name begins with, by its kind and text: a label, or `namespace`
abbrev pub begins_label : TokenKind → List ℕ → Bool
begins_label kind text = is_label_kind kind || is_keyword_kind kind && is_namespace text

abbrev pub is_backslash : TokenKind → List ℕ → Bool
is_backslash kind text = is_op_kind kind && bytes_eq text (codes "\\")

-- what goes on a name behind `\`: a label, or a name that begins with one
abbrev pub goes_on_name : TokenKind → List ℕ → Bool
goes_on_name kind text = is_label_kind kind || is_name_kind kind && not (begins_by 92 text)

-- whether two neighbours are one name
abbrev pub is_one : TokenKind → List ℕ → TokenKind → List ℕ → Bool
is_one k t j u =
    is_backslash k t && goes_on_name j u || begins_label k t && (is_name_kind j && begins_by 92 u)

-- a token in front of others, where names are whole: nothing stands inside a name
abbrev pub before_tokens : Lexeme → List Lexeme → List Lexeme
before_tokens t [] = t ∷ []
before_tokens t (u ∷ us) =
    cond (is_one t.kind t.text u.kind u.text && is_empty u.lead)
    (record { kind = token.Name; lead = t.lead; text = t.text ++ u.text } ∷ us) (t ∷ u ∷ us)

-- the tokens with each name one token
abbrev pub whole_tokens : List Lexeme → List Lexeme
whole_tokens [] = []
whole_tokens (t ∷ ts) = before_tokens t (whole_tokens ts)

-- ---- names apart from other words

-- whether a keyword is first, or a label behind `->` or in a simple offset
abbrev pub begins_other : List Tile → Bool
begins_other [] = false
begins_other (tile Word b a ∷ ts) = is_keyword (b ∷ a)
begins_other (tile Label b a ∷ ts) = true
begins_other (tile _ b a ∷ ts) = false

abbrev pub begins_rooted : List Tile → Bool
begins_rooted [] = false
begins_rooted (tile k c e ∷ ts) = is_rooted k c

-- Whether a name in the row that follows is apart: no keyword but `namespace` stands directly before its `\`, and none
-- directly behind a `\`.
abbrev pub is_apart : Kind → ℕ → List ℕ → List Tile → Bool
is_apart Op b a ts = not (nat_eq b 92) || is_empty a && not (begins_other ts)
is_apart Word b a ts = not (is_keyword (b ∷ a)) || is_namespace (b ∷ a) || not (begins_rooted ts)
is_apart Label b a ts = not (begins_rooted ts)
is_apart Keyword b a ts = not (is_namespace (b ∷ a))
is_apart _ b a ts = true

abbrev pub all_apart : List Tile → Bool
all_apart [] = true
all_apart (tile kind b a ∷ ts) = is_apart kind b a (whole_names ts) && all_apart ts

-- Bytes that 8.3 takes as 7.4 does, with names apart from other words, have in 8.3 the tokens of 7.4, with each name one
-- token.
abbrev pub TokensInNewer : Type 0
TokensInNewer =
    (stack : Stack) (lead : List ℕ) (ts : List Tile) →
    is_unnamed stack ≡ true →
    all_common ts ≡ true →
    all_apart ts ≡ true →
    Steps V74 stack ts →
    Lexed V83 stack lead (joined ts) (whole_tokens (spelled lead ts))
