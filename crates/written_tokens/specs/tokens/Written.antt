-- The tokens of a written file.
use Rattle.std.specs.Prelude.{◌≡◌, ℕ, Bool, true, false, not, ◌&&◌, ◌||◌, List, [], ◌∷◌, ◌++◌, map}
use Rattle.php_tree.specs.declared.version.Version.TheVariants.{V74, V83}
use Rattle.php_tree.specs.declared.token.TokenKind.{TokenKind}
use Rattle.php_tree.specs.declared.token.TokenKind.TheVariants as token
use Rattle.php_tree.specs.declared.kind.NodeKind.{NodeKind}
use Rattle.php_tree.specs.declared.kind.NodeKind.TheVariants as kind
use Rattle.php_tree.specs.Tree.{Forest, none, leaf, node, File, file_leaves, file_printed}
use Rattle.php_spellings.specs.Bytes.{begins_by}
use Rattle.php_lexer.specs.Modes.{begins_arrow}
use Rattle.php_lexer.specs.Lexed.{Lexeme, start, lexeme, TokensOf}
use Rattle.php_relexing.specs.Tiles.{Tile}
use Rattle.php_relexing.specs.Spelled.{Steps, spelled}
use Rattle.tracked_changes.specs.Pieces.{after}
use Rattle.tracked_changes.specs.Draft.{NewToken, Draft, no_more, new_leaf, new_node, FileDraft, rewritten_file}
use Rattle.written_tokens.specs.tokens.Names.{all_common}
use Rattle.written_tokens.specs.tokens.Whole.{whole_tokens, all_apart}

-- ---- texts with `?->` behind a simple variable (RFC "Nullsafe operator": from 8.0 on it belongs to the variable)

-- whether a text begins with `?->` and a letter
abbrev pub begins_question : List ℕ → Bool
begins_question [] = false
begins_question (b ∷ bs) = begins_by 63 (b ∷ bs) && begins_arrow bs

abbrev pub is_piece : TokenKind → Bool
is_piece token.Piece = true
is_piece _ = false

abbrev pub is_variable_node : NodeKind → Bool
is_variable_node kind.Variable = true
is_variable_node _ = false

abbrev pub is_quoted_node : NodeKind → Bool
is_quoted_node kind.Quoted = true
is_quoted_node _ = false

-- whether a piece of text that begins so is first
abbrev pub piece_questions : Forest → Bool
piece_questions (leaf t f) = is_piece t.kind && begins_question t.text
piece_questions _ = false

-- whether such a piece stands directly behind a variable among the parts of a quoted text
abbrev pub has_nullsafe : Forest → Bool
has_nullsafe none = false
has_nullsafe (leaf t f) = has_nullsafe f
has_nullsafe (node k c f) = is_variable_node k && piece_questions f || has_nullsafe f

-- whether no quoted text has such a piece
abbrev pub is_safe : Forest → Bool
is_safe none = true
is_safe (leaf t f) = is_safe f
is_safe (node k c f) = not (is_quoted_node k && has_nullsafe c) && (is_safe c && is_safe f)

abbrev pub NoNullsafeText : File → Type 0
NoNullsafeText f = is_safe f.statements ≡ true

-- ---- what a draft's tokens are

-- a token of a draft, without its place
abbrev pub new_lexeme : NewToken → Lexeme
new_lexeme t = record { kind = t.kind; lead = after t.lead; text = after t.text }

-- the tokens of a draft, in order
abbrev pub draft_tokens : Draft → List NewToken
draft_tokens no_more = []
draft_tokens (new_leaf t d) = t ∷ draft_tokens d
draft_tokens (new_node k c d) = draft_tokens c ++ draft_tokens d

abbrev pub file_tokens : FileDraft → List NewToken
file_tokens d = draft_tokens d.statements ++ d.end ∷ []

-- The tokens of the file that a draft rewrites are those of the draft.
abbrev pub RewrittenHasTokens : Type 0
RewrittenHasTokens = (d : FileDraft) → map lexeme (file_leaves (rewritten_file d)) ≡ map new_lexeme (file_tokens d)

-- ---- written files

-- A file has its tokens in 8.3, once written.
abbrev pub HasTokens : File → Type 0
HasTokens f = TokensOf V83 (file_printed f) (file_leaves f)

-- A rewritten file has its tokens in 8.3, where 7.4 has a row of tokens and trivia with the same ones but for names, and
-- 8.3 takes this row as 7.4 does.
abbrev pub RowsAreWritten : Type 0
RowsAreWritten =
    (d : FileDraft) (us : List Tile) →
    Steps V74 start us →
    all_common us ≡ true →
    all_apart us ≡ true →
    whole_tokens (spelled [] us) ≡ map new_lexeme (file_tokens d) →
    HasTokens (rewritten_file d)
