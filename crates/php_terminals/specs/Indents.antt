-- The indentation of heredocs and nowdocs (PHP manual, "Strings: Heredoc"; RFC "Flexible Heredoc and Nowdoc Syntaxes"):
-- each line that isn't blank begins with that of the closing line, which is all spaces or all tabs.
use Rattle.std.specs.Prelude.{ℕ, ◌-◌, Bool, true, false, not, cond, ◌&&◌, ◌||◌, nat_eq, nat_lt, List, [], ◌∷◌, length, take_while, slice_index, codes}
use Rattle.php_tree.specs.declared.kind.NodeKind.{NodeKind}
use Rattle.php_tree.specs.declared.kind.NodeKind.TheVariants as k
use Rattle.php_tree.specs.declared.token.Token.{Token}
use Rattle.php_tree.specs.declared.token.TokenKind.{TokenKind}
use Rattle.php_tree.specs.declared.token.TokenKind.TheVariants.{HeredocStart}
use Rattle.php_tree.specs.Tree.{Forest, Tree, none, leaf, node}
use Rattle.php_terminals.specs.declared.terminal.Terminal.{Terminal}
use Rattle.php_terminals.specs.declared.terminal.Terminal.TheVariants as t
use Rattle.php_terminals.specs.Classify.{terminal}
use Rattle.php_terminals.specs.Words.{front, is_word}

-- a space or a tab
abbrev pub is_blank_byte : ℕ → Bool
is_blank_byte b = nat_eq b 32 || nat_eq b 9

-- a byte that ends a line
abbrev pub is_line_end : ℕ → Bool
is_line_end b = nat_eq b 10 || nat_eq b 13

-- how many blanks bytes begin with
abbrev pub blank_len : List ℕ → ℕ
blank_len text = length (take_while is_blank_byte text)

-- whether a line end stands at a place
abbrev pub line_ends_at : ℕ → List ℕ → Bool
line_ends_at at text = cond (nat_lt at (length text)) (is_line_end (slice_index text at)) false

-- whether the line that begins here has only blanks
abbrev pub is_blank_line : List ℕ → Bool
is_blank_line text = line_ends_at (blank_len text) text

-- whether bytes begin with the indentation
abbrev pub starts : List ℕ → List ℕ → Bool
starts indent text = is_word indent (front (length indent) text)

-- whether the line that begins here has the indentation, or only blanks
unfoldable pub line_fits : List ℕ → List ℕ → Bool
line_fits indent text = starts indent text || is_blank_line text

-- whether each line that begins in the bytes fits; `fresh` where one begins at their front
abbrev pub is_indented : List ℕ → Bool → List ℕ → Bool
is_indented indent fresh [] = true
is_indented indent fresh (b ∷ bs) = (not fresh || line_fits indent (b ∷ bs)) && is_indented indent (is_line_end b) bs

-- whether a line begins behind the bytes
abbrev pub ends_line : Bool → List ℕ → Bool
ends_line fresh text = cond (nat_eq (length text) 0) fresh (is_line_end (slice_index text (length text - 1)))

-- the blanks that bytes begin with
abbrev pub margin : List ℕ → List ℕ
margin text = front (blank_len text) text

-- how many of one byte the bytes begin with
abbrev pub run_len : ℕ → List ℕ → ℕ
run_len b text = length (take_while (λ other. nat_eq other b) text)

-- whether blanks are all spaces, or all tabs
abbrev pub is_uniform : List ℕ → Bool
is_uniform indent = nat_eq (run_len 32 indent) (length indent) || nat_eq (run_len 9 indent) (length indent)

-- the last line of a text, where a line has begun
abbrev pub last_line : List ℕ → List ℕ → List ℕ
last_line line [] = line
last_line line (b ∷ bs) = last_line (cond (is_line_end b) bs line) bs

-- whether a text is a nowdoc
abbrev pub is_nowdoc : List ℕ → Bool
is_nowdoc text = is_word (codes "<<<") (front 3 text) || is_word (codes "b<<<") (front 4 text)

-- whether a text is no nowdoc, or one whose lines fit
abbrev pub text_fits : List ℕ → Bool
text_fits text =
    cond (not (is_nowdoc text)) true
    (is_uniform (margin (last_line text text)) && is_indented (margin (last_line text text)) false text)

-- whether a part that is no text may stand here: where no line begins, or none is indented
abbrev pub node_fits : List ℕ → Bool → Bool
node_fits indent fresh = not fresh || nat_eq (length indent) 0

abbrev pub leaf_fits_by : Terminal → List ℕ → Bool → List ℕ → Bool
leaf_fits_by t.Piece indent fresh text = is_indented indent fresh text
leaf_fits_by t.QuotedEnd indent fresh text = true
leaf_fits_by _ indent fresh text = node_fits indent fresh

-- whether a token between the opening and the closing of a heredoc fits
unfoldable pub leaf_fits : List ℕ → Bool → Token → Bool
leaf_fits indent fresh token = leaf_fits_by (terminal token) indent fresh token.text

abbrev pub fresh_by : Terminal → Bool → List ℕ → Bool
fresh_by t.Piece fresh text = ends_line fresh text
fresh_by _ fresh text = false

-- whether a line begins behind a token
unfoldable pub fresh_behind : Bool → Token → Bool
fresh_behind fresh token = fresh_by (terminal token) fresh token.text

-- the text of the last token, or else this one
abbrev pub last_text : List ℕ → Forest → List ℕ
last_text text none = text
last_text text (leaf x f) = last_text x.text f
last_text text (node k c f) = last_text text f

-- whether the lines of a heredoc fit, behind its opening
abbrev pub parts_fit : List ℕ → Bool → Forest → Bool
parts_fit indent fresh none = true
parts_fit indent fresh (leaf x f) = leaf_fits indent fresh x && parts_fit indent (fresh_behind fresh x) f
parts_fit indent fresh (node k c f) = node_fits indent fresh && parts_fit indent false f

abbrev pub is_heredoc_kind : TokenKind → Bool
is_heredoc_kind HeredocStart = true
is_heredoc_kind _ = false

-- whether a token opens a heredoc
abbrev pub is_heredoc : Token → Bool
is_heredoc token = is_heredoc_kind token.kind

-- whether the parts of a heredoc fit
abbrev pub heredoc_fits : Forest → Bool
heredoc_fits f = is_uniform (margin (last_text [] f)) && parts_fit (margin (last_text [] f)) true f

-- whether the parts of a quoted text fit
abbrev pub quoted_fits : Forest → Bool
quoted_fits none = true
quoted_fits (leaf x f) = not (is_heredoc x) || heredoc_fits f
quoted_fits (node k c f) = true

-- whether the parts of a text fit
abbrev pub literal_fits : Forest → Bool
literal_fits none = true
literal_fits (leaf x f) = text_fits x.text
literal_fits (node k c f) = true

abbrev pub misindented_by : NodeKind → Forest → Bool
misindented_by k.Quoted f = not (quoted_fits f)
misindented_by k.Text f = not (literal_fits f)
misindented_by _ f = false

-- whether a node is a heredoc or a nowdoc with a line that lacks the indentation of its closing line
unfoldable pub is_misindented : Tree → Bool
is_misindented x = misindented_by x.0 x.1
