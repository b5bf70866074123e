-- Bytes without an edit: 8.3 has the tokens and trivia of 7.4, but for names, which are one token.
use Rattle.std.specs.Prelude.{◌≡◌, ℕ, Bool, true, false, cond, not, ◌&&◌, ◌||◌, nat_eq, List, [], ◌∷◌, ◌++◌}
use Rattle.php_tree.specs.declared.version.Version.TheVariants.{V74, V83}
use Rattle.php_spellings.specs.declared.table.Kind.{Kind}
use Rattle.php_spellings.specs.declared.table.Kind.TheVariants.{Comment, Variable, Word, Name, Op, Piece, DollarBrace}
use Rattle.php_spellings.specs.Bytes.{is_letter, begins, begins_by}
use Rattle.php_lexer.specs.Modes.{Mode, html, code, named, quoted, offset, property, begins_arrow}
use Rattle.php_lexer.specs.Lexed.{Stack}
use Rattle.php_relexing.specs.Tiles.{Tile, tile, joined}
use Rattle.php_relexing.specs.Spelled.{Steps}

-- ---- names with `\` (RFC "Treat namespaced names as single token")

-- whether what begins with a byte goes on a name behind `\`: a word, or a name that begins with a label
abbrev pub goes_on_root : Kind → ℕ → Bool
goes_on_root Word c = true
goes_on_root Name c = not (nat_eq c 92)
goes_on_root _ c = false

-- whether it is a name that begins with `\`
abbrev pub is_rooted : Kind → ℕ → Bool
is_rooted Name c = nat_eq c 92
is_rooted _ c = false

-- whether two neighbours, by their kinds and first bytes, are one name
abbrev pub are_one : Kind → ℕ → Kind → ℕ → Bool
are_one Op b k c = nat_eq b 92 && goes_on_root k c
are_one Word b k c = is_rooted k c
are_one _ b k c = false

-- a token or a piece of trivia in front of others, where names are whole
abbrev pub in_front : Kind → ℕ → List ℕ → List Tile → List Tile
in_front kind b a [] = tile kind b a ∷ []
in_front kind b a (tile k c e ∷ us) =
    cond (are_one kind b k c) (tile Name b (a ++ c ∷ e) ∷ us) (tile kind b a ∷ tile k c e ∷ us)

-- the row with each name one token
abbrev pub whole_names : List Tile → List Tile
whole_names [] = []
whole_names (tile kind b a ∷ ts) = in_front kind b a (whole_names ts)

-- ---- what 8.3 takes otherwise

-- whether a word comes next
abbrev pub begins_word : List Tile → Bool
begins_word [] = false
begins_word (tile Word b a ∷ ts) = true
begins_word (tile _ b a ∷ ts) = false

-- whether a piece of text that begins with `?->` and a letter comes next (RFC "Nullsafe operator")
abbrev pub begins_nullsafe : List Tile → Bool
begins_nullsafe [] = false
begins_nullsafe (tile Piece b a ∷ ts) = nat_eq b 63 && begins_arrow (a ++ joined ts)
begins_nullsafe (tile _ b a ∷ ts) = false

-- Whether 8.3 takes it as 7.4 does, where these follow: it is no comment that begins `#[`, no `${`, no variable directly
-- before `?->` and a letter in a text, and no `\` before a letter but of a word.
abbrev pub is_common : Kind → ℕ → List ℕ → List Tile → Bool
is_common DollarBrace b a ts = false
is_common Comment b a ts = not (nat_eq b 35 && begins_by 91 a)
is_common Variable b a ts = not (begins_nullsafe ts)
is_common Op b a ts = not (nat_eq b 92 && begins is_letter (joined ts)) || begins_word ts
is_common _ b a ts = true

abbrev pub all_common : List Tile → Bool
all_common [] = true
all_common (tile kind b a ∷ ts) = is_common kind b a ts && all_common ts

-- whether a mode is that behind `${`
abbrev pub is_named : Mode → Bool
is_named html = false
is_named code = false
is_named named = true
is_named (quoted mark label fresh) = false
is_named offset = false
is_named property = false

abbrev pub none_named : List Mode → Bool
none_named [] = true
none_named (m ∷ ms) = not (is_named m) && none_named ms

-- whether no mode of a stack is that behind `${`
abbrev pub is_unnamed : Stack → Bool
is_unnamed stack = none_named (stack.top ∷ stack.below)

-- Bytes that 8.3 takes as 7.4 does have in 8.3 the tokens and trivia of 7.4, with each name one token.
abbrev pub SameInNewer : Type 0
SameInNewer =
    (stack : Stack) (ts : List Tile) →
    is_unnamed stack ≡ true →
    all_common ts ≡ true →
    Steps V74 stack ts →
    Steps V83 stack (whole_names ts)
