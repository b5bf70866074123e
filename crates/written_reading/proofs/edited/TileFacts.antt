-- Modes of code and inline HTML, and what is true of tiles in a row where it is true of each part.
use Rattle.std.proofs.Common.{◌≡◌, ℕ, Bool, true, false, cond, not, ◌&&◌, ◌||◌, nat_eq, List, [], ◌∷◌, ◌++◌, refl, ap, ◌∙◌}
use Rattle.std.proofs.lemmas.Bool.{and_parts, and_from}
use Rattle.php_tree.specs.declared.token.Token.{Token}
use Rattle.php_tree.specs.declared.token.TokenKind.{TokenKind}
use Rattle.php_tree.specs.declared.token.TokenKind.TheVariants as token
use Rattle.php_spellings.specs.declared.table.Kind.{Kind}
use Rattle.php_spellings.specs.declared.table.Kind.TheVariants.{Space, Comment, Tag, Op}
use Rattle.php_lexer.specs.Modes.{Mode, html, code}
use Rattle.php_relexing.specs.Tiles.{Tile, tile}
use Rattle.written_tokens.specs.tiles.ContinuesAs.{stops_cast, is_trivia}
use Rattle.written_tokens.specs.tiles.IsRewrittenTo.{gap_behind}
use Rattle.written_tokens.specs.tiles.Going.{any_stops}
use Rattle.written_tokens.specs.tiles.Edits.{all_trivia}
use Rattle.written_reading.specs.edited.Rows.{is_clean, all_clean}

-- ---- modes

-- the mode of inline HTML, or that of code
abbrev pub mode_of : Bool → Mode
mode_of true = html
mode_of false = code

-- whether inline HTML stands behind a token
abbrev pub leaves_html : TokenKind → Bool
leaves_html token.Close = true
leaves_html token.InlineHtml = true
leaves_html _ = false

-- the same for tokens in order
abbrev pub html_behind : Bool → List Token → Bool
html_behind h [] = h
html_behind h (t ∷ ts) = html_behind (leaves_html t.kind) ts

pub html_append : (h : Bool) (ss ts : List Token) → html_behind h (ss ++ ts) ≡ html_behind (html_behind h ss) ts
html_append h [] ts = refl
html_append h (s ∷ ss) ts = html_append (leaves_html s.kind) ss ts

-- ---- casts

-- whether it is `)`
abbrev pub is_shut : Kind → ℕ → Bool
is_shut Op b = nat_eq b 41
is_shut _ b = false

-- whether the first tile that can't stand in a cast is no `)`
abbrev pub stays_open : List Tile → Bool
stays_open [] = true
stays_open (tile kind b a ∷ ts) = cond (stops_cast kind) (not (is_shut kind b)) (stays_open ts)

by_first : (s x y z : Bool) → cond s x y ≡ true → (y ≡ true → z ≡ true) → cond s x z ≡ true
by_first true x y z p q = p
by_first false x y z p q = q p

pub open_append : (ts us : List Tile) → stays_open ts ≡ true → stays_open us ≡ true → stays_open (ts ++ us) ≡ true
open_append [] us p q = q
open_append (tile kind b a ∷ ts) us p q =
    by_first (stops_cast kind) (not (is_shut kind b)) (stays_open ts) (stays_open (ts ++ us)) p (λ h. open_append ts us h q)

pub trivia_open : (ts : List Tile) → all_trivia ts ≡ true → stays_open ts ≡ true
trivia_open [] h = refl
trivia_open (tile Space b a ∷ ts) h = trivia_open ts h
trivia_open (tile Comment b a ∷ ts) h = refl
trivia_open (tile Tag b a ∷ ts) h = refl
trivia_open (tile _ b a ∷ ts) h = absurd cc

-- ---- rows

or_assoc : (a b c : Bool) → (a || (b || c)) ≡ ((a || b) || c)
or_assoc true b c = refl
or_assoc false b c = refl

pub stops_append : (ts us : List Tile) → any_stops (ts ++ us) ≡ (any_stops ts || any_stops us)
stops_append [] us = refl
stops_append (tile kind b a ∷ ts) us =
    ap (λ (x : Bool). stops_cast kind || x) (stops_append ts us) ∙ or_assoc (stops_cast kind) (any_stops ts) (any_stops us)

pub gap_append : (gap : Bool) (ts us : List Tile) → gap_behind gap (ts ++ us) ≡ gap_behind (gap_behind gap ts) us
gap_append gap [] us = refl
gap_append gap (tile kind b a ∷ ts) us = gap_append (is_trivia kind) ts us

pub clean_append : (ts us : List Tile) → all_clean ts ≡ true → all_clean us ≡ true → all_clean (ts ++ us) ≡ true
clean_append [] us p q = q
clean_append (tile kind b a ∷ ts) us p q =
    let h = and_parts (is_clean kind b a) (all_clean ts) p in
    and_from (is_clean kind b a) (all_clean (ts ++ us)) h.0 (clean_append ts us h.1 q)
