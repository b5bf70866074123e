-- The trivia before a token once a space stands behind the `#` of each comment that begins `#[`.
use Rattle.std.specs.Prelude.{◌≡◌, ℕ, Bool, true, false, cond, not, ◌&&◌, nat_eq, List, [], ◌∷◌, ◌++◌}
use Rattle.php_tree.specs.declared.version.Version.TheVariants.{V74}
use Rattle.php_spellings.specs.declared.table.Kind.{Kind}
use Rattle.php_spellings.specs.declared.table.Kind.TheVariants.{Comment, Tag}
use Rattle.php_spellings.specs.Bytes.{begins_by}
use Rattle.php_lexer.specs.Modes.{Mode, html, code, named, quoted, offset, property}
use Rattle.php_lexer.specs.Lexed.{Stack}
use Rattle.php_relexing.specs.Tiles.{Tile, tile, joined}
use Rattle.php_relexing.specs.Spelled.{Steps}
use Rattle.tracked_changes.specs.Pieces.{after}
use Rattle.syntax_rules.specs.HashComment.{outside, spaced}
use Rattle.written_tokens.specs.tokens.Levels.{stack_of}
use Rattle.written_tokens.specs.tiles.ContinuesAs.{is_trivia}
use Rattle.written_tokens.specs.tiles.IsRewrittenTo.{IsRewrittenTo}
use Rattle.written_tokens.specs.tiles.Going.{any_stops}
use Rattle.written_tokens.specs.tiles.Edits.{all_trivia}

-- whether a tile is a comment that begins `#[`
abbrev pub is_hash : Kind → ℕ → List ℕ → Bool
is_hash Comment b a = nat_eq b 35 && begins_by 91 a
is_hash _ b a = false

abbrev pub spaced_tile : Tile → Tile
spaced_tile (tile kind b a) = cond (is_hash kind b a) (tile kind b (32 ∷ a)) (tile kind b a)

-- the tiles with a space behind the `#` of each such comment
abbrev pub spaced_trivia : List Tile → List Tile
spaced_trivia [] = []
spaced_trivia (t ∷ ts) = spaced_tile t ∷ spaced_trivia ts

-- The bytes of such trivia are those that the rule on comments writes.
abbrev pub SpacedAreWritten : Type 0
SpacedAreWritten =
    (stack : Stack) (trivia rest : List Tile) →
    all_trivia trivia ≡ true →
    Steps V74 stack (trivia ++ rest) →
    after (spaced outside (joined trivia)) ≡ joined (spaced_trivia trivia)

abbrev pub is_tag : Kind → Bool
is_tag Tag = true
is_tag _ = false

-- whether trivia that begin in a mode lead to code: those behind a tag do from inline HTML
abbrev pub lead_to_code : Mode → List Tile → Bool
lead_to_code code ts = true
lead_to_code html [] = false
lead_to_code html (tile kind b a ∷ ts) = is_tag kind
lead_to_code named ts = false
lead_to_code (quoted mark label fresh) ts = false
lead_to_code offset ts = false
lead_to_code property ts = false

-- Trivia become trivia with these spaces.
abbrev pub TriviaBecome : Type 0
TriviaBecome =
    (m : Mode) (trivia : List Tile) →
    all_trivia trivia ≡ true →
    lead_to_code m trivia ≡ true →
    IsRewrittenTo false (any_stops trivia) m code trivia (spaced_trivia trivia)

-- whether no tile is a comment that begins `#[`
abbrev pub none_hash : List Tile → Bool
none_hash [] = true
none_hash (tile kind b a ∷ ts) = not (is_hash kind b a) && none_hash ts

-- They are trivia, and none is a comment that begins `#[`.
abbrev pub SpacedAreTrivia : Type 0
SpacedAreTrivia =
    (trivia : List Tile) →
    all_trivia trivia ≡ true →
    (all_trivia (spaced_trivia trivia) ≡ true) × (none_hash (spaced_trivia trivia) ≡ true)

-- In inline HTML trivia begin with a tag.
abbrev pub TagsLead : Type 0
TagsLead =
    (below : List Mode) (depth : ℕ) (kind : Kind) (b : ℕ) (a : List ℕ) (ts : List Tile) →
    is_trivia kind ≡ true →
    Steps V74 (stack_of html below depth) (tile kind b a ∷ ts) →
    is_tag kind ≡ true
