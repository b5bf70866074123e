-- Rows whose names lose the trivia inside, and get a space before them.
use Rattle.std.specs.Prelude.{◌≡◌, ℕ, Bool, true, false, not, ◌&&◌, ◌||◌, nat_eq, List, [], ◌∷◌, ◌++◌}
use Rattle.php_tree.specs.declared.version.Version.TheVariants.{V74}
use Rattle.php_spellings.specs.declared.table.Kind.{Kind}
use Rattle.php_spellings.specs.declared.table.Kind.TheVariants.{Space, Comment, Word, Op, DollarBrace}
use Rattle.php_spellings.specs.Bytes.{is_space}
use Rattle.php_lexer.specs.Lexed.{start}
use Rattle.php_relexing.specs.Tiles.{Tile, tile}
use Rattle.php_relexing.specs.Spelled.{Steps}
use Rattle.written_tokens.specs.tiles.ContinuesAs.{is_trivia}
use Rattle.written_tokens.specs.names.Leads.{none_hash}

abbrev pub all_space : List ℕ → Bool
all_space [] = true
all_space (b ∷ bs) = is_space b && all_space bs

-- whether a tile is white space or a comment, as code has them
abbrev pub is_blank : Kind → ℕ → List ℕ → Bool
is_blank Space b a = is_space b && all_space a
is_blank Comment b a = nat_eq b 35 || nat_eq b 47
is_blank _ b a = false

abbrev pub all_blank : List Tile → Bool
all_blank [] = true
all_blank (tile kind b a ∷ ts) = is_blank kind b a && all_blank ts

-- Named gap ts us: the second tiles are the first ones, but for a space before a `\`, and for trivia before a `\` and behind
-- it, before a word, that are gone; in a gap, directly behind trivia, nothing changes before a `\`.
pub data Named : Bool → List Tile → List Tile → Type 0 where
  none : {gap : Bool} → Named gap [] []
  same :
      {gap : Bool} {ts us : List Tile} (kind : Kind) (b : ℕ) (a : List ℕ) →
      Named (is_trivia kind) ts us →
      Named gap (tile kind b a ∷ ts) (tile kind b a ∷ us)
  spaced :
      {ts us : List Tile} →
      Named false (tile Op 92 [] ∷ ts) (tile Op 92 [] ∷ us) →
      Named false (tile Op 92 [] ∷ ts) (tile Space 32 [] ∷ tile Op 92 [] ∷ us)
  closed :
      {ts us : List Tile} (trivia : List Tile) →
      all_blank trivia ≡ true →
      Named false (tile Op 92 [] ∷ ts) (tile Op 92 [] ∷ us) →
      Named false (trivia ++ tile Op 92 [] ∷ ts) (tile Op 92 [] ∷ us)
  rooted :
      {gap : Bool} {ts us : List Tile} (trivia : List Tile) (b : ℕ) (a : List ℕ) →
      all_blank trivia ≡ true →
      Named false (tile Word b a ∷ ts) (tile Word b a ∷ us) →
      Named gap (tile Op 92 [] ∷ trivia ++ tile Word b a ∷ ts) (tile Op 92 [] ∷ tile Word b a ∷ us)

abbrev pub is_dollar_brace : Kind → Bool
is_dollar_brace DollarBrace = true
is_dollar_brace _ = false

-- whether no tile is `${`
abbrev pub none_dollar : List Tile → Bool
none_dollar [] = true
none_dollar (tile kind b a ∷ ts) = not (is_dollar_brace kind) && none_dollar ts

-- Such rows stay rows of 7.4, where no `${` stands in them.
abbrev pub NamedSteps : Type 0
NamedSteps =
    (gap : Bool) (ts us : List Tile) →
    none_dollar ts ≡ true →
    Named gap ts us →
    Steps V74 start ts →
    Steps V74 start us

abbrev pub all_tiles : (Kind → ℕ → List ℕ → Bool) → List Tile → Bool
all_tiles p [] = true
all_tiles p (tile kind b a ∷ ts) = p kind b a && all_tiles p ts

-- What is true of each tile and of a space stays so.
abbrev pub NamedKeeps : Type 0
NamedKeeps =
    (p : Kind → ℕ → List ℕ → Bool) (gap : Bool) (ts us : List Tile) →
    Named gap ts us →
    p Space 32 [] ≡ true →
    all_tiles p ts ≡ true →
    all_tiles p us ≡ true

-- No `${` and no comment that begins `#[` comes in.
abbrev pub NoneComeIn : Type 0
NoneComeIn =
    (gap : Bool) (ts us : List Tile) →
    Named gap ts us →
    (none_dollar ts ≡ true → none_dollar us ≡ true) × (none_hash ts ≡ true → none_hash us ≡ true)
