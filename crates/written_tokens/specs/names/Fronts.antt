-- The front of a row: the trivia before its first token, the token, and what is left.
use Rattle.std.specs.Prelude.{◌≡◌, ℕ, true, List, [], ◌∷◌, ◌++◌, Some}
use Rattle.php_tree.specs.declared.token.TokenKind.{TokenKind}
use Rattle.php_tree.specs.declared.token.TokenKind.TheVariants.{End}
use Rattle.php_spellings.specs.declared.table.Kind.{Kind}
use Rattle.php_spellings.specs.Words.{token_of}
use Rattle.php_lexer.specs.Lexed.{Lexeme}
use Rattle.php_relexing.specs.Tiles.{Tile, tile, joined}
use Rattle.php_relexing.specs.Spelled.{spelled}
use Rattle.written_tokens.specs.tiles.Edits.{all_trivia}

-- A row that begins with a token: the trivia before it behind those that were read before, the token's tile, and the rest.
pub record Front (before : List ℕ) (row : List Tile) (first : Lexeme) (more : List Lexeme) : Type 0 where
  pub trivia : List Tile
  pub kind : Kind
  pub b : ℕ
  pub a : List ℕ
  pub rest : List Tile
  pub whole : row ≡ trivia ++ tile kind b a ∷ rest
  pub free : all_trivia trivia ≡ true
  pub lead : before ++ joined trivia ≡ first.lead
  pub is : token_of kind (b ∷ a) ≡ Some first.kind
  pub text : b ∷ a ≡ first.text
  pub tokens : spelled [] rest ≡ more

-- A row of more tokens than the end begins so.
abbrev pub FrontOfRow : Type 0
FrontOfRow =
    (before : List ℕ) (row : List Tile) (first : Lexeme) (ts : List Lexeme) (last : Lexeme) (us : List Lexeme) →
    spelled before row ≡ first ∷ ts ++ last ∷ us →
    Front before row first (ts ++ last ∷ us)

-- A row of the end alone is trivia.
pub record LastFront (before : List ℕ) (row : List Tile) (last : Lexeme) : Type 0 where
  pub free : all_trivia row ≡ true
  pub lead : before ++ joined row ≡ last.lead
  pub is : last.kind ≡ End
  pub text : last.text ≡ []

abbrev pub EndOfRow : Type 0
EndOfRow = (before : List ℕ) (row : List Tile) (last : Lexeme) → spelled before row ≡ last ∷ [] → LastFront before row last

-- Trivia go to the lead of the token behind them, and a token's tile is the token.
pub record FrontsAreSpelled : Type 0 where
  pub trivia : (before : List ℕ) (gap rest : List Tile) → all_trivia gap ≡ true → spelled before (gap ++ rest) ≡ spelled (before ++ joined gap) rest
  pub token : (before : List ℕ) (kind : Kind) (b : ℕ) (a : List ℕ) (k : TokenKind) (rest : List Tile)
      → token_of kind (b ∷ a) ≡ Some k → spelled before (tile kind b a ∷ rest) ≡ record
      { kind = k; lead = before; text = b ∷ a } ∷ spelled [] rest
