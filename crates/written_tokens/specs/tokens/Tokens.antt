-- Tokens as tokens and trivia in a row.
use Rattle.std.specs.Prelude.{◌≡◌, ℕ, List}
use Rattle.php_tree.specs.declared.version.Version.{Version}
use Rattle.php_lexer.specs.Lexed.{Lexeme, Stack, Lexed}
use Rattle.php_relexing.specs.Tiles.{Tile, joined}
use Rattle.php_relexing.specs.Spelled.{Steps, spelled}

-- Some bytes' tokens, with their trivia in a row.
pub record InARow (v : Version) (stack : Stack) (lead bytes : List ℕ) (ts : List Lexeme) : Type 0 where
  pub tiles : List Tile
  pub steps : Steps v stack tiles
  pub whole : joined tiles ≡ bytes
  pub tokens : spelled lead tiles ≡ ts

-- The tokens of any bytes stand in a row with their trivia, each the longest of the mode that those before leave.
abbrev pub TokensAreTiles : Type 0
TokensAreTiles =
    (v : Version) (stack : Stack) (lead bytes : List ℕ) (ts : List Lexeme) →
    Lexed v stack lead bytes ts →
    InARow v stack lead bytes ts
