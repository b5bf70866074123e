-- From tokens and trivia in a row to the tokens of their bytes.
use Rattle.std.specs.Prelude.{◌≡◌, ℕ, suc, List, [], ◌∷◌, ◌++◌, length, Option, Some, None}
use Rattle.php_tree.specs.declared.version.Version.{Version}
use Rattle.php_tree.specs.declared.token.TokenKind.{TokenKind}
use Rattle.php_tree.specs.declared.token.TokenKind.TheVariants.{End}
use Rattle.php_spellings.specs.declared.table.Kind.{Kind}
use Rattle.php_spellings.specs.Words.{token_of}
use Rattle.php_lexer.specs.Modes.{IsLongest}
use Rattle.php_lexer.specs.Lexed.{Lexeme, Stack, Lexed, after}
use Rattle.php_relexing.specs.Tiles.{Tile, tile, joined}

-- Each tile is the longest of the mode that those before leave, and no quoted text is open at the end.
pub data Steps : Version → Stack → List Tile → Type 0 where
  done : {version : Version} {stack : Stack} → stack.depth ≡ 0 → Steps version stack []
  step :
      {version : Version} {stack : Stack} (kind : Kind) (b : ℕ) (a : List ℕ) (ts : List Tile) →
      IsLongest version stack.top (b ∷ a ++ joined ts) kind (suc (length a)) →
      Steps version (after version stack kind (suc (length a)) (b ∷ a ++ joined ts)) ts →
      Steps version stack (tile kind b a ∷ ts)

abbrev pub lexeme_with : Option TokenKind → List ℕ → List ℕ → (List ℕ → List Lexeme) → List Lexeme
lexeme_with None lead text rest = rest (lead ++ text)
lexeme_with (Some kind) lead text rest = record { kind = kind; lead = lead; text = text } ∷ rest []

-- the tokens that tiles spell: trivia go to the token behind them
abbrev pub spelled : List ℕ → List Tile → List Lexeme
spelled lead [] = record { kind = End; lead = lead; text = [] } ∷ []
spelled lead (tile kind b a ∷ ts) = lexeme_with (token_of kind (b ∷ a)) lead (b ∷ a) (λ l. spelled l ts)

-- The joined bytes of such tiles have the tokens that the tiles spell.
abbrev pub TilesAreTokens : Type 0
TilesAreTokens =
    (version : Version) (stack : Stack) (ts : List Tile) (lead : List ℕ) →
    Steps version stack ts →
    Lexed version stack lead (joined ts) (spelled lead ts)
