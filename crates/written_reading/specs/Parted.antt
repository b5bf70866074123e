-- Files that 7.4 has a row of tokens for, once they are rewritten but for the joining of names.
use Rattle.std.specs.Prelude.{◌≡◌, ℕ, true, List, [], ◌∷◌, ◌++◌, map}
use Rattle.php_tree.specs.declared.version.Version.TheVariants.{V74}
use Rattle.php_tree.specs.Tree.{File}
use Rattle.php_lexer.specs.Lexed.{start}
use Rattle.php_relexing.specs.Tiles.{Tile}
use Rattle.php_relexing.specs.Spelled.{Steps, spelled}
use Rattle.php_reading.specs.Reading.{Reads}
use Rattle.syntax_rules.specs.Rewritten.{rewritten}
use Rattle.written_tokens.specs.tokens.Names.{all_common}
use Rattle.written_tokens.specs.tokens.Whole.{all_apart}
use Rattle.written_tokens.specs.tokens.Written.{new_lexeme, draft_tokens, HasTokens}
use Rattle.written_tokens.specs.tokens.Drafted.{names_within}
use Rattle.written_tokens.specs.tokens.Parted.{parted, NamesStay}
use Rattle.written_tokens.specs.tokens.Spaced.{nameless_draft, in_parts, PartsHaveText}

-- In 7.4 the rewritten bytes have a row of tokens and trivia that is the draft's, with names in parts, and 8.3 takes the row
-- as 7.4 does.
pub record HasRow (f : File) : Type 0 where
  pub row : List Tile
  pub within : names_within (nameless_draft f).statements ≡ true
  pub texts : PartsHaveText (draft_tokens (nameless_draft f).statements)
  pub stay : NamesStay (in_parts f)
  pub steps : Steps V74 start row
  pub common : all_common row ≡ true
  pub apart : all_apart row ≡ true
  pub same : spelled [] row ≡ map new_lexeme (parted (in_parts f)) ++ new_lexeme (nameless_draft f).end ∷ []

-- A file that 7.4 reads and that has such a row has the tokens of 8.3 once it is rewritten.
abbrev pub RowsAreLexed : Type 0
RowsAreLexed = (bytes : List ℕ) (f : File) → Reads V74 bytes f → HasRow f → HasTokens (rewritten f)
