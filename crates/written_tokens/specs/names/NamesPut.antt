-- From the row of a draft's tokens to that with spaces before names and none inside.
use Rattle.std.specs.Prelude.{◌≡◌, true, false, List, [], ◌∷◌, ◌++◌, map}
use Rattle.php_tree.specs.declared.version.Version.TheVariants.{V74}
use Rattle.php_tree.specs.Tree.{File}
use Rattle.php_lexer.specs.Lexed.{Lexeme, start}
use Rattle.php_relexing.specs.Tiles.{Tile}
use Rattle.php_relexing.specs.Spelled.{Steps, spelled}
use Rattle.tracked_changes.specs.Pieces.{before, after}
use Rattle.tracked_changes.specs.Draft.{NewToken}
use Rattle.syntax_rules.specs.SplitName.{is_nothing}
use Rattle.written_tokens.specs.tokens.Written.{new_lexeme, draft_tokens}
use Rattle.written_tokens.specs.tokens.Parted.{parted, NamesStay}
use Rattle.written_tokens.specs.tokens.Spaced.{nameless_draft, spaces_put, PartsHaveText}
use Rattle.written_tokens.specs.names.Named.{Named, none_dollar}

-- A token has trivia once the changes are made exactly where it had some before.
abbrev pub LeadsStay : List NewToken → Type 0
LeadsStay [] = Unit {0}
LeadsStay (t ∷ ts) = (is_nothing (after t.lead) ≡ is_nothing (before t.lead)) × LeadsStay ts

-- So has each token of a file's draft.
abbrev pub LeadsOfFilesStay : Type 0
LeadsOfFilesStay = (f : File) → LeadsStay (draft_tokens (nameless_draft f).statements)

-- The row with these spaces put in and these trivia gone.
pub record NamesRow (us : List Tile) (ts : List NewToken) (end : Lexeme) : Type 0 where
  pub row : List Tile
  pub put : Named false us row
  pub steps : Steps V74 start row
  pub tokens : spelled [] row ≡ map new_lexeme (parted (spaces_put false ts)) ++ end ∷ []

-- A row of a draft's tokens has such a row.
abbrev pub NamesArePut : Type 0
NamesArePut =
    (us : List Tile) (ts : List NewToken) (end : Lexeme) →
    none_dollar us ≡ true →
    PartsHaveText ts →
    LeadsStay ts →
    NamesStay (spaces_put false ts) →
    Steps V74 start us →
    spelled [] us ≡ map new_lexeme ts ++ end ∷ [] →
    NamesRow us ts end
