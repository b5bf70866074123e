-- The row of 7.4 of a file's draft by all rules on syntax but that on names.
use Rattle.std.specs.Prelude.{◌≡◌, ℕ, Bool, true, false, not, ◌&&◌, nat_eq, List, [], ◌∷◌, ◌++◌, map}
use Rattle.php_tree.specs.declared.version.Version.TheVariants.{V74}
use Rattle.php_tree.specs.Tree.{File}
use Rattle.php_spellings.specs.declared.table.Kind.{Kind}
use Rattle.php_spellings.specs.declared.table.Kind.TheVariants.{Comment, DollarBrace}
use Rattle.php_spellings.specs.Bytes.{begins_by}
use Rattle.php_lexer.specs.Lexed.{start}
use Rattle.php_relexing.specs.Tiles.{Tile, tile}
use Rattle.php_relexing.specs.Spelled.{Steps, spelled}
use Rattle.php_reading.specs.Reading.{Reads}
use Rattle.written_tokens.specs.tokens.Written.{new_lexeme, draft_tokens}
use Rattle.written_tokens.specs.tokens.Spaced.{nameless_draft}
use Rattle.rewritten_shapes.specs.paired.Traits.{PlainTraits}

-- whether a tile is neither `${` nor a comment that begins `#[`
abbrev pub is_clean : Kind → ℕ → List ℕ → Bool
is_clean DollarBrace b a = false
is_clean Comment b a = not (nat_eq b 35 && begins_by 91 a)
is_clean _ b a = true

abbrev pub all_clean : List Tile → Bool
all_clean [] = true
all_clean (tile kind b a ∷ ts) = is_clean kind b a && all_clean ts

-- A row of tokens and trivia of 7.4 whose tokens are those of the draft, without `${` and comments that begin `#[`.
pub record DraftRow (f : File) : Type 0 where
  pub row : List Tile
  pub steps : Steps V74 start row
  pub clean : all_clean row ≡ true
  pub same :
      spelled [] row
      ≡ map new_lexeme (draft_tokens (nameless_draft f).statements) ++ new_lexeme (nameless_draft f).end ∷ []

-- A file that 7.4 reads has such a row, where its uses of traits are as PHP has them.
abbrev pub DraftsHaveRows : Type 0
DraftsHaveRows =
    (bytes : List ℕ) (f : File) → Reads V74 bytes f → PlainTraits f.statements → DraftRow f
