-- The texts of tokens that a name is made of.
use Rattle.std.specs.Prelude.{ℕ, List}
use Rattle.php_tree.specs.declared.version.Version.TheVariants.{V74}
use Rattle.php_tree.specs.Tree.{File}
use Rattle.php_reading.specs.Reading.{Reads}
use Rattle.written_tokens.specs.tokens.Written.{draft_tokens}
use Rattle.written_tokens.specs.tokens.Spaced.{nameless_draft, PartsHaveText}

-- In each file that 7.4 reads, once edited, parts of names have a text in the source.
abbrev pub PartsHaveTexts : Type 0
PartsHaveTexts =
    (bytes : List ℕ) (f : File) →
    Reads V74 bytes f →
    PartsHaveText (draft_tokens (nameless_draft f).statements)
