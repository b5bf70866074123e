-- The reading of what is written for files that 7.4 reads.
use Rattle.std.specs.Prelude.{◌≡◌, ℕ, Bool, true, not, ◌&&◌, ◌||◌, List}
use Rattle.php_tree.specs.declared.version.Version.TheVariants.{V74, V83}
use Rattle.php_tree.specs.Tree.{Forest, none, leaf, node, File}
use Rattle.php_reading.specs.Reading.{Reads}
use Rattle.syntax_rules.specs.Rewritten.{rewritten}
use Rattle.rewritten_shapes.specs.Laws.{NoneReported}
use Rattle.written_tokens.specs.tokens.Written.{NoNullsafeText, HasTokens, is_quoted_node}
use Rattle.written_reading.specs.Laws.{IsRead}
use Rattle.written_reading.specs.Parted.{HasRow}
use Rattle.rewritten_shapes.specs.paired.Traits.{PlainTraits, is_trait_use}

-- A file that 7.4 reads has the row of 7.4 that its rewriting needs, where no simple variable of a quoted text stands
-- directly before `?->` and a letter, and its uses of traits are as PHP has them.
abbrev pub FilesHaveRows : Type 0
FilesHaveRows =
    (bytes : List ℕ) (f : File) →
    Reads V74 bytes f →
    NoNullsafeText f →
    PlainTraits f.statements →
    HasRow f

-- So it has the tokens of 8.3 once it is rewritten.
abbrev pub WrittenFilesAreLexed : Type 0
WrittenFilesAreLexed =
    (bytes : List ℕ) (f : File) →
    Reads V74 bytes f →
    NoNullsafeText f →
    PlainTraits f.statements →
    HasTokens (rewritten f)

-- 8.3 reads from the bytes of the rewritten file this file and no other, where the rules also report nothing that stops
-- compiling.
abbrev pub WrittenFilesAreRead : Type 0
WrittenFilesAreRead =
    (bytes : List ℕ) (f : File) →
    Reads V74 bytes f →
    NoneReported f.statements →
    NoNullsafeText f →
    PlainTraits f.statements →
    IsRead V83 (rewritten f)

-- whether no node is a quoted text or a use of traits
abbrev pub has_neither : Forest → Bool
has_neither none = true
has_neither (leaf t f) = has_neither f
has_neither (node k c f) = not (is_quoted_node k || is_trait_use k) && (has_neither c && has_neither f)

-- What a file without such nodes has is had by nearly every file: it is plain.
abbrev pub FilesWithNeitherArePlain : Type 0
FilesWithNeitherArePlain =
    (f : File) → has_neither f.statements ≡ true →
    NoNullsafeText f × PlainTraits f.statements
