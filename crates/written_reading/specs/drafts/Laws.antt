-- Names of drafts.
use Rattle.std.specs.Prelude.{◌≡◌, true}
use Rattle.php_tree.specs.declared.version.Version.TheVariants.{V74}
use Rattle.php_tree.specs.Tree.{File}
use Rattle.php_shapes.specs.Shapes.{Shape}
use Rattle.rewritten_shapes.specs.Laws.{AreSpelled}
use Rattle.rewritten_shapes.specs.paired.Traits.{PlainTraits}
use Rattle.written_tokens.specs.tokens.Drafted.{names_within}
use Rattle.written_tokens.specs.tokens.Parted.{NamesStay}
use Rattle.written_tokens.specs.tokens.Spaced.{nameless_draft, in_parts, PartsHaveText}
use Rattle.written_tokens.specs.tokens.Written.{draft_tokens}

-- In a file with the shape of the grammar, once edited, each name stands within one node.
abbrev pub NamesAreWithin : Type 0
NamesAreWithin =
    (f : File) →
    Shape V74 f →
    AreSpelled f.statements →
    PlainTraits f.statements →
    names_within (nameless_draft f).statements ≡ true

-- The changes leave its names as they are, but for trivia.
abbrev pub NamesOfFilesStay : Type 0
NamesOfFilesStay =
    (f : File) →
    Shape V74 f →
    AreSpelled f.statements →
    PlainTraits f.statements →
    PartsHaveText (draft_tokens (nameless_draft f).statements) →
    NamesStay (in_parts f)
