-- What the shape of the 7.4 grammar says of braces, quoted texts and first tokens.
use Rattle.php_tree.specs.declared.version.Version.TheVariants.{V74}
use Rattle.php_tree.specs.Tree.{File}
use Rattle.php_shapes.specs.Shapes.{Shape}
use Rattle.syntax_rules.specs.Quotable.{AreQuotable}
use Rattle.rewritten_shapes.specs.paired.Paired.{Paired}
use Rattle.rewritten_shapes.specs.paired.Traits.{PlainTraits}

-- In a file with the shape of the grammar each quoted text is one that is walked.
abbrev pub QuotedTextsAreWalked : Type 0
QuotedTextsAreWalked = (f : File) → Shape V74 f → AreQuotable f.statements

-- In a file with the shape of the grammar braces stand in pairs and quoted texts are whole, where its uses of traits have
-- neither between their own braces.
abbrev pub ShapedFilesArePaired : Type 0
ShapedFilesArePaired = (f : File) → Shape V74 f → PlainTraits f.statements → Paired f.statements
