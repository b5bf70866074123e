-- Files that 7.4 reads keep their meaning.
use Rattle.std.specs.Prelude.{◌≡◌, ℕ, List, [], ◌∷◌, All, Option}
use Rattle.php_tree.specs.declared.token.TokenKind.TheVariants as token
use Rattle.php_tree.specs.declared.token.Token.{Token}
use Rattle.php_tree.specs.declared.version.Version.TheVariants.{V74}
use Rattle.php_tree.specs.Tree.{Forest, none, leaf, node, File}
use Rattle.php_shapes.specs.Shapes.{Shape}
use Rattle.php_reading.specs.Reading.{Reads}
use Rattle.php_meaning.specs.runs.World.{Bytes}
use Rattle.php_meaning.specs.runs.Run.{Mark}
use Rattle.php_meaning.specs.laws.Laws.{KeepsMeaning}
use Rattle.syntax_rules.specs.NestedTernary.{program}
use Rattle.syntax_rules.specs.declared.rules.Rules.{Rules}
use Rattle.syntax_rules.specs.Keeps.{AreFormed, all_rewritten_by}

-- No trivia stand before the name in `${name`.
abbrev pub NamesAreDirect : Forest → Type 0
NamesAreDirect none = Unit {0}
NamesAreDirect (leaf t f) = (t.kind ≡ token.VarName → t.lead ≡ []) × NamesAreDirect f
NamesAreDirect (node k c f) = NamesAreDirect c × NamesAreDirect f

-- In a file with the shape of the grammar the parts of the nodes that a rule changes are as the rules take them, where no
-- trivia stand before the name in `${name`.
abbrev pub ShapedFilesAreFormed : Type 0
ShapedFilesAreFormed = (f : File) → Shape V74 f → NamesAreDirect f.statements → AreFormed f.statements

-- In a file that 7.4 reads no trivia stand there.
abbrev pub ReadNamesAreDirect : Type 0
ReadNamesAreDirect = (bytes : List ℕ) (f : File) → Reads V74 bytes f → NamesAreDirect f.statements

-- Rewriting files with the shape of the grammar by the rules on syntax that are on, whichever they are, changes no run that
-- stays inside the profile and asks at no point where the versions differ. No trivia stand before the name in `${name`, as in no file that 7.4 reads.
abbrev pub ShapedFilesKeepMeaning : Type 0
ShapedFilesKeepMeaning =
    (r : Rules) (files : List (Bytes × File)) (prepend : Option Bytes) (marks : List Mark)
    → All (λ f. Shape V74 f.1) files → All (λ f. NamesAreDirect f.1.statements) files
    → KeepsMeaning (program files prepend) marks (program (all_rewritten_by r files) prepend)
