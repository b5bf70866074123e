-- Rewritten files are read.
use Rattle.std.proofs.Common.{ℕ, ◌≤◌, List, subst}
use Rattle.php_tree.specs.declared.version.Version.{Version}
use Rattle.php_tree.specs.declared.version.Version.TheVariants.{V74, V83}
use Rattle.php_tree.specs.Tree.{File, depth, file_leaves, file_printed}
use Rattle.php_lexer.specs.Lexed.{TokensOf}
use Rattle.php_parser.specs.Files.{ReadsFile, bound}
use Rattle.php_shapes.specs.Shapes.{Shape}
use Rattle.php_shapes.proofs.Walked.{file_has_shape}
use Rattle.php_reading.specs.Reading.{Reads}
use Rattle.php_reading.proofs.Trees.{one_tree}
use Rattle.syntax_rules.specs.Rewritten.{rewritten}
use Rattle.rewritten_shapes.specs.Laws.{AreSpelled, RewrittenHasShape}
use Rattle.rewritten_shapes.proofs.Depths.{rewritten_is_shallow}
use Rattle.written_reading.specs.Laws.{ShapedIsRead, RewrittenIsRead}
use Rattle.written_reading.proofs.Sources.{sources_are_spelled}

-- the texts of a file that 7.4 reads
pub spelled : (bytes : List ℕ) (f : File) → Reads V74 bytes f → AreSpelled f.statements
spelled bytes f r = sources_are_spelled V74 bytes f (subst (TokensOf V74 bytes) r.parsed.text r.lexed)

-- that files with the shape are read
abbrev pub AreRead : Type 0
AreRead = (v : Version) (f : File) → Shape v f → depth f.statements ≤ bound v → ReadsFile v (file_leaves f) f

pub shaped_is_read : AreRead → ShapedIsRead
shaped_is_read file_is_read bytes f r shape tokens =
    let low : depth (rewritten f).statements ≤ 1500 = rewritten_is_shallow f (spelled bytes f r) r.parsed.low in
    let parsed : ReadsFile V83 (file_leaves (rewritten f)) (rewritten f) = file_is_read V83 (rewritten f) shape low in
    let reads : Reads V83 (file_printed (rewritten f)) (rewritten f) = record { tokens = file_leaves (rewritten f); lexed = tokens; parsed = parsed } in
    record { reads = reads; only = λ g h. one_tree V83 (file_printed (rewritten f)) g (rewritten f) h reads }

pub rewritten_is_read : ShapedIsRead → RewrittenHasShape → RewrittenIsRead
rewritten_is_read shaped_is_read shapes bytes f r reported tokens =
    shaped_is_read bytes f r (shapes f (file_has_shape V74 r.tokens f r.parsed).0 (spelled bytes f r) reported) tokens
