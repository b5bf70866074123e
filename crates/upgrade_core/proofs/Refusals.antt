-- Bytes that 7.4 refuses have no tree, and what it reads has the shape of its grammar.
use Rattle.std.proofs.Common.{◌≢◌, ◌≤◌, ℕ, List, length, Err, refl, arith}
use Rattle.php_tree.specs.declared.version.Version.TheVariants.{V74}
use Rattle.php_tree.specs.Tree.{File}
use Rattle.php_shapes.specs.Shapes.{Shape}
use Rattle.php_shapes.proofs.Walked.{file_has_shape}
use Rattle.php_reading.specs.declared.fault.ReadFault.{ReadFault}
use Rattle.php_reading.specs.declared.fault.ReadFault.TheVariants.{OpenText, OpenComment, OpenHeredoc, BadByte, TooLong, NotInGrammar, Memory}
use Rattle.php_reading.specs.Reading.{Reads, AnswersRow, IsFault}

pub refused : (bytes : List ℕ) (fault : ReadFault) → length bytes ≤ 1048576
    → ((f : File) → Reads V74 bytes f → AnswersRow (Err fault) f)
    → IsFault V74 bytes fault → fault ≢ Memory → (f : File) → Reads V74 bytes f → ⊥
refused bytes (OpenText at) h a i m f r = a f r
refused bytes (OpenComment at) h a i m f r = a f r
refused bytes (OpenHeredoc at) h a i m f r = a f r
refused bytes (BadByte at) h a i m f r = a f r
refused bytes TooLong h a i m f r = omega arith
refused bytes NotInGrammar h a i m f r = a f r
refused bytes Memory h a i m f r = absurd (m refl)

pub shaped : (bytes : List ℕ) (f : File) → Reads V74 bytes f → Shape V74 f
shaped bytes f r = (file_has_shape V74 r.tokens f r.parsed).0
