-- What it is for a version to read bytes as a tree.
use Rattle.std.specs.Prelude.{◌≡◌, ℕ, ◌<◌, ◌≤◌, List, length, Result, Ok, Err}
use Rattle.php_tree.specs.declared.file.FileTree.{FileTree}
use Rattle.php_tree.specs.declared.token.Token.{Token}
use Rattle.php_tree.specs.declared.version.Version.{Version}
use Rattle.php_tree.specs.Tree.{File}
use Rattle.php_tree.specs.Whole.{file}
use Rattle.php_rows.specs.declared.file.RowTree.{RowTree}
use Rattle.php_rows.specs.File.{file_in}
use Rattle.php_lexer.specs.declared.fault.LexFault.TheVariants as lex
use Rattle.php_lexer.specs.Lexed.{TokensOf, StopsAt, byte_limit}
use Rattle.php_parser.specs.Files.{ReadsFile}
use Rattle.php_reading.specs.declared.fault.ReadFault.{ReadFault}
use Rattle.php_reading.specs.declared.fault.ReadFault.TheVariants.{OpenText, OpenComment, OpenHeredoc, BadByte, TooLong, NotInGrammar, Memory}

-- Some tokens are those of the bytes, and the tree is that of the tokens, within the depth of the version.
pub record Reads (v : Version) (bytes : List ℕ) (f : File) : Type 0 where
  pub tokens : List Token
  pub lexed : TokensOf v bytes tokens
  pub parsed : ReadsFile v tokens f

-- The bytes have tokens, but the tokens no tree within the depth of the version.
pub record HasNoTree (v : Version) (bytes : List ℕ) : Type 0 where
  pub within : length bytes ≤ byte_limit
  pub tokens : List Token
  pub lexed : TokensOf v bytes tokens
  pub none : (f : File) → ReadsFile v tokens f → ⊥

-- Why a version doesn't read bytes. Want of memory has no cause in the bytes, but comes within the limit alone.
abbrev pub IsFault : Version → List ℕ → ReadFault → Type 0
IsFault v bytes (OpenText at) = StopsAt v bytes (lex.OpenText at)
IsFault v bytes (OpenComment at) = StopsAt v bytes (lex.OpenComment at)
IsFault v bytes (OpenHeredoc at) = StopsAt v bytes (lex.OpenHeredoc at)
IsFault v bytes (BadByte at) = StopsAt v bytes (lex.BadByte at)
IsFault v bytes TooLong = byte_limit < length bytes
IsFault v bytes NotInGrammar = HasNoTree v bytes
IsFault v bytes Memory = length bytes ≤ byte_limit

-- a fault in place of this tree: there are too many bytes, or memory ran out
abbrev pub InPlaceOf : ReadFault → File → Type 0
InPlaceOf (OpenText at) f = ⊥
InPlaceOf (OpenComment at) f = ⊥
InPlaceOf (OpenHeredoc at) f = ⊥
InPlaceOf (BadByte at) f = ⊥
InPlaceOf TooLong f = Unit {0}
InPlaceOf NotInGrammar f = ⊥
InPlaceOf Memory f = Unit {0}

-- The answer is this tree, unless there are too many bytes or memory ran out.
abbrev pub Answers : Result FileTree ReadFault → File → Type 0
Answers (Ok tree) f = file tree ≡ f
Answers (Err e) f = InPlaceOf e f

-- the same of a row
abbrev pub AnswersRow : Result RowTree ReadFault → File → Type 0
AnswersRow (Ok tree) f = file_in tree ≡ f
AnswersRow (Err e) f = InPlaceOf e f

-- a fault in place of this one: memory ran out
abbrev pub InPlaceOfFault : ReadFault → ReadFault → Type 0
InPlaceOfFault Memory fault = Unit {0}
InPlaceOfFault e fault = e ≡ fault

-- The answer is this fault, unless memory ran out.
abbrev pub Refuses : Result FileTree ReadFault → ReadFault → Type 0
Refuses (Ok tree) fault = ⊥
Refuses (Err e) fault = InPlaceOfFault e fault

-- the same of a row
abbrev pub RefusesRow : Result RowTree ReadFault → ReadFault → Type 0
RefusesRow (Ok tree) fault = ⊥
RefusesRow (Err e) fault = InPlaceOfFault e fault
