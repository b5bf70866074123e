-- The faults of tokens among those of reading.
use Rattle.php_lexer.specs.declared.fault.LexFault.{LexFault}
use Rattle.php_lexer.specs.declared.fault.LexFault.TheVariants as lex
use Rattle.php_reading.specs.declared.fault.ReadFault.{ReadFault}
use Rattle.php_reading.specs.declared.fault.ReadFault.TheVariants as read

-- the fault of reading that a fault of tokens is
abbrev pub of_lexing : LexFault → ReadFault
of_lexing (lex.OpenText at) = read.OpenText at
of_lexing (lex.OpenComment at) = read.OpenComment at
of_lexing (lex.OpenHeredoc at) = read.OpenHeredoc at
of_lexing (lex.BadByte at) = read.BadByte at
of_lexing lex.TooLong = read.TooLong
of_lexing lex.Memory = read.Memory
