-- Trees of bytes.
use Rattle.std.proofs.Common.{◌≡◌, ℕ, List, sym, ap, ◌∙◌, subst}
use Rattle.php_tree.specs.declared.token.Token.{Token}
use Rattle.php_tree.specs.declared.version.Version.{Version}
use Rattle.php_tree.specs.Tree.{File, file_printed, tokens_bytes}
use Rattle.php_lexer.specs.Lexed.{TokensOf}
use Rattle.php_lexer.proofs.LawProofs.{one_list, no_byte_lost}
use Rattle.php_parser.specs.Files.{ReadsFile}
use Rattle.php_parser.proofs.Files.{one_tree as one_tree_of_tokens}
use Rattle.trivia_printer.proofs.Printed.{file_tokens}
use Rattle.php_reading.specs.Reading.{Reads}

-- a tree of some tokens of the bytes is one of any tokens of the bytes
pub parsed_of : (v : Version) (bytes : List ℕ) (ts us : List Token) (f : File) → TokensOf v bytes ts → TokensOf v bytes us → ReadsFile v ts f → ReadsFile v us f
parsed_of v bytes ts us f p q r = subst (λ (x : List Token). ReadsFile v x f) (one_list v bytes ts us p q) r

pub reads_of : (v : Version) (bytes : List ℕ) (ts : List Token) (f : File) → TokensOf v bytes ts → ReadsFile v ts f → Reads v bytes f
reads_of v bytes ts f p q = record { tokens = ts; lexed = p; parsed = q }

pub one_tree : (v : Version) (bytes : List ℕ) (f g : File) → Reads v bytes f → Reads v bytes g → f ≡ g
one_tree v bytes f g p q = one_tree_of_tokens v q.tokens f g (parsed_of v bytes p.tokens q.tokens f p.lexed q.lexed p.parsed) q.parsed

pub is_printed : (v : Version) (bytes : List ℕ) (f : File) → Reads v bytes f → file_printed f ≡ bytes
is_printed v bytes f p = file_tokens f ∙ sym (ap tokens_bytes p.parsed.text) ∙ no_byte_lost v bytes p.tokens p.lexed
