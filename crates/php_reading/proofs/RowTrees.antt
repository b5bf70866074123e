-- Trees as rows.
use Rattle.std.proofs.Common.{◌≡◌, ◌≤◌, ℕ, List, Err, length, map, sym, subst}
use Rattle.php_exprs.specs.declared.fault.ParseFault.{ParseFault}
use Rattle.php_exprs.specs.declared.fault.ParseFault.TheVariants.{NotInGrammar}
use Rattle.php_terminals.specs.declared.mark.Mark.{Mark}
use Rattle.php_terminals.specs.Marked.{token_at}
use Rattle.php_lexer.specs.Lexed.{TokensOf, byte_limit}
use Rattle.php_reading.specs.Reading.{Reads, HasNoTree}
use Rattle.php_reading.proofs.Trees.{reads_of}
use Rattle.php_reading.proofs.Causes.{without_tree}
use Rattle.php_tree.specs.declared.token.Token.{Token}
use Rattle.php_tree.specs.declared.version.Version.{Version}
use Rattle.php_tree.specs.Tree.{File}
use Rattle.php_parser.specs.Files.{Answers, AnswersRow, ReadsFile}

-- the tokens of a slice of the bytes, and of the marks
tokens_for : (v : Version) (b bytes : List ℕ) (ms : List Mark) → b ≡ bytes → TokensOf v b (map (token_at b) ms) → TokensOf v bytes (map (token_at bytes) ms)
tokens_for v b bytes ms e p = subst (λ (x : List ℕ). TokensOf v x (map (token_at x) ms)) e p

pub row_reads : (v : Version) (b bytes : List ℕ) (ms : List Mark) (g : File) → b ≡ bytes
    → TokensOf v b (map (token_at b) ms) → ReadsFile v (map (token_at bytes) ms) g → Reads v bytes g
row_reads v b bytes ms g e q r = reads_of v bytes (map (token_at bytes) ms) g (tokens_for v b bytes ms e q) r

none_of : (v : Version) (bytes : List ℕ) (ts : List Token) (e : ParseFault) → e ≡ NotInGrammar
    → ((f : File) → ReadsFile v ts f → AnswersRow (Err e) f) → (f : File) → ReadsFile v ts f → Answers (Err e) f
none_of v bytes ts e is only f p = subst (λ (x : ParseFault). AnswersRow (Err x) f → Answers (Err x) f) (sym is) (λ h. h) (only f p)

pub row_none : (v : Version) (b bytes : List ℕ) (ms : List Mark) (e : ParseFault) → b ≡ bytes → length b ≤ byte_limit → TokensOf v b (map (token_at b) ms) → e ≡ NotInGrammar
    → ((f : File) → ReadsFile v (map (token_at bytes) ms) f → AnswersRow (Err e) f) → HasNoTree v bytes
row_none v b bytes ms e x le q is only =
    without_tree v bytes (map (token_at bytes) ms) e (subst (λ (u : List ℕ). length u ≤ byte_limit) x le)
    (tokens_for v b bytes ms x q) is (none_of v bytes (map (token_at bytes) ms) e is only)

pub short_for : (b bytes : List ℕ) → b ≡ bytes → length b ≤ byte_limit → length bytes ≤ byte_limit
short_for b bytes e h = subst (λ (x : List ℕ). length x ≤ byte_limit) e h
