-- Trees and faults exclude one another.
use Rattle.std.proofs.Common.{◌≡◌, ◌≢◌, ℕ, ◌<◌, ◌≤◌, List, length, Err, refl, ap, arith}
use Rattle.php_tree.specs.declared.token.Token.{Token}
use Rattle.php_tree.specs.declared.version.Version.{Version}
use Rattle.php_tree.specs.Tree.{File}
use Rattle.php_lexer.specs.declared.fault.LexFault.{LexFault}
use Rattle.php_lexer.specs.declared.fault.LexFault.TheVariants as lex
use Rattle.php_lexer.specs.Lexed.{StopsAt, IsFault as IsLexFault, TokensOf, byte_limit}
use Rattle.php_lexer.proofs.LawProofs.{one_stop, not_both}
use Rattle.php_exprs.specs.declared.fault.ParseFault.{ParseFault}
use Rattle.php_exprs.specs.declared.fault.ParseFault.TheVariants as parsing
use Rattle.php_parser.specs.Files.{ReadsFile, Answers as FileAnswers}
use Rattle.php_reading.specs.declared.fault.ReadFault.{ReadFault}
use Rattle.php_reading.specs.declared.fault.ReadFault.TheVariants.{OpenText, OpenComment, OpenHeredoc, BadByte, TooLong, NotInGrammar, Memory}
use Rattle.php_reading.specs.Faults.{of_lexing}
use Rattle.php_reading.specs.Reading.{Reads, HasNoTree, IsFault, InPlaceOf, InPlaceOfFault}
use Rattle.php_reading.proofs.Trees.{parsed_of}

-- a fault of tokens is one of reading
pub fault_of : (v : Version) (bytes : List ℕ) (e : LexFault) → IsLexFault v bytes e → IsFault v bytes (of_lexing e)
fault_of v bytes (lex.OpenText at) p = p
fault_of v bytes (lex.OpenComment at) p = p
fault_of v bytes (lex.OpenHeredoc at) p = p
fault_of v bytes (lex.BadByte at) p = p
fault_of v bytes lex.TooLong p = p
fault_of v bytes lex.Memory p = p

none_of : (v : Version) (ts : List Token) (e : ParseFault) → e ≡ parsing.NotInGrammar → ((f : File) → ReadsFile v ts f → FileAnswers (Err e) f) → (f : File) → ReadsFile v ts f → ⊥
none_of v ts parsing.NotInGrammar p q = q
none_of v ts parsing.Memory p q = absurd cc

-- tokens to which the parser answers that they have no tree
pub without_tree : (v : Version) (bytes : List ℕ) (ts : List Token) (e : ParseFault) → length bytes ≤ byte_limit
    → TokensOf v bytes ts → e ≡ parsing.NotInGrammar → ((f : File) → ReadsFile v ts f → FileAnswers (Err e) f)
    → HasNoTree v bytes
without_tree v bytes ts e h p is q = record { within = h; tokens = ts; lexed = p; none = none_of v ts e is q }

-- ---- no tree where there is a fault

pub no_tree_stopped : (v : Version) (bytes : List ℕ) (f : File) (e : LexFault) → Reads v bytes f → StopsAt v bytes e → ⊥
no_tree_stopped v bytes f e p q = not_both v bytes p.tokens e p.lexed q

pub no_tree : (v : Version) (bytes : List ℕ) (f : File) → Reads v bytes f → HasNoTree v bytes → ⊥
no_tree v bytes f p q = q.none f (parsed_of v bytes p.tokens q.tokens f p.lexed q.lexed p.parsed)

-- bytes that are read as a tree have no fault but their number
pub answers_of : (v : Version) (bytes : List ℕ) (f : File) (e : ReadFault) → IsFault v bytes e → Reads v bytes f → InPlaceOf e f
answers_of v bytes f (OpenText at) q p = no_tree_stopped v bytes f (lex.OpenText at) p q
answers_of v bytes f (OpenComment at) q p = no_tree_stopped v bytes f (lex.OpenComment at) p q
answers_of v bytes f (OpenHeredoc at) q p = no_tree_stopped v bytes f (lex.OpenHeredoc at) p q
answers_of v bytes f (BadByte at) q p = no_tree_stopped v bytes f (lex.BadByte at) p q
answers_of v bytes f TooLong q p = tt
answers_of v bytes f NotInGrammar q p = no_tree v bytes f p q
answers_of v bytes f Memory q p = tt

-- a tree within the limit has no fault
pub tree_has_none : (v : Version) (bytes : List ℕ) (f : File) → length bytes ≤ byte_limit → Reads v bytes f → (e : ReadFault) → e ≢ Memory → IsFault v bytes e → ⊥
tree_has_none v bytes f h p (OpenText at) m q = no_tree_stopped v bytes f (lex.OpenText at) p q
tree_has_none v bytes f h p (OpenComment at) m q = no_tree_stopped v bytes f (lex.OpenComment at) p q
tree_has_none v bytes f h p (OpenHeredoc at) m q = no_tree_stopped v bytes f (lex.OpenHeredoc at) p q
tree_has_none v bytes f h p (BadByte at) m q = no_tree_stopped v bytes f (lex.BadByte at) p q
tree_has_none v bytes f h p TooLong m q = omega arith
tree_has_none v bytes f h p NotInGrammar m q = no_tree v bytes f p q
tree_has_none v bytes f h p Memory m q = m refl

-- ---- one fault

apart : {n m : ℕ} → n ≤ m → m < n → ⊥
apart p q = omega arith

-- What a fault that isn't want of memory says.
data Cause (v : Version) (bytes : List ℕ) : ReadFault → Type 0 where
  stops : (e : LexFault) → StopsAt v bytes e → Cause v bytes (of_lexing e)
  long : byte_limit < length bytes → Cause v bytes TooLong
  tree : HasNoTree v bytes → Cause v bytes NotInGrammar

cause_of : (v : Version) (bytes : List ℕ) (e : ReadFault) → e ≢ Memory → IsFault v bytes e → Cause v bytes e
cause_of v bytes (OpenText at) m p = stops (lex.OpenText at) p
cause_of v bytes (OpenComment at) m p = stops (lex.OpenComment at) p
cause_of v bytes (OpenHeredoc at) m p = stops (lex.OpenHeredoc at) p
cause_of v bytes (BadByte at) m p = stops (lex.BadByte at) p
cause_of v bytes TooLong m p = long p
cause_of v bytes NotInGrammar m p = tree p
cause_of v bytes Memory m p = absurd (m refl)

one_cause : (v : Version) (bytes : List ℕ) (e g : ReadFault) → Cause v bytes e → Cause v bytes g → e ≡ g
one_cause v bytes e g (stops x p) (stops y q) = ap of_lexing (one_stop v bytes x y p q)
one_cause v bytes e g (stops x p) (long q) = absurd (apart p.within q)
one_cause v bytes e g (stops x p) (tree q) = absurd (not_both v bytes q.tokens x q.lexed p)
one_cause v bytes e g (long p) (stops y q) = absurd (apart q.within p)
one_cause v bytes e g (long p) (long q) = refl
one_cause v bytes e g (long p) (tree q) = absurd (apart q.within p)
one_cause v bytes e g (tree p) (stops y q) = absurd (not_both v bytes p.tokens y p.lexed q)
one_cause v bytes e g (tree p) (long q) = absurd (apart p.within q)
one_cause v bytes e g (tree p) (tree q) = refl

refuses_of : (e fault : ReadFault) → (e ≢ Memory → e ≡ fault) → InPlaceOfFault e fault
refuses_of (OpenText at) fault p = p (λ h. absurd cc)
refuses_of (OpenComment at) fault p = p (λ h. absurd cc)
refuses_of (OpenHeredoc at) fault p = p (λ h. absurd cc)
refuses_of (BadByte at) fault p = p (λ h. absurd cc)
refuses_of TooLong fault p = p (λ h. absurd cc)
refuses_of NotInGrammar fault p = p (λ h. absurd cc)
refuses_of Memory fault p = tt

-- faults that aren't want of memory are the same
pub one_fault : (v : Version) (bytes : List ℕ) (e : ReadFault) → IsFault v bytes e → (fault : ReadFault) → fault ≢ Memory → IsFault v bytes fault → InPlaceOfFault e fault
one_fault v bytes e p fault m q = refuses_of e fault (λ h. one_cause v bytes e fault (cause_of v bytes e h p) (cause_of v bytes fault m q))
