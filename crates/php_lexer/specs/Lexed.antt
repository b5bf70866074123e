-- The tokens of some bytes, and where they stop.
use Rattle.std.specs.Prelude.{cond, ◌||◌, ◌≡◌, ℕ, zero, suc, ◌+◌, ◌<◌, ◌≤◌, List, [], ◌∷◌, ◌++◌, length, take, drop, map, Some, None, codes}
use Rattle.php_tree.specs.declared.version.Version.{Version}
use Rattle.php_tree.specs.declared.token.TokenKind.{TokenKind}
use Rattle.php_tree.specs.declared.token.TokenKind.TheVariants.{End}
use Rattle.php_tree.specs.declared.token.Token.{Token}
use Rattle.php_tree.specs.Places.{ArePlaced}
use Rattle.php_spellings.specs.declared.table.Kind.{Kind}
use Rattle.php_spellings.specs.declared.table.Mark.{Mark}
use Rattle.php_spellings.specs.declared.table.Mark.TheVariants.{Double, Back, Here}
use Rattle.php_lexer.specs.declared.fault.LexFault.{LexFault}
use Rattle.php_lexer.specs.declared.fault.LexFault.TheVariants.{OpenText, OpenComment, OpenHeredoc, BadByte, TooLong, Memory}
use Rattle.php_spellings.specs.Bytes.{starts_word}
use Rattle.php_spellings.specs.Words.{token_of}
use Rattle.php_lexer.specs.Modes.{Mode, html, code, named, quoted, offset, property, ModeStep, stay, enter, leave, mode_step_of, IsLongest, HasNone}

-- A token without its place: its kind, the trivia before it, and its text.
pub record Lexeme : Type 0 where
  pub kind : TokenKind
  pub lead : List ℕ
  pub text : List ℕ

-- The mode, those below it, and how many of them are quoted texts.
pub record Stack : Type 0 where
  pub top : Mode
  pub below : List Mode
  pub depth : ℕ

-- a file begins as inline HTML
abbrev pub start : Stack
start = record { top = html; below = []; depth = 0 }

-- the lowest mode is left for code
abbrev pub left_top : List Mode → Mode
left_top [] = code
left_top (m ∷ ms) = m

abbrev pub left_below : List Mode → List Mode
left_below [] = []
left_below (m ∷ ms) = ms

abbrev pub less_one : ℕ → ℕ
less_one zero = 0
less_one (suc n) = n

-- what a turn does to the quoted texts that are open
pub data Effect : Type 0 where
  opens : Mark → Effect
  closes : Effect
  keeps : Effect

abbrev pub effect : Mode → ModeStep → Effect
effect top (enter (quoted mark label fresh) under) = opens mark
effect (quoted mark label fresh) leave = closes
effect _ _ = keeps

abbrev pub deeper : Effect → ℕ → ℕ
deeper (opens mark) n = suc n
deeper closes n = less_one n
deeper keeps n = n

-- the stack behind a turn
abbrev pub stepped_by : ModeStep → Stack → Stack
stepped_by (stay mode) stack = record { top = mode; below = stack.below; depth = stack.depth }
stepped_by (enter above under) stack = record {
  top = above;
  below = under ∷ stack.below;
  depth = deeper (effect stack.top (enter above under)) stack.depth;
}
stepped_by leave stack = record {
  top = left_top stack.below;
  below = left_below stack.below;
  depth = deeper (effect stack.top leave) stack.depth;
}

-- what the first n bytes do to the stack as a token, and the stack behind them
abbrev pub mode_step_at : Version → Stack → Kind → ℕ → List ℕ → ModeStep
mode_step_at version stack kind n bytes = mode_step_of version stack.top kind (take n bytes) (drop n bytes)

abbrev pub after : Version → Stack → Kind → ℕ → List ℕ → Stack
after version stack kind n bytes = stepped_by (mode_step_at version stack kind n bytes) stack

-- The tokens of the bytes, where a lead was read before them. Trivia go to the lead; the end comes outside any quoted
-- text.
pub data Lexed : Version → Stack → List ℕ → List ℕ → List Lexeme → Type 0 where
  ends :
      {version : Version} {stack : Stack} {lead bytes : List ℕ} →
      bytes ≡ [] →
      stack.depth ≡ 0 →
      Lexed version stack lead bytes (record { kind = End; lead = lead; text = [] } ∷ [])
  trivia :
      {version : Version} {stack : Stack} {lead bytes : List ℕ} {ts : List Lexeme} (kind : Kind) (n : ℕ) →
      IsLongest version stack.top bytes kind n →
      token_of kind (take n bytes) ≡ None →
      Lexed version (after version stack kind n bytes) (lead ++ take n bytes) (drop n bytes) ts →
      Lexed version stack lead bytes ts
  token :
      {version : Version} {stack : Stack} {lead bytes : List ℕ} {ts : List Lexeme} (kind : Kind) (n : ℕ) (t : TokenKind) →
      IsLongest version stack.top bytes kind n →
      token_of kind (take n bytes) ≡ Some t →
      Lexed version (after version stack kind n bytes) [] (drop n bytes) ts →
      Lexed version stack lead bytes (record { kind = t; lead = lead; text = take n bytes } ∷ ts)

-- a token without its place
abbrev pub lexeme : Token → Lexeme
lexeme t = record { kind = t.kind; lead = t.lead; text = t.text }

-- The tokens of a file: each is the longest of its mode at its place, each mode is the one that the tokens before
-- leave, and each `start` is the number of bytes before the text.
pub record TokensOf (version : Version) (bytes : List ℕ) (tokens : List Token) : Type 0 where
  pub lexed : Lexed version start [] bytes (map lexeme tokens)
  pub placed : ArePlaced 0 tokens

-- ---- faults

-- the fault at a place of code where no token begins
abbrev pub code_fault : ℕ → List ℕ → LexFault
code_fault at bytes =
    cond (starts_word (codes "'") bytes || starts_word (codes "b'") bytes) (OpenText at)
    (cond (starts_word (codes "/*") bytes) (OpenComment at)
    (cond (starts_word (codes "<<<") bytes || starts_word (codes "b<<<") bytes) (OpenHeredoc at) (BadByte at)))

-- the fault at a place where no token begins
abbrev pub fault_at : Mode → ℕ → List ℕ → LexFault
fault_at code at bytes = code_fault at bytes
fault_at named at bytes = code_fault at bytes
fault_at html at bytes = BadByte at
fault_at (quoted mark label fresh) at bytes = BadByte at
fault_at offset at bytes = BadByte at
fault_at property at bytes = BadByte at

-- the fault of a quoted text that has no end
abbrev pub open_fault : Mark → ℕ → LexFault
open_fault Here at = OpenHeredoc at
open_fault Double at = OpenText at
open_fault Back at = OpenText at

abbrev pub less : List LexFault → List LexFault
less [] = []
less (f ∷ fs) = fs

-- the faults of the quoted texts that are open, the innermost first
abbrev pub faults_by : Effect → ℕ → List LexFault → List LexFault
faults_by (opens mark) at fs = open_fault mark at ∷ fs
faults_by closes at fs = less fs
faults_by keeps at fs = fs

abbrev pub opened_by : Mode → ModeStep → ℕ → List LexFault → List LexFault
opened_by top mode_step at fs = faults_by (effect top mode_step) at fs

-- From a place on the longest tokens lead to a fault: no token begins there, or the bytes end within a quoted text.
pub data Stops : Version → Stack → List LexFault → ℕ → List ℕ → LexFault → Type 0 where
  here :
      {version : Version} {stack : Stack} {fs : List LexFault} {at : ℕ} {bytes : List ℕ} →
      0 < length bytes →
      HasNone version stack.top bytes →
      Stops version stack fs at bytes (fault_at stack.top at bytes)
  unended :
      {version : Version} {stack : Stack} {f : LexFault} {fs : List LexFault} {at : ℕ} →
      Stops version stack (f ∷ fs) at [] f
  later :
      {version : Version} {stack : Stack} {fs : List LexFault} {at : ℕ} {bytes : List ℕ} {fault : LexFault} (kind : Kind) (n : ℕ) →
      IsLongest version stack.top bytes kind n →
      Stops version (after version stack kind n bytes) (opened_by stack.top (mode_step_at version stack kind n bytes) at fs) (at + n) (drop n bytes) fault →
      Stops version stack fs at bytes fault

-- the most bytes that a file may have
abbrev pub byte_limit : ℕ
byte_limit = 1048576

-- The fault stops the tokens of a file of no more bytes than the limit.
pub record StopsAt (version : Version) (bytes : List ℕ) (fault : LexFault) : Type 0 where
  pub within : length bytes ≤ byte_limit
  pub stops : Stops version start [] 0 bytes fault

-- Why a file gives this fault.
abbrev pub IsFault : Version → List ℕ → LexFault → Type 0
IsFault version bytes (OpenText at) = StopsAt version bytes (OpenText at)
IsFault version bytes (OpenComment at) = StopsAt version bytes (OpenComment at)
IsFault version bytes (OpenHeredoc at) = StopsAt version bytes (OpenHeredoc at)
IsFault version bytes (BadByte at) = StopsAt version bytes (BadByte at)
IsFault version bytes TooLong = byte_limit < length bytes
IsFault version bytes Memory = length bytes ≤ byte_limit
