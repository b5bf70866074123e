-- The modes of the code, seen as those of the definition, and what the lexer has read so far.
use Rattle.std.specs.Prelude.{All, ◌≡◌, ◌≤◌, ◌++◌, ◌∷◌, ℕ, ◌&&◌, cond, nat_le, List, [], length, slice_range, take, drop, map, reverse, Option, Some, None, Result, Ok, Err}
use Rattle.std.specs.declared.alloc.Global.{Global}
use Rattle.std.specs.declared.vec.Vec.{Vec}
use Rattle.php_tree.specs.declared.version.Version.{Version}
use Rattle.php_tree.specs.declared.token.Token.{Token}
use Rattle.php_tree.specs.declared.token.TokenKind.{TokenKind}
use Rattle.php_tree.specs.Places.{ArePlaced}
use Rattle.php_terminals.specs.declared.mark.Mark.{Mark}
use Rattle.php_terminals.specs.Marked.{IsMark, token_at}
use Rattle.php_lexer.specs.declared.fault.LexFault.{LexFault}
use Rattle.php_lexer.specs.declared.fault.LexFault.TheVariants.{TooLong, Memory}
use Rattle.php_lexer.specs.declared.modes.Mode.{Mode as CodeMode}
use Rattle.php_lexer.specs.declared.modes.Mode.TheVariants.{Html, Code, Named, Quoted, Offset, Property}
use Rattle.php_lexer.specs.declared.modes.ModeStep.{ModeStep as CodeModeStep}
use Rattle.php_lexer.specs.declared.modes.ModeStep.TheVariants.{Stay, Enter, Leave}
use Rattle.php_spellings.specs.declared.table.Kind.{Kind}
use Rattle.php_lexer.specs.Modes.{Mode, html, code, named, quoted, offset, property, ModeStep, stay, enter, leave, mode_step_of}
use Rattle.php_lexer.specs.Lexed.{Lexeme, Stack, start, left_top, left_below, opened_by, Lexed, Stops, lexeme, TokensOf}

-- the bytes of a range, or none
abbrev pub cut : List ℕ → ℕ → ℕ → List ℕ
cut bytes from to = cond (nat_le from to && nat_le to (length bytes)) (slice_range bytes from to) []

-- a mode, where the label of a heredoc is a range of the bytes
abbrev pub mode_of : List ℕ → CodeMode → Mode
mode_of bytes Html = html
mode_of bytes Code = code
mode_of bytes Named = named
mode_of bytes (Quoted mark from to fresh) = quoted mark (cut bytes from to) fresh
mode_of bytes Offset = offset
mode_of bytes Property = property

abbrev pub mode_step_seen : List ℕ → CodeModeStep → ModeStep
mode_step_seen bytes (Stay m) = stay (mode_of bytes m)
mode_step_seen bytes (Enter m n) = enter (mode_of bytes m) (mode_of bytes n)
mode_step_seen bytes Leave = leave

-- ---- the stack

-- the modes below, the nearest first
abbrev pub below_of : List ℕ → List CodeMode → List Mode
below_of bytes ms = reverse (map (mode_of bytes) ms)

abbrev pub stack_of : List ℕ → CodeMode → List CodeMode → List LexFault → Stack
stack_of bytes m ms fs = record { top = mode_of bytes m; below = below_of bytes ms; depth = length (reverse fs) }

abbrev pub top_after : ModeStep → List Mode → Mode
top_after (stay m) ms = m
top_after (enter above under) ms = above
top_after leave ms = left_top ms

abbrev pub below_after : ModeStep → List Mode → List Mode
below_after (stay m) ms = ms
below_after (enter above under) ms = under ∷ ms
below_after leave ms = left_below ms

-- the mode and those below it are what a turn makes of them
abbrev pub IsAfter : CodeModeStep → List CodeMode → CodeMode → List CodeMode → Type 0
IsAfter mode_step ms m ms' =
    (bytes : List ℕ) →
    (mode_of bytes m ≡ top_after (mode_step_seen bytes mode_step) (below_of bytes ms))
    × (below_of bytes ms' ≡ below_after (mode_step_seen bytes mode_step) (below_of bytes ms))

-- the faults of the open quoted texts are what a turn makes of them
abbrev pub IsNoted : CodeMode → CodeModeStep → ℕ → List LexFault → List LexFault → Type 0
IsNoted m mode_step at fs fs' =
    (bytes : List ℕ) → reverse fs' ≡ opened_by (mode_of bytes m) (mode_step_seen bytes mode_step) at (reverse fs)

-- A token does to the stack, and to the faults of the open quoted texts, what its turn does.
pub record IsStepped (version : Version) (bytes : List ℕ) (m : CodeMode) (kind : Kind) (at n : ℕ) (ms : List CodeMode)
    (m' : CodeMode) (ms' : List CodeMode) (fs fs' : List LexFault) : Type 0 where
  pub mode_step : CodeModeStep
  pub seen : mode_step_seen bytes mode_step ≡ mode_step_of version (mode_of bytes m) kind (take n (drop at bytes)) (drop n (drop at bytes))
  pub after : IsAfter mode_step ms m' ms'
  pub noted : IsNoted m mode_step at fs fs'

abbrev pub first_fault : List LexFault → Option LexFault
first_fault [] = None
first_fault (f ∷ fs) = Some f

-- ---- the tokens

-- the token whose trivia and text are these ranges
abbrev pub token_cut : List ℕ → TokenKind → ℕ → ℕ → ℕ → Token
token_cut bytes kind lead at end = record {
  kind = kind;
  lead = slice_range bytes lead at;
  text = slice_range bytes at end;
  start = at;
}

abbrev pub lexemes : List Token → List Lexeme
lexemes ts = map lexeme ts

-- What was read so far: the tokens of the rest make it those of the whole.
pub record Front (version : Version) (bytes : List ℕ) (front : List Token) (m : CodeMode) (ms : List CodeMode) (fs : List LexFault) (lead at : ℕ) : Type 0 where
  pub order : lead ≤ at
  pub within : at ≤ length bytes
  pub placed : (ts : List Token) → ArePlaced lead ts → ArePlaced 0 (front ++ ts)
  pub tokens : (ts : List Lexeme) → Lexed version (stack_of bytes m ms fs) (slice_range bytes lead at) (drop at bytes) ts → Lexed version start [] bytes (lexemes front ++ ts)
  pub stops : (f : LexFault) → Stops version (stack_of bytes m ms fs) (reverse fs) at (drop at bytes) f → Stops version start [] 0 bytes f

-- what the lexer answers for a file of no more bytes than the limit
abbrev pub Meets : Version → List ℕ → Result (Vec Token Global) LexFault → Type 0
Meets version bytes (Ok tokens) = TokensOf version bytes tokens.items
Meets version bytes (Err Memory) = Unit {0}
Meets version bytes (Err TooLong) = ⊥
Meets version bytes (Err fault) = Stops version start [] 0 bytes fault

-- the same for tokens by their places
abbrev pub MarksMeet : Version → List ℕ → Result (Vec Mark Global) LexFault → Type 0
MarksMeet version bytes (Ok marks) = TokensOf version bytes (map (token_at bytes) marks.items) × All (IsMark bytes) marks.items
MarksMeet version bytes (Err Memory) = Unit {0}
MarksMeet version bytes (Err TooLong) = ⊥
MarksMeet version bytes (Err fault) = Stops version start [] 0 bytes fault
