-- The modes, which token comes next in each, and which mode a token leaves.
use Rattle.std.specs.Prelude.{◌≡◌, ℕ, ◌-◌, ◌<◌, ◌≤◌, Bool, true, false, not, ◌&&◌, ◌||◌, cond, nat_eq, List, [], ◌∷◌, length, take, drop, slice_index, Option, Some, None}
use Rattle.std.specs.List.{prefix_len}
use Rattle.php_tree.specs.declared.version.Version.{Version}
use Rattle.php_tree.specs.declared.version.Version.TheVariants.{V74, V83}
use Rattle.php_spellings.specs.declared.table.Kind.{Kind}
use Rattle.php_spellings.specs.declared.table.Kind.TheVariants.{InlineHtml, Variable, Label, Quote, Backtick, HeredocStart, Op, Close, CurlyOpen, DollarBrace, QuotedEnd}
use Rattle.php_spellings.specs.declared.table.Mark.{Mark}
use Rattle.php_spellings.specs.declared.table.Mark.TheVariants.{Double, Back, Here}
use Rattle.php_spellings.specs.Bytes.{is_letter, is_line_end, begins, begins_by, label_len}
use Rattle.php_lexer.specs.Rules.{Row, kind_by}
use Rattle.php_lexer.specs.RulesCode.{html_rows, code_rows}
use Rattle.php_lexer.specs.RulesQuoted.{quoted_rows, named_rows, offset_rows, property_rows}

-- A mode. `named` is directly behind `${`; `quoted` is in a quoted text, with the label of a heredoc, and true at the
-- front of a line of one; `offset` and `property` are behind a simple variable in a quoted text.
pub data Mode : Type 0 where
  html : Mode
  code : Mode
  named : Mode
  quoted : Mark → List ℕ → Bool → Mode
  offset : Mode
  property : Mode

-- the rows of a mode
abbrev pub rows_of : Version → Mode → List Row
rows_of version html = html_rows
rows_of version code = code_rows version
rows_of version named = named_rows version
rows_of version (quoted mark label fresh) = quoted_rows mark fresh
rows_of version offset = offset_rows
rows_of version property = property_rows version

-- the label of the heredoc that a mode stands in
abbrev pub label_in : Mode → List ℕ
label_in (quoted mark label fresh) = label
label_in _ = []

-- the kind of the text as a token of the mode, where the rest follows it
abbrev pub kind_of : Version → Mode → List ℕ → List ℕ → Option Kind
kind_of version mode = kind_by (label_in mode) (rows_of version mode)

-- The bytes begin with a token of n bytes, and with no longer one.
pub record IsLongest (version : Version) (mode : Mode) (bytes : List ℕ) (kind : Kind) (n : ℕ) : Type 0 where
  pub within : n ≤ length bytes
  pub is : kind_of version mode (take n bytes) (drop n bytes) ≡ Some kind
  pub longest : (m : ℕ) → n < m → m ≤ length bytes → kind_of version mode (take m bytes) (drop m bytes) ≡ None

-- The bytes begin with no token.
abbrev pub HasNone : Version → Mode → List ℕ → Type 0
HasNone version mode bytes =
    (m : ℕ) → m ≤ length bytes → kind_of version mode (take m bytes) (drop m bytes) ≡ None

-- ---- the mode that a token leaves

-- What a token does to the stack of modes: it changes the mode, or puts one above what the mode then is, or leaves the
-- mode for the one below.
pub data ModeStep : Type 0 where
  stay : Mode → ModeStep
  enter : Mode → Mode → ModeStep
  leave : ModeStep

-- the bytes of labels that the bytes begin with
abbrev pub label_front : List ℕ → List ℕ
label_front bs = take (label_len bs) bs

-- where the label begins in the first line of a heredoc: behind its first byte, at the first letter
abbrev pub label_place : List ℕ → ℕ
label_place text = prefix_len (λ b. not (is_letter b)) (drop 1 text)

-- the label in the first line of a heredoc
abbrev pub label_of : List ℕ → List ℕ
label_of text = label_front (drop (label_place text) (drop 1 text))

-- whether the text is this byte
abbrev pub is_byte : ℕ → List ℕ → Bool
is_byte n [] = false
is_byte n (b ∷ []) = nat_eq b n
is_byte n (b ∷ c ∷ bs) = false

-- `{` opens a code of its own, that its `}` closes
abbrev pub brace_mode_step : List ℕ → ModeStep
brace_mode_step text = cond (is_byte 123 text) (enter code code) (cond (is_byte 125 text) leave (stay code))

abbrev pub code_mode_step : Kind → List ℕ → ModeStep
code_mode_step Close text = stay html
code_mode_step Quote text = enter (quoted Double [] false) code
code_mode_step Backtick text = enter (quoted Back [] false) code
code_mode_step HeredocStart text = enter (quoted Here (label_of text) true) code
code_mode_step Op text = brace_mode_step text
code_mode_step _ text = stay code

-- `->` and a letter
abbrev pub begins_arrow : List ℕ → Bool
begins_arrow [] = false
begins_arrow (a ∷ []) = false
begins_arrow (a ∷ b ∷ rest) = nat_eq a 45 && nat_eq b 62 && begins is_letter rest

-- whether a simple property begins behind a variable: `->`, or in 8.3 `?->`, and a letter
abbrev pub begins_property : Version → List ℕ → Bool
begins_property V74 rest = begins_arrow rest
begins_property V83 rest = begins_arrow rest || begins_by 63 rest && begins_arrow (drop 1 rest)

-- behind a variable in a quoted text
abbrev pub part_mode_step : Version → Mode → List ℕ → ModeStep
part_mode_step version mode rest =
    cond (begins_by 91 rest) (enter offset mode) (cond (begins_property version rest) (enter property mode) (stay mode))

-- whether the text ends with a line end
abbrev pub ends_line : List ℕ → Bool
ends_line text = is_line_end (slice_index text (length text - 1))

abbrev pub quoted_mode_step : Version → Mark → List ℕ → Kind → List ℕ → List ℕ → ModeStep
quoted_mode_step version mark label QuotedEnd text rest = leave
quoted_mode_step version mark label Variable text rest = part_mode_step version (quoted mark label false) rest
quoted_mode_step version mark label CurlyOpen text rest = enter code (quoted mark label false)
quoted_mode_step version mark label DollarBrace text rest = enter named (quoted mark label false)
quoted_mode_step version mark label _ text rest = stay (quoted mark label (ends_line text))

-- what a token does to the stack, by the mode, its kind, its text and what follows it
abbrev pub mode_step_of : Version → Mode → Kind → List ℕ → List ℕ → ModeStep
mode_step_of version html InlineHtml text rest = stay html
mode_step_of version html _ text rest = stay code
mode_step_of version code kind text rest = code_mode_step kind text
mode_step_of version named kind text rest = code_mode_step kind text
mode_step_of version (quoted mark label fresh) kind text rest = quoted_mode_step version mark label kind text rest
mode_step_of version offset Op text rest = cond (is_byte 93 text) leave (stay offset)
mode_step_of version offset _ text rest = stay offset
mode_step_of version property Label text rest = leave
mode_step_of version property _ text rest = stay property
