-- The lengths that the lexer counts, for each row and for the longest token.
use Rattle.std.specs.Prelude.{ℕ, ◌+◌, Bool, false, ◌&&◌, ◌||◌, cond, nat_eq, nat_lt, List, [], ◌∷◌, length, take, drop, Option, Some, None}
use Rattle.php_tree.specs.declared.version.Version.{Version}
use Rattle.php_spellings.specs.declared.table.Kind.{Kind}
use Rattle.php_spellings.specs.declared.table.State.{State}
use Rattle.php_spellings.specs.declared.table.State.TheVariants.{First}
use Rattle.php_spellings.specs.declared.table.Run.{Run}
use Rattle.php_spellings.specs.declared.table.Run.TheVariants.{Labels}
use Rattle.php_spellings.specs.declared.table.Until.{Until}
use Rattle.php_spellings.specs.declared.table.Shape.{Shape}
use Rattle.php_spellings.specs.declared.table.Spot.{Spot}
use Rattle.php_spellings.specs.declared.table.Tail.{Tail}
use Rattle.php_spellings.specs.declared.table.Tail.TheVariants.{When, AnyRun, SomeOf, UpTo, Shaped, AnyWord, BracedName, EndLine, NowdocRest}
use Rattle.php_spellings.specs.Bytes.{lower, as_it_is, is_blank_byte, is_line_end, begins, starts_by}
use Rattle.php_lexer.specs.Heredocs.{no_label, ends_heredoc, begins_nowdoc, nowdoc_label, nowdoc_head}
use Rattle.php_lexer.specs.Tails.{goes, moved, closes, bars, stepped}
use Rattle.php_lexer.specs.Shapes.{step, may_end, is_stuck}
use Rattle.php_lexer.specs.Rules.{Row, rule, follows, is_b, begins_text}
use Rattle.php_lexer.specs.Modes.{Mode, rows_of, label_in}

-- so many bytes more
abbrev pub add_to : ℕ → Option ℕ → Option ℕ
add_to n None = None
add_to n (Some m) = Some (n + m)

-- nothing, where a length is 0
abbrev pub some_len : ℕ → Option ℕ
some_len n = cond (nat_eq n 0) None (Some n)

-- ---- runs, and texts with a closing byte

abbrev pub run_len : Run → List ℕ → State → List ℕ → ℕ
run_len r label s [] = 0
run_len r label s (b ∷ bs) = cond (goes r label s b bs) (1 + run_len r label (moved r s b) bs) 0

abbrev pub some_run_len : Run → List ℕ → State → List ℕ → Option ℕ
some_run_len r label s bs = some_len (run_len r label s bs)

abbrev pub until_len : Until → State → List ℕ → Option ℕ
until_len u s [] = None
until_len u s (b ∷ bs) =
    cond (bars u s b bs) None (cond (closes u s b) (Some 1) (add_to 1 (until_len u (stepped u s b) bs)))

-- ---- shapes: the longest text that may end

abbrev pub or_else : Option ℕ → Option ℕ → Option ℕ
or_else None other = other
or_else (Some n) other = Some n

-- no byte, where the text may end here
abbrev pub here_len : Bool → Option ℕ
here_len b = cond b (Some 0) None

abbrev pub shape_len : Shape → Spot → List ℕ → Option ℕ
shape_len sh s [] = here_len (may_end sh s)
shape_len sh s (b ∷ bs) =
    cond (is_stuck (step sh s b)) (here_len (may_end sh s))
    (or_else (add_to 1 (shape_len sh (step sh s b) bs)) (here_len (may_end sh s)))

-- ---- words

-- a word, and what is counted behind it
abbrev pub behind : (ℕ → ℕ) → List ℕ → (List ℕ → Option ℕ) → List ℕ → Option ℕ
behind f w len bs = cond (starts_by f w bs) (add_to (length w) (len (drop (length w) bs))) None

abbrev pub nothing_if : (List ℕ → Bool) → List ℕ → Option ℕ
nothing_if p bs = here_len (p bs)

-- a number of bytes that are a label, but no `b` that belongs to a text
abbrev pub word_from : ℕ → List ℕ → Option ℕ
word_from n bs = cond (is_b (take n bs) && begins_text (drop n bs)) None (some_len n)

abbrev pub word_len : List ℕ → Option ℕ
word_len bs = word_from (run_len Labels [] First bs) bs

abbrev pub name_from : ℕ → List ℕ → Option ℕ
name_from n bs = cond (begins (λ c. nat_eq c 91 || nat_eq c 125) (drop n bs)) (some_len n) None

abbrev pub name_len : List ℕ → Option ℕ
name_len bs = name_from (run_len Labels [] First bs) bs

-- ---- heredocs

abbrev pub last_label_len : List ℕ → List ℕ → Option ℕ
last_label_len [] bs = None
last_label_len (a ∷ label) bs = behind as_it_is (a ∷ label) (nothing_if no_label) bs

abbrev pub end_line_len : List ℕ → List ℕ → Option ℕ
end_line_len label [] = None
end_line_len label (b ∷ bs) =
    cond (is_blank_byte b) (add_to 1 (end_line_len label bs)) (last_label_len label (b ∷ bs))

abbrev pub body_len : List ℕ → Bool → List ℕ → Option ℕ
body_len label fresh [] = None
body_len label fresh (b ∷ bs) =
    cond (fresh && ends_heredoc label (b ∷ bs)) (end_line_len label (b ∷ bs))
    (add_to 1 (body_len label (is_line_end b) bs))

abbrev pub nowdoc_len : List ℕ → Option ℕ
nowdoc_len bs =
    cond (begins_nowdoc bs) (add_to (nowdoc_head bs) (body_len (nowdoc_label bs) false (drop (nowdoc_head bs) bs))) None

-- ---- rows

abbrev pub tail_len : List ℕ → Tail → List ℕ → Option ℕ
tail_len label (When f) bs = nothing_if (follows f) bs
tail_len label (AnyRun r) bs = Some (run_len r label First bs)
tail_len label (SomeOf r s) bs = some_run_len r label s bs
tail_len label (UpTo u) bs = until_len u First bs
tail_len label (Shaped sh s) bs = shape_len sh s bs
tail_len label AnyWord bs = word_len bs
tail_len label BracedName bs = name_len bs
tail_len label EndLine bs = end_line_len label bs
tail_len label NowdocRest bs = nowdoc_len bs

-- the longer of a row's token and that of the rows below it
abbrev pub longer : Kind → Option ℕ → Option (Kind × ℕ) → Option (Kind × ℕ)
longer kind None other = other
longer kind (Some n) None = Some (kind, n)
longer kind (Some n) (Some x) = cond (nat_lt n x.1) (Some x) (Some (kind, n))

abbrev pub scan_by : List ℕ → List Row → List ℕ → Option (Kind × ℕ)
scan_by label [] bs = None
scan_by label (rule kind w tail ∷ rows) bs =
    longer kind (behind lower w (tail_len label tail) bs) (scan_by label rows bs)

-- the longest token of a mode
abbrev pub scan : Version → Mode → List ℕ → Option (Kind × ℕ)
scan version mode = scan_by (label_in mode) (rows_of version mode)
