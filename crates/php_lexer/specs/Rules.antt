-- A row of the token tables: a kind, the word that its texts begin with, and what may stand behind the word.
use Rattle.std.specs.Prelude.{ℕ, Bool, true, false, not, ◌&&◌, ◌||◌, cond, nat_eq, List, [], ◌∷◌, drop, Option, Some, None, codes}
use Rattle.php_spellings.specs.declared.table.Kind.{Kind}
use Rattle.php_spellings.specs.declared.table.State.TheVariants.{First}
use Rattle.php_spellings.specs.declared.table.Run.TheVariants.{Labels}
use Rattle.php_spellings.specs.declared.table.Follow.{Follow}
use Rattle.php_spellings.specs.declared.table.Follow.TheVariants.{Anything, Nothing, NoStar, Dollar, NoNowdocAfterOne, NoNowdocAfterTwo}
use Rattle.php_spellings.specs.declared.table.Tail.{Tail}
use Rattle.php_spellings.specs.declared.table.Tail.TheVariants.{When, AnyRun, SomeOf, UpTo, Shaped, AnyWord, BracedName, EndLine, NowdocRest}
use Rattle.php_spellings.specs.Bytes.{lower, is_empty, starts_word, begins, begins_by}
use Rattle.php_lexer.specs.Heredocs.{led, no_more, is_end_line, begins_nowdoc, is_nowdoc}
use Rattle.php_lexer.specs.Tails.{is_run, some_run, is_until}
use Rattle.php_lexer.specs.Shapes.{has_shape}

-- A row. The word is in lower case and stands for any case.
pub data Row : Type 0 where
  rule : Kind → List ℕ → Tail → Row

-- what may follow a token. No nowdoc begins at the `<` or `<<` before.
abbrev pub follows : Follow → List ℕ → Bool
follows Anything bs = true
follows Nothing bs = is_empty bs
follows NoStar bs = not (begins_by 42 bs)
follows Dollar bs = begins_by 36 bs
follows NoNowdocAfterOne bs = not (starts_word (codes "<<") bs && begins_nowdoc (drop 2 bs))
follows NoNowdocAfterTwo bs = not (starts_word (codes "<") bs && begins_nowdoc (drop 1 bs))

-- whether a text in single quotes or a nowdoc begins behind `b`
abbrev pub begins_text : List ℕ → Bool
begins_text bs = begins_by 39 bs || starts_word (codes "<<<") bs && begins_nowdoc (drop 3 bs)

-- whether the text is `b`
abbrev pub is_b : List ℕ → Bool
is_b [] = false
is_b (b ∷ bs) = nat_eq (lower b) 98 && is_empty bs

-- a label, but no `b` that belongs to a text
abbrev pub is_any_word : List ℕ → List ℕ → Bool
is_any_word text rest = some_run Labels [] First text rest && not (is_b text && begins_text rest)

-- a label before `[` or `}`
abbrev pub is_braced_name : List ℕ → List ℕ → Bool
is_braced_name text rest = some_run Labels [] First text rest && begins (λ c. nat_eq c 91 || nat_eq c 125) rest

-- whether the text may stand behind the word of a row, in a heredoc with the label
abbrev pub is_tail : List ℕ → Tail → List ℕ → List ℕ → Bool
is_tail label (When f) text rest = no_more (follows f) text rest
is_tail label (AnyRun r) text rest = is_run r label First text rest
is_tail label (SomeOf r s) text rest = some_run r label s text rest
is_tail label (UpTo u) text rest = is_until u First text rest
is_tail label (Shaped sh s) text rest = has_shape sh s text
is_tail label AnyWord text rest = is_any_word text rest
is_tail label BracedName text rest = is_braced_name text rest
is_tail label EndLine text rest = is_end_line label text rest
is_tail label NowdocRest text rest = is_nowdoc text rest

-- the kind of the first row that the whole text meets, where the rest follows it
abbrev pub kind_by : List ℕ → List Row → List ℕ → List ℕ → Option Kind
kind_by label [] text rest = None
kind_by label (rule kind w tail ∷ rows) text rest =
    cond (led lower w (is_tail label tail) text rest) (Some kind) (kind_by label rows text rest)
