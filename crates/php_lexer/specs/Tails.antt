-- What may stand behind the word that begins a token. A text is judged whole, together with the bytes that follow it.
use Rattle.std.specs.Prelude.{ℕ, Bool, true, false, not, ◌&&◌, ◌||◌, cond, nat_eq, List, [], ◌∷◌, ◌++◌, length, drop, codes}
use Rattle.php_spellings.specs.declared.table.State.{State}
use Rattle.php_spellings.specs.declared.table.State.TheVariants.{First, Plain, Escaped}
use Rattle.php_spellings.specs.declared.table.Mark.{Mark}
use Rattle.php_spellings.specs.declared.table.Mark.TheVariants.{Double, Back, Here}
use Rattle.php_spellings.specs.declared.table.Run.{Run}
use Rattle.php_spellings.specs.declared.table.Run.TheVariants.{Spaces, Labels, Line, HashLine, Html, Body}
use Rattle.php_spellings.specs.declared.table.Until.{Until}
use Rattle.php_spellings.specs.declared.table.Until.TheVariants.{Simple, Closed, Block, CastWord, From}
use Rattle.php_spellings.specs.Bytes.{is_blank_byte, is_line_end, is_space, is_letter, is_label_byte, lower, is_empty, starts_word, begins, begins_by}
use Rattle.php_lexer.specs.Heredocs.{no_label, ends_heredoc}

-- ---- runs: texts that go on byte by byte

-- whether `$` and a label, `${` or `{$` begins here: the byte, and what follows it
abbrev pub begins_part : ℕ → List ℕ → Bool
begins_part b bs =
    nat_eq b 36 && begins (λ c. is_letter c || nat_eq c 123) bs || nat_eq b 123 && begins_by 36 bs

-- whether an opening tag begins here, behind its `<`: `?=`, or `?php` before white space or the end of the file
abbrev pub begins_tag : List ℕ → Bool
begins_tag bs =
    starts_word (codes "?=") bs
    || starts_word (codes "?php") bs && (is_empty (drop 4 bs) || begins is_space (drop 4 bs))

-- whether a byte of a quoted text belongs to a piece of it. `First` is the front of a line in a heredoc, where its end
-- may begin; `Escaped` is behind a backslash.
abbrev pub in_piece : Mark → List ℕ → State → ℕ → List ℕ → Bool
in_piece mark label Escaped b bs = true
in_piece Double label First b bs = not (nat_eq b 34) && not (begins_part b bs)
in_piece Double label Plain b bs = not (nat_eq b 34) && not (begins_part b bs)
in_piece Back label First b bs = not (nat_eq b 96) && not (begins_part b bs)
in_piece Back label Plain b bs = not (nat_eq b 96) && not (begins_part b bs)
in_piece Here label First b bs = not (ends_heredoc label (b ∷ bs)) && not (begins_part b bs)
in_piece Here label Plain b bs = not (begins_part b bs)

-- whether a byte of a comment of one line belongs to it: it ends before a line end and before `?>`
abbrev pub in_line : ℕ → List ℕ → Bool
in_line b bs = not (is_line_end b) && not (nat_eq b 63 && begins_by 62 bs)

-- whether a byte belongs to the run, where these bytes follow it; the label is that of the heredoc around it
abbrev pub goes : Run → List ℕ → State → ℕ → List ℕ → Bool
goes Spaces label s b bs = is_space b
goes Labels label First b bs = is_letter b
goes Labels label Plain b bs = is_label_byte b
goes Labels label Escaped b bs = is_label_byte b
goes Line label s b bs = in_line b bs
goes HashLine label First b bs = not (nat_eq b 91) && in_line b bs
goes HashLine label Plain b bs = in_line b bs
goes HashLine label Escaped b bs = in_line b bs
goes Html label s b bs = not (nat_eq b 60 && begins_tag bs)
goes (Body mark) label s b bs = in_piece mark label s b bs

-- the state behind a byte of a text in which a backslash takes the next byte along
abbrev pub escape : State → ℕ → State
escape Escaped b = Plain
escape First b = cond (nat_eq b 92) Escaped Plain
escape Plain b = cond (nat_eq b 92) Escaped Plain

-- the state behind a byte of a run
abbrev pub moved : Run → State → ℕ → State
moved (Body Here) s b = cond (is_line_end b) First (escape s b)
moved (Body Double) s b = escape s b
moved (Body Back) s b = escape s b
moved Spaces s b = Plain
moved Labels s b = Plain
moved Line s b = Plain
moved HashLine s b = Plain
moved Html s b = Plain

-- whether each byte of the text belongs to the run
abbrev pub is_run : Run → List ℕ → State → List ℕ → List ℕ → Bool
is_run r label s [] rest = true
is_run r label s (b ∷ bs) rest = goes r label s b (bs ++ rest) && is_run r label (moved r s b) bs rest

-- a run of at least one byte
abbrev pub some_run : Run → List ℕ → State → List ℕ → List ℕ → Bool
some_run r label s text rest = not (is_empty text) && is_run r label s text rest

-- ---- texts with a closing byte

-- the words that name a type in a cast (PHP manual, "Type Juggling: Type Casting")
abbrev pub cast_words : List (List ℕ)
cast_words =
    codes "int" ∷ codes "integer" ∷ codes "bool" ∷ codes "boolean" ∷ codes "string" ∷ codes "array" ∷ codes "object"
    ∷ codes "float" ∷ codes "double" ∷ codes "binary" ∷ codes "real" ∷ codes "unset" ∷ []

-- whether the bytes begin with the word, and no byte of a label follows it
abbrev pub word_alone : List ℕ → List ℕ → Bool
word_alone w bs = starts_word w bs && no_label (drop (length w) bs)

-- whether the bytes begin with one of the words, and no byte of a label follows it
abbrev pub begins_word : List (List ℕ) → List ℕ → Bool
begins_word [] bs = false
begins_word (w ∷ ws) bs = word_alone w bs || begins_word ws bs

abbrev pub begins_type : List ℕ → Bool
begins_type bs = begins_word cast_words bs

-- whether the byte closes the text
abbrev pub closes : Until → State → ℕ → Bool
closes Simple Escaped b = false
closes Simple First b = nat_eq b 39
closes Simple Plain b = nat_eq b 39
closes Closed Escaped b = false
closes Closed First b = nat_eq b 34
closes Closed Plain b = nat_eq b 34
closes Block First b = false
closes Block Plain b = false
closes Block Escaped b = nat_eq b 47
closes CastWord First b = false
closes CastWord Plain b = nat_eq b 41
closes CastWord Escaped b = nat_eq b 41
closes From First b = false
closes From Plain b = false
closes From Escaped b = nat_eq (lower b) 109

-- Whether the byte bars the text. A closed text in double quotes has no part. A cast has blanks, a word (`Plain`) and
-- blanks (`Escaped`). Between `yield` and `from` is white space alone, and no byte of a
-- label follows; `Escaped` is within `from`.
abbrev pub bars : Until → State → ℕ → List ℕ → Bool
bars Simple s b bs = false
bars Closed Escaped b bs = false
bars Closed First b bs = begins_part b bs
bars Closed Plain b bs = begins_part b bs
bars Block s b bs = false
bars CastWord First b bs = not (is_blank_byte b || begins_type (b ∷ bs))
bars CastWord Plain b bs = not (is_letter b || is_blank_byte b || nat_eq b 41)
bars CastWord Escaped b bs = not (is_blank_byte b || nat_eq b 41)
bars From First b bs = not (is_space b)
bars From Plain b bs = not (is_space b || word_alone (codes "from") (b ∷ bs))
bars From Escaped b bs = false

-- the state behind a byte; in a comment `Escaped` is behind a `*`
abbrev pub stepped : Until → State → ℕ → State
stepped Simple s b = escape s b
stepped Closed s b = escape s b
stepped Block s b = cond (nat_eq b 42) Escaped Plain
stepped CastWord First b = cond (is_blank_byte b) First Plain
stepped CastWord Plain b = cond (is_blank_byte b) Escaped Plain
stepped CastWord Escaped b = Escaped
stepped From First b = Plain
stepped From Plain b = cond (is_space b) Plain Escaped
stepped From Escaped b = Escaped

-- whether the text ends with its first closing byte, and no byte bars it
abbrev pub is_until : Until → State → List ℕ → List ℕ → Bool
is_until u s [] rest = false
is_until u s (b ∷ bs) rest =
    not (bars u s b (bs ++ rest)) && cond (closes u s b) (is_empty bs) (is_until u (stepped u s b) bs rest)
