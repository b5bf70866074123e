-- The ends of heredocs and nowdocs (PHP manual, "Strings: Heredoc" and "Nowdoc"; RFC "Flexible Heredoc and Nowdoc
-- Syntaxes").
use Rattle.std.specs.Prelude.{ℕ, ◌+◌, Bool, false, cond, not, ◌&&◌, nat_eq, List, [], ◌∷◌, ◌++◌, length, take, drop}
use Rattle.php_spellings.specs.Bytes.{is_blank_byte, is_line_end, is_letter, is_label_byte, as_it_is, is_empty, starts, begins, begins_by, skip_blanks, blanks_len, label_len}

-- no byte of a label follows
abbrev pub no_label : List ℕ → Bool
no_label bs = not (begins is_label_byte bs)

-- whether the bytes begin with the label, and no byte of a label follows it
abbrev pub begins_label : List ℕ → List ℕ → Bool
begins_label label bs = starts label bs && no_label (drop (length label) bs)

-- whether the line that begins here ends the heredoc with the label: blanks, the label, and no byte of a label
abbrev pub ends_heredoc : List ℕ → List ℕ → Bool
ends_heredoc label bs = begins_label label (skip_blanks bs)

-- whether the text is a word and what the rest of it may be; each byte is changed so before it is compared
abbrev pub led : (ℕ → ℕ) → List ℕ → (List ℕ → List ℕ → Bool) → List ℕ → List ℕ → Bool
led f [] is text rest = is text rest
led f (a ∷ w) is [] rest = false
led f (a ∷ w) is (b ∷ bs) rest = nat_eq a (f b) && led f w is bs rest

-- nothing more, where what follows passes a test
abbrev pub no_more : (List ℕ → Bool) → List ℕ → List ℕ → Bool
no_more p text rest = is_empty text && p rest

-- whether the text is the label, and no byte of a label follows it; the empty label ends nothing
abbrev pub is_last_label : List ℕ → List ℕ → List ℕ → Bool
is_last_label [] text rest = false
is_last_label (a ∷ label) text rest = led as_it_is (a ∷ label) (no_more no_label) text rest

-- the closing token of a heredoc: blanks and the label
abbrev pub is_end_line : List ℕ → List ℕ → List ℕ → Bool
is_end_line label [] rest = false
is_end_line label (b ∷ bs) rest = cond (is_blank_byte b) (is_end_line label bs rest) (is_last_label label (b ∷ bs) rest)

-- ---- nowdocs: what stands behind `<<<`

-- the bytes behind the opening quote of a nowdoc's label
abbrev pub behind_quote : List ℕ → List ℕ
behind_quote bs = drop 1 (skip_blanks bs)

-- the label of a nowdoc
abbrev pub nowdoc_label : List ℕ → List ℕ
nowdoc_label bs = take (label_len (behind_quote bs)) (behind_quote bs)

-- how many bytes there are up to the closing quote of the label, which is one of them
abbrev pub nowdoc_head : List ℕ → ℕ
nowdoc_head bs = blanks_len bs + label_len (behind_quote bs) + 2

-- whether the first line of a nowdoc begins here: blanks, a label in single quotes, and a line end
abbrev pub begins_nowdoc : List ℕ → Bool
begins_nowdoc bs =
    begins_by 39 (skip_blanks bs)
    && begins is_letter (behind_quote bs)
    && begins_by 39 (drop (label_len (behind_quote bs)) (behind_quote bs))
    && begins is_line_end (drop (label_len (behind_quote bs) + 1) (behind_quote bs))

-- a text up to the first line that ends the heredoc with the label, with that line's blanks and label; true where a
-- line begins
abbrev pub is_body : List ℕ → Bool → List ℕ → List ℕ → Bool
is_body label fresh [] rest = false
is_body label fresh (b ∷ bs) rest =
    cond (fresh && ends_heredoc label (b ∷ bs ++ rest)) (is_end_line label (b ∷ bs) rest) (is_body label (is_line_end b) bs rest)

-- a whole nowdoc, behind `<<<`
abbrev pub is_nowdoc : List ℕ → List ℕ → Bool
is_nowdoc text rest =
    begins_nowdoc (text ++ rest)
    && is_body (nowdoc_label (text ++ rest)) false (drop (nowdoc_head (text ++ rest)) text) rest
