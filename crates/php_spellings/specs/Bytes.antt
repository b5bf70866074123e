-- Classes of bytes, and how bytes begin.
use Rattle.std.specs.Prelude.{ℕ, ◌+◌, Bool, true, false, cond, ◌&&◌, ◌||◌, nat_le, nat_eq, List, [], ◌∷◌, drop}
use Rattle.std.specs.List.{prefix_len}

-- a space or a tab
abbrev pub is_blank_byte : ℕ → Bool
is_blank_byte b = nat_eq b 32 || nat_eq b 9

-- a line feed or a carriage return; the two in this order are one line end too
abbrev pub is_line_end : ℕ → Bool
is_line_end b = nat_eq b 10 || nat_eq b 13

-- white space in code
abbrev pub is_space : ℕ → Bool
is_space b = is_blank_byte b || is_line_end b

abbrev pub is_digit : ℕ → Bool
is_digit b = nat_le 48 b && nat_le b 57

-- the first byte of a label: a letter, `_` or any byte from 128 up (PHP manual, "Variables: Basics")
abbrev pub is_letter : ℕ → Bool
is_letter b =
    nat_le 65 b && nat_le b 90
    || nat_le 97 b && nat_le b 122
    || nat_eq b 95
    || nat_le 128 b

-- a further byte of a label
abbrev pub is_label_byte : ℕ → Bool
is_label_byte b = is_letter b || is_digit b

-- an ASCII letter in lower case, any other byte as it is
abbrev pub lower : ℕ → ℕ
lower b = cond (nat_le 65 b && nat_le b 90) (b + 32) b

abbrev pub is_empty : List ℕ → Bool
is_empty [] = true
is_empty (b ∷ bs) = false

-- whether the bytes, each changed so, begin with the word
abbrev pub starts_by : (ℕ → ℕ) → List ℕ → List ℕ → Bool
starts_by f [] bs = true
starts_by f (a ∷ w) [] = false
starts_by f (a ∷ w) (b ∷ bs) = nat_eq a (f b) && starts_by f w bs

abbrev pub as_it_is : ℕ → ℕ
as_it_is b = b

-- whether the bytes begin with these
abbrev pub starts : List ℕ → List ℕ → Bool
starts = starts_by as_it_is

-- whether the bytes begin with a word, without ASCII case; the word is in lower case
abbrev pub starts_word : List ℕ → List ℕ → Bool
starts_word = starts_by lower

-- whether the first byte is one of a class
abbrev pub begins : (ℕ → Bool) → List ℕ → Bool
begins p [] = false
begins p (b ∷ bs) = p b

-- whether the first byte is this one
abbrev pub begins_by : ℕ → List ℕ → Bool
begins_by n bs = begins (λ b. nat_eq b n) bs

-- how many blanks the bytes begin with
abbrev pub blanks_len : List ℕ → ℕ
blanks_len bs = prefix_len is_blank_byte bs

-- the bytes behind the blanks that they begin with
abbrev pub skip_blanks : List ℕ → List ℕ
skip_blanks bs = drop (blanks_len bs) bs

-- how many bytes of labels the bytes begin with
abbrev pub label_len : List ℕ → ℕ
label_len bs = prefix_len is_label_byte bs
