-- Words of a node: the texts of its own tokens, in order, a name being one word.
use Rattle.std.specs.Prelude.{ℕ, Bool, false, ◌||◌, ◌==◌, if◌then◌else◌, codes, List, [], ◌∷◌, ◌++◌, Option, Some, None}
use Rattle.std.specs.Str.{bytes_eq, str_eq_ignore_ascii_case}

-- whether a word with this text is among them
abbrev pub has_word : List ℕ → List (List ℕ) → Bool
has_word w [] = false
has_word w (t ∷ ts) = bytes_eq w t || has_word w ts

-- whether a word is a keyword (PHP manual, "List of Keywords": compared without case)
abbrev pub is_keyword : List ℕ → List ℕ → Bool
is_keyword keyword w = str_eq_ignore_ascii_case keyword w

-- whether a keyword is among them
abbrev pub has_keyword : List ℕ → List (List ℕ) → Bool
has_keyword keyword [] = false
has_keyword keyword (w ∷ ws) = is_keyword keyword w || has_keyword keyword ws

-- the words behind a keyword
abbrev pub behind_word : List ℕ → List (List ℕ) → List (List ℕ)
behind_word keyword [] = []
behind_word keyword (w ∷ ws) = if is_keyword keyword w then ws else behind_word keyword ws

-- the words before a word with this text
abbrev pub before_word : List ℕ → List (List ℕ) → List (List ℕ)
before_word w [] = []
before_word w (t ∷ ts) = if bytes_eq w t then [] else t ∷ before_word w ts

-- the first word
abbrev pub first_word : List (List ℕ) → List ℕ
first_word [] = []
first_word (w ∷ ws) = w

abbrev pub drop_first : List (List ℕ) → List (List ℕ)
drop_first [] = []
drop_first (w ∷ ws) = ws

-- the word behind a keyword
abbrev pub word_behind : List ℕ → List (List ℕ) → Option (List ℕ)
word_behind keyword [] = None
word_behind keyword (w ∷ []) = None
word_behind keyword (w ∷ v ∷ ws) = if is_keyword keyword w then Some v else word_behind keyword (v ∷ ws)

-- what ends a statement: a semicolon or a closing tag, behind which a line end may belong to it
abbrev pub ends_statement : List ℕ → Bool
ends_statement [] = false
ends_statement (a ∷ []) = a == 59
ends_statement (a ∷ b ∷ w) = bytes_eq (a ∷ b ∷ []) (codes "?>")

-- what ends one of several names
abbrev pub is_end : List ℕ → Bool
is_end w =
    ends_statement w || bytes_eq w (codes ",") || bytes_eq w (codes "{") || bytes_eq w (codes "}")
    || is_keyword (codes "extends") w || is_keyword (codes "implements") w

-- a word before others, in the first of some lists
abbrev pub in_first : List ℕ → List (List (List ℕ)) → List (List (List ℕ))
in_first w [] = (w ∷ []) ∷ []
in_first w (ws ∷ more) = (w ∷ ws) ∷ more

-- the words between those that end a name
abbrev pub between_ends : List (List ℕ) → List (List (List ℕ))
between_ends [] = [] ∷ []
between_ends (w ∷ ws) = if is_end w then [] ∷ between_ends ws else in_first w (between_ends ws)

-- ---- a name

-- A name's first part, and what stands behind its backslash. The first part of a name that begins with one is empty.
abbrev pub split : List ℕ → List ℕ × Option (List ℕ)
split [] = ([], None)
split (b ∷ bs) = let r = split bs in if b == 92 then ([], Some bs) else (b ∷ r.0, r.1)

-- a name's last part, where this was read of it so far
abbrev pub last_part_from : List ℕ → List ℕ → List ℕ
last_part_from part [] = part
last_part_from part (b ∷ bs) = if b == 92 then last_part_from [] bs else last_part_from (part ++ b ∷ []) bs

abbrev pub last_part : List ℕ → List ℕ
last_part name = last_part_from [] name

-- a name without a backslash in front
abbrev pub without_root : List ℕ → List ℕ
without_root [] = []
without_root (b ∷ bs) = if b == 92 then bs else b ∷ bs
