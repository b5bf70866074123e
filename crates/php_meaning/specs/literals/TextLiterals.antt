-- The bytes that text literals write. (PHP manual, "Strings".)
use Rattle.std.specs.Prelude.{ℕ, Bool, true, false, ◌||◌, ◌==◌, if◌then◌else◌, List, [], ◌∷◌, ◌++◌}
use Rattle.php_meaning.specs.Cause.{Outcome, Gives, Outside, NoRule}
use Rattle.php_meaning.specs.literals.Escapes.{unescaped}
use Rattle.php_meaning.specs.literals.Nowdocs.{nowdoc}

-- ---- in single quotes

-- A backslash goes away before a quote and before a backslash, and stays before any other byte.
abbrev pub escaped : ℕ → List ℕ
escaped b = if b == 39 || b == 92 then b ∷ [] else 92 ∷ b ∷ []

-- the bytes from behind the opening quote up to the closing one; true directly behind a backslash
abbrev pub quoted_bytes : Bool → List ℕ → List ℕ
quoted_bytes is_behind [] = []
quoted_bytes true (b ∷ bs) = escaped b ++ quoted_bytes false bs
quoted_bytes false (b ∷ bs) =
    if b == 39 then [] else (if b == 92 then quoted_bytes true bs else b ∷ quoted_bytes false bs)

-- ---- any text

-- the bytes but the last one
abbrev pub but_last : List ℕ → List ℕ
but_last [] = []
but_last (b ∷ []) = []
but_last (b ∷ c ∷ bs) = b ∷ but_last (c ∷ bs)

-- a `b` in front, in both cases, changes nothing
abbrev pub behind_letter : List ℕ → List ℕ
behind_letter [] = []
behind_letter (b ∷ bs) = if b == 98 || b == 66 then bs else b ∷ bs

-- by its first byte: in single quotes, in double quotes, or a nowdoc
abbrev pub by_opening : List ℕ → Outcome (List ℕ)
by_opening [] = Outside NoRule
by_opening (b ∷ bs) =
    if b == 39 then Gives (quoted_bytes false bs)
    else (if b == 34 then unescaped 0 (but_last bs)
    else (if b == 60 then Gives (nowdoc bs) else Outside NoRule))

-- the bytes of a literal
abbrev pub text_literal : List ℕ → Outcome (List ℕ)
text_literal t = by_opening (behind_letter t)
