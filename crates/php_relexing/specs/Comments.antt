-- Comments of one line in the bytes that were written.
use Rattle.std.specs.Prelude.{◌≡◌, ℕ, suc, Bool, false, true, ◌&&◌, ◌||◌, nat_eq, List, [], ◌∷◌, ◌++◌, length}
use Rattle.php_tree.specs.declared.version.Version.{Version}
use Rattle.php_tree.specs.declared.version.Version.TheVariants.{V74, V83}
use Rattle.php_spellings.specs.declared.table.Kind.TheVariants.{Comment}
use Rattle.php_spellings.specs.Bytes.{is_line_end, begins_by}
use Rattle.php_lexer.specs.Modes.{code, IsLongest}

-- whether a comment of one line ends before these bytes: they are none, a line end or `?>`
abbrev pub stops_line : List ℕ → Bool
stops_line [] = true
stops_line (b ∷ bs) = is_line_end b || nat_eq b 63 && begins_by 62 bs

-- A comment with `//` stays where the line ends behind it.
abbrev pub SlashCommentsStay : Type 0
SlashCommentsStay =
    (v w : Version) (a r s : List ℕ) →
    stops_line s ≡ true →
    IsLongest v code (47 ∷ 47 ∷ a ++ r) Comment (suc (suc (length a))) →
    IsLongest w code (47 ∷ 47 ∷ a ++ s) Comment (suc (suc (length a)))

-- A comment with `#` stays where the line ends behind it, but for one with `#[`.
abbrev pub HashCommentsStay : Type 0
HashCommentsStay =
    (a r s : List ℕ) →
    stops_line s ≡ true →
    begins_by 91 a ≡ false →
    IsLongest V74 code (35 ∷ a ++ r) Comment (suc (length a)) →
    IsLongest V83 code (35 ∷ a ++ s) Comment (suc (length a))

-- A comment with `#[` is one in 8.3 with a space behind its `#`.
abbrev pub SpacedCommentsStay : Type 0
SpacedCommentsStay =
    (a r s : List ℕ) →
    stops_line s ≡ true →
    IsLongest V74 code (35 ∷ a ++ r) Comment (suc (length a)) →
    IsLongest V83 code (35 ∷ 32 ∷ a ++ s) Comment (suc (suc (length a)))
