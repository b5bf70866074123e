-- Tokens that a closing byte ends: what follows doesn't matter to them.
use Rattle.std.specs.Prelude.{◌≡◌, ℕ, suc, Bool, true, ◌||◌, nat_eq, List, ◌∷◌, ◌++◌, length}
use Rattle.php_tree.specs.declared.version.Version.{Version}
use Rattle.php_spellings.specs.declared.table.Kind.TheVariants.{Comment, Text, Cast}
use Rattle.php_spellings.specs.Bytes.{lower}
use Rattle.php_lexer.specs.Modes.{code, IsLongest}

abbrev pub is_quote : ℕ → Bool
is_quote q = nat_eq q 39 || nat_eq q 34

-- A text in quotes stays whatever follows it.
abbrev pub QuotedTextsStay : Type 0
QuotedTextsStay =
    (v w : Version) (q : ℕ) (a r s : List ℕ) →
    is_quote q ≡ true →
    IsLongest v code (q ∷ a ++ r) Text (suc (length a)) →
    IsLongest w code (q ∷ a ++ s) Text (suc (length a))

-- So does one with `b` in front.
abbrev pub BinaryTextsStay : Type 0
BinaryTextsStay =
    (v w : Version) (b q : ℕ) (a r s : List ℕ) →
    lower b ≡ 98 →
    is_quote q ≡ true →
    IsLongest v code (b ∷ q ∷ a ++ r) Text (suc (suc (length a))) →
    IsLongest w code (b ∷ q ∷ a ++ s) Text (suc (suc (length a)))

-- A comment between `/*` and `*/` stays whatever follows it.
abbrev pub BlockCommentsStay : Type 0
BlockCommentsStay =
    (v w : Version) (a r s : List ℕ) →
    IsLongest v code (47 ∷ 42 ∷ a ++ r) Comment (suc (suc (length a))) →
    IsLongest w code (47 ∷ 42 ∷ a ++ s) Comment (suc (suc (length a)))

-- A cast stays whatever follows it.
abbrev pub CastsStay : Type 0
CastsStay =
    (v w : Version) (a r s : List ℕ) →
    IsLongest v code (40 ∷ a ++ r) Cast (suc (length a)) →
    IsLongest w code (40 ∷ a ++ s) Cast (suc (length a))
