-- How bytes go on behind a token, as far as the token can look.
use Rattle.std.specs.Prelude.{◌≡◌, ℕ, suc, Bool, true, false, not, ◌&&◌, ◌||◌, nat_eq, List, [], ◌∷◌, ◌++◌, length}
use Rattle.php_tree.specs.declared.version.Version.TheVariants.{V74}
use Rattle.php_spellings.specs.declared.table.Kind.{Kind}
use Rattle.php_spellings.specs.Bytes.{is_space, begins_by}
use Rattle.php_lexer.specs.Modes.{code, IsLongest}
use Rattle.php_relexing.specs.Tiles.{is_far, begins_words, is_near}

-- white space, brackets, braces, quotes, and marks that stand in no token of 7.4 but in front
abbrev pub breaks : List ℕ
breaks =
    9 ∷ 10 ∷ 13 ∷ 32 ∷ 34 ∷ 35 ∷ 36 ∷ 39 ∷ 40 ∷ 41 ∷ 44 ∷ 59 ∷ 64 ∷ 91 ∷ 92 ∷ 93 ∷ 96 ∷ 123 ∷ 125 ∷ 126 ∷ []

abbrev pub is_among : List ℕ → ℕ → Bool
is_among [] b = false
is_among (x ∷ xs) b = nat_eq b x || is_among xs b

-- whether no near token goes over the byte
abbrev pub is_break : ℕ → Bool
is_break c = is_among breaks c

-- The second bytes go on as the first do, up to their end or a break.
pub data Alike : List ℕ → List ℕ → Type 0 where
  ended : {r : List ℕ} → Alike r []
  broken : {r s : List ℕ} (c : ℕ) → is_break c ≡ true → Alike r (c ∷ s)
  same : {r s : List ℕ} (b : ℕ) → Alike r s → Alike (b ∷ r) (b ∷ s)

-- whether a token that begins so is near, and neither white space nor `?>`
abbrev pub is_tight : ℕ → List ℕ → Bool
is_tight b bs = is_near b bs && not (is_space b || nat_eq b 63 && begins_by 62 bs)

-- A near token of 7.4 stays where the bytes behind it go on alike.
abbrev pub NearTokensStay : Type 0
NearTokensStay =
    (kind : Kind) (b : ℕ) (a r s : List ℕ) →
    Alike r s →
    is_tight b (a ++ r) ≡ true →
    is_tight b (a ++ s) ≡ true →
    IsLongest V74 code (b ∷ a ++ r) kind (suc (length a)) →
    IsLongest V74 code (b ∷ a ++ s) kind (suc (length a))

-- Bytes go on alike behind a common front, and as themselves; a token of two bytes or more is tight whatever follows, and
-- so is one whose first byte begins no word of the tables.
pub record AlikeJoins : Type 0 where
  pub front : (u r s : List ℕ) → Alike r s → Alike (u ++ r) (u ++ s)
  pub itself : (s : List ℕ) → Alike s s
  pub longer : (b z : ℕ) (a r s : List ℕ) → is_tight b (z ∷ a ++ r) ≡ is_tight b (z ∷ a ++ s)
  pub plain : (b : ℕ) (bs : List ℕ) → is_far b ≡ false → begins_words b ≡ false → is_space b ≡ false → nat_eq b 63 ≡ false → is_tight b bs ≡ true
