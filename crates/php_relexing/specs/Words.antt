-- Words, and the opening bracket, before other bytes.
use Rattle.std.specs.Prelude.{◌≡◌, ℕ, suc, Bool, false, cond, ◌&&◌, nat_eq, List, [], ◌∷◌, ◌++◌, length, codes}
use Rattle.php_tree.specs.declared.version.Version.{Version}
use Rattle.php_tree.specs.declared.version.Version.TheVariants.{V74}
use Rattle.php_spellings.specs.declared.table.Kind.TheVariants.{Word, Keyword, Op}
use Rattle.php_spellings.specs.Bytes.{is_blank_byte, is_space, is_letter, is_label_byte, lower, begins}
use Rattle.php_lexer.specs.Tails.{word_alone, begins_type}
use Rattle.php_lexer.specs.Modes.{code, IsLongest}

-- white space, and then the word `from` alone
abbrev pub comes_from : List ℕ → Bool
comes_from [] = false
comes_from (b ∷ bs) = cond (is_space b) (comes_from bs) (word_alone (codes "from") (b ∷ bs))

-- whether `yield` goes on with `from`
abbrev pub begins_from : List ℕ → Bool
begins_from [] = false
begins_from (b ∷ bs) = is_space b && comes_from bs

-- A word that doesn't begin with `b` stays where neither its label nor `yield` goes on.
abbrev pub WordsStay : Type 0
WordsStay =
    (b : ℕ) (a r s : List ℕ) →
    nat_eq (lower b) 98 ≡ false →
    begins is_label_byte s ≡ false →
    begins_from s ≡ false →
    IsLongest V74 code (b ∷ a ++ r) Word (suc (length a)) →
    IsLongest V74 code (b ∷ a ++ s) Word (suc (length a))

-- The words `yield from` stay where no byte of a label follows.
abbrev pub YieldFromStays : Type 0
YieldFromStays =
    (b : ℕ) (a r s : List ℕ) →
    begins is_label_byte s ≡ false →
    IsLongest V74 code (b ∷ a ++ r) Keyword (suc (length a)) →
    IsLongest V74 code (b ∷ a ++ s) Keyword (suc (length a))

-- blanks and `)`
abbrev pub ends_cast : List ℕ → Bool
ends_cast [] = false
ends_cast (b ∷ bs) = cond (is_blank_byte b) (ends_cast bs) (nat_eq b 41)

-- letters, blanks and `)`
abbrev pub goes_cast : List ℕ → Bool
goes_cast [] = false
goes_cast (b ∷ bs) = cond (is_letter b) (goes_cast bs) (ends_cast (b ∷ bs))

-- whether a cast goes on behind its `(`: blanks, a type, blanks and `)`
abbrev pub begins_cast : List ℕ → Bool
begins_cast [] = false
begins_cast (b ∷ bs) = cond (is_blank_byte b) (begins_cast bs) (begins_type (b ∷ bs) && goes_cast bs)

-- `(` is a token of its own exactly where no cast goes on behind it.
pub record OpeningsAreUncast : Type 0 where
  pub opens : (v : Version) (s : List ℕ) → begins_cast s ≡ false → IsLongest v code (40 ∷ s) Op 1
  pub none : (v : Version) (r : List ℕ) → IsLongest v code (40 ∷ r) Op 1 → begins_cast r ≡ false
