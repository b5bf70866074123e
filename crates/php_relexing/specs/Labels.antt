-- Labels, and how they are joined to names.
use Rattle.std.specs.Prelude.{◌≡◌, ℕ, suc, Bool, false, true, ◌&&◌, List, [], ◌∷◌, ◌++◌, length}
use Rattle.php_tree.specs.declared.version.Version.{Version}
use Rattle.php_spellings.specs.declared.table.Kind.TheVariants.{Word, Space}
use Rattle.php_spellings.specs.declared.table.Shape.TheVariants as shape
use Rattle.php_spellings.specs.declared.table.Spot.TheVariants.{Begin}
use Rattle.php_spellings.specs.Bytes.{is_space, is_letter, is_label_byte, begins}
use Rattle.php_lexer.specs.Shapes.{has_shape}
use Rattle.php_lexer.specs.Modes.{code, IsLongest}
use Rattle.php_relexing.specs.Newer.{begins_deeper, begins_name}

-- each byte is one of a label
abbrev pub all_label : List ℕ → Bool
all_label [] = true
all_label (b ∷ bs) = is_label_byte b && all_label bs

abbrev pub is_label : List ℕ → Bool
is_label [] = false
is_label (b ∷ a) = is_letter b && all_label a

-- whether the text is labels with `\` between them, maybe with one in front
abbrev pub is_name : List ℕ → Bool
is_name = has_shape shape.Name Begin

-- Labels, a `\` and labels are a name; a name, a `\` and a label too.
pub record LabelsJoin : Type 0 where
  pub two : (l m : List ℕ) → is_label l ≡ true → is_label m ≡ true → is_name (l ++ 92 ∷ m) ≡ true
  pub front : (m : List ℕ) → is_label m ≡ true → is_name (92 ∷ m) ≡ true
  pub more : (t m : List ℕ) → is_name t ≡ true → is_label m ≡ true → is_name (t ++ 92 ∷ m) ≡ true

-- A word is a label.
abbrev pub WordsAreLabels : Type 0
WordsAreLabels =
    (v : Version) (b : ℕ) (a r : List ℕ) →
    IsLongest v code (b ∷ a ++ r) Word (suc (length a)) →
    is_label (b ∷ a) ≡ true

-- A label begins no name with `\` where none goes on behind it.
abbrev pub LabelsBeginNoName : Type 0
LabelsBeginNoName =
    (t s : List ℕ) →
    is_label t ≡ true →
    begins is_label_byte s ≡ false →
    begins_deeper s ≡ false →
    begins_name (t ++ s) ≡ false

-- White space stays where none follows.
abbrev pub WhiteSpaceStays : Type 0
WhiteSpaceStays =
    (v w : Version) (b : ℕ) (a r s : List ℕ) →
    begins is_space s ≡ false →
    IsLongest v code (b ∷ a ++ r) Space (suc (length a)) →
    IsLongest w code (b ∷ a ++ s) Space (suc (length a))
