-- The tokens of the parts of quoted texts.
use Rattle.std.specs.Prelude.{◌≡◌, ℕ, suc, Bool, false, true, List, [], ◌∷◌, ◌++◌, length}
use Rattle.php_tree.specs.declared.version.Version.{Version}
use Rattle.php_spellings.specs.declared.table.Kind.TheVariants.{Variable, Label, Op, Quote, Piece, CurlyOpen, QuotedEnd}
use Rattle.php_spellings.specs.declared.table.Mark.{Mark}
use Rattle.php_spellings.specs.declared.table.Mark.TheVariants.{Double, Back}
use Rattle.php_spellings.specs.Bytes.{is_label_byte, lower, begins, begins_by}
use Rattle.php_lexer.specs.Modes.{code, quoted, offset, property, IsLongest}
use Rattle.php_relexing.specs.Pieces.{is_labelled, part_begins}

-- A variable of a quoted text stays where its label doesn't go on.
abbrev pub TextVariablesStay : Type 0
TextVariablesStay =
    (v w : Version) (mark : Mark) (label : List ℕ) (fresh : Bool) (b : ℕ) (a r s : List ℕ) →
    is_labelled mark label ≡ true →
    begins is_label_byte s ≡ false →
    IsLongest v (quoted mark label fresh) (b ∷ a ++ r) Variable (suc (length a)) →
    IsLongest w (quoted mark label fresh) (b ∷ a ++ s) Variable (suc (length a))

-- `{` opens code before `$`, and closing bytes close.
pub record BracesOpen : Type 0 where
  pub curly : (v : Version) (mark : Mark) (label : List ℕ) (fresh : Bool) (s : List ℕ) → is_labelled mark label ≡ true
      → begins_by 36 s ≡ true → IsLongest v (quoted mark label fresh) (123 ∷ s) CurlyOpen 1
  pub double : (v : Version) (label : List ℕ) (fresh : Bool) (s : List ℕ) → IsLongest v (quoted Double label fresh) (34 ∷ s) QuotedEnd 1
  pub back : (v : Version) (label : List ℕ) (fresh : Bool) (s : List ℕ) → IsLongest v (quoted Back label fresh) (96 ∷ s) QuotedEnd 1

-- `"` opens a quoted text before a part, and before a piece that the text goes on behind.
pub record QuotesOpen : Type 0 where
  pub part : (v : Version) (s : List ℕ) → part_begins s ≡ true → IsLongest v code (34 ∷ s) Quote 1
  pub piece : (v w : Version) (a s : List ℕ) → begins_by 34 s ≡ false → IsLongest v (quoted Double [] false) (a ++ s) Piece (length a) → IsLongest w code (34 ∷ a ++ s) Quote 1

-- So does `b"`.
pub record BinaryQuotesOpen : Type 0 where
  pub part : (v : Version) (b : ℕ) (s : List ℕ) → lower b ≡ 98 → part_begins s ≡ true → IsLongest v code (b ∷ 34 ∷ s) Quote 2
  pub piece : (v w : Version) (b : ℕ) (a s : List ℕ) → lower b ≡ 98 → begins_by 34 s ≡ false
      → IsLongest v (quoted Double [] false) (a ++ s) Piece (length a) → IsLongest w code (b ∷ 34 ∷ a ++ s) Quote 2

-- The marks of a simple offset and of a simple property, and the label of a property where it doesn't go on.
pub record SimplePartsStay : Type 0 where
  pub opening : (v : Version) (s : List ℕ) → IsLongest v offset (91 ∷ s) Op 1
  pub ending : (v : Version) (s : List ℕ) → IsLongest v offset (93 ∷ s) Op 1
  pub minus : (v : Version) (s : List ℕ) → IsLongest v offset (45 ∷ s) Op 1
  pub arrow : (v : Version) (s : List ℕ) → IsLongest v property (45 ∷ 62 ∷ s) Op 2
  pub label : (v w : Version) (b : ℕ) (a r s : List ℕ) → begins is_label_byte s ≡ false
      → IsLongest v property (b ∷ a ++ r) Label (suc (length a))
      → IsLongest w property (b ∷ a ++ s) Label (suc (length a))
