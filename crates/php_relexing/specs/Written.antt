-- The tokens that edits write.
use Rattle.std.specs.Prelude.{◌≡◌, ℕ, suc, Bool, false, true, List, ◌∷◌, ◌++◌, length, codes}
use Rattle.php_tree.specs.declared.version.Version.{Version}
use Rattle.php_spellings.specs.declared.table.Kind.{Kind}
use Rattle.php_spellings.specs.declared.table.Kind.TheVariants.{Variable, Word, Op, Cast, VarName}
use Rattle.php_spellings.specs.Bytes.{is_label_byte, begins}
use Rattle.php_lexer.specs.Modes.{code, named, IsLongest}
use Rattle.php_relexing.specs.Labels.{is_label}

-- Brackets, braces, `$` before `{`, and the cast to floats, in code of both versions.
pub record MarksAreTokens : Type 0 where
  pub closing : (v : Version) (s : List ℕ) → IsLongest v code (41 ∷ s) Op 1
  pub square : (v : Version) (s : List ℕ) → IsLongest v code (91 ∷ s) Op 1
  pub end_square : (v : Version) (s : List ℕ) → IsLongest v code (93 ∷ s) Op 1
  pub brace : (v : Version) (s : List ℕ) → IsLongest v code (123 ∷ s) Op 1
  pub end_brace : (v : Version) (s : List ℕ) → IsLongest v code (125 ∷ s) Op 1
  pub dollar : (v : Version) (s : List ℕ) → IsLongest v code (36 ∷ 123 ∷ s) Op 1
  pub float : (v : Version) (s : List ℕ) → IsLongest v code (codes "(float)" ++ s) Cast 7

-- `(null)` is three tokens.
pub record NullIsWritten : Type 0 where
  pub opening : (v : Version) (s : List ℕ) → IsLongest v code (codes "(null)" ++ s) Op 1
  pub null : (v : Version) (s : List ℕ) → IsLongest v code (codes "null)" ++ s) Word 4

-- A label with `$` in front is a variable of code where the label doesn't go on.
abbrev pub VariablesAreTokens : Type 0
VariablesAreTokens =
    (v : Version) (t s : List ℕ) →
    is_label t ≡ true →
    begins is_label_byte s ≡ false →
    IsLongest v code (36 ∷ t ++ s) Variable (suc (length t))

abbrev pub is_var_name : Kind → Bool
is_var_name VarName = true
is_var_name _ = false

-- Directly behind `${`: a name is a label, and any other token is one of code.
pub record NamedIsCode : Type 0 where
  pub name : (v : Version) (t r : List ℕ) → IsLongest v named (t ++ r) VarName (length t) → is_label t ≡ true
  pub other : (v : Version) (bs : List ℕ) (kind : Kind) (n : ℕ) → is_var_name kind ≡ false → IsLongest v named bs kind n → IsLongest v code bs kind n
