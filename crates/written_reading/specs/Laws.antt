-- The reading of rewritten files.
use Rattle.std.specs.Prelude.{◌≡◌, ℕ, Bool, false, ◌&&◌, List, [], ◌∷◌}
use Rattle.php_tree.specs.declared.token.Token.{Token}
use Rattle.php_tree.specs.declared.version.Version.{Version}
use Rattle.php_tree.specs.declared.version.Version.TheVariants.{V74, V83}
use Rattle.php_tree.specs.Tree.{File, file_leaves, file_printed}
use Rattle.php_lexer.specs.Lexed.{TokensOf}
use Rattle.php_shapes.specs.Shapes.{Shape}
use Rattle.php_reading.specs.Reading.{Reads}
use Rattle.syntax_rules.specs.Rewritten.{rewritten}
use Rattle.rewritten_shapes.specs.Laws.{AreSpelled, NoneReported, is_namespace_label, opens_name}
use Rattle.written_tokens.specs.tokens.Written.{HasTokens}

-- ---- the texts of tokens

-- The labels, casts and `${` of a file have the texts that the tokens of its bytes have.
abbrev pub SourcesAreSpelled : Type 0
SourcesAreSpelled =
    (v : Version) (bytes : List ℕ) (f : File) →
    TokensOf v bytes (file_leaves f) →
    AreSpelled f.statements

-- whether a label that is spelled `namespace` comes first
abbrev pub begins_namespace : List Token → Bool
begins_namespace [] = false
begins_namespace (t ∷ ts) = is_namespace_label t.kind t.text

-- Directly behind no such token stands a label that is spelled `namespace`.
abbrev pub NoneBehind : List Token → Type 0
NoneBehind [] = Unit {0}
NoneBehind (t ∷ ts) = ((opens_name t.kind t.text && begins_namespace ts) ≡ false) × NoneBehind ts

-- Where a name may begin, no label of a source is spelled `namespace`: the word is a keyword there.
abbrev pub NoNameIsNamespace : Type 0
NoNameIsNamespace = (v : Version) (bytes : List ℕ) (ts : List Token) → TokensOf v bytes ts → NoneBehind ts

-- ---- rewritten files

-- A file is what a version reads from its bytes, and nothing else is.
pub record IsRead (v : Version) (f : File) : Type 0 where
  pub reads : Reads v (file_printed f) f
  pub only : (g : File) → Reads v (file_printed f) g → g ≡ f

-- A file that 7.4 reads is read by 8.3 once it is rewritten, where it then has the shape and the tokens of 8.3.
abbrev pub ShapedIsRead : Type 0
ShapedIsRead =
    (bytes : List ℕ) (f : File) →
    Reads V74 bytes f →
    Shape V83 (rewritten f) →
    HasTokens (rewritten f) →
    IsRead V83 (rewritten f)

-- A file that 7.4 reads is read by 8.3 once it is rewritten, where the rules report nothing that stops compiling, and it then
-- has the tokens of 8.3.
abbrev pub RewrittenIsRead : Type 0
RewrittenIsRead =
    (bytes : List ℕ) (f : File) →
    Reads V74 bytes f →
    NoneReported f.statements →
    HasTokens (rewritten f) →
    IsRead V83 (rewritten f)
