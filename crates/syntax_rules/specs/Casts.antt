-- Casts, by the word between their parentheses. (PHP manual, "Type Juggling: Type Casting": blanks may stand round the word,
-- and its case doesn't matter.)
use Rattle.std.specs.Prelude.{ℕ, Bool, true, false, not, ◌==◌, ◌&&◌, ◌||◌, List, [], filter}
use Rattle.std.specs.Str.{bytes_eq, str_to_ascii_lowercase}
use Rattle.php_tree.specs.declared.kind.NodeKind.{NodeKind}
use Rattle.php_tree.specs.declared.kind.NodeKind.TheVariants as kind
use Rattle.php_tree.specs.Tree.{Forest, none, leaf, node, Tree}

-- whether the kind is a cast's
abbrev pub is_cast : NodeKind → Bool
is_cast kind.Cast = true
is_cast _ = false

-- the text of a first token
abbrev pub first_text : Forest → List ℕ
first_text none = []
first_text (leaf t f) = t.text
first_text (node k c f) = []

-- a text in lower case, without spaces and tabs
abbrev pub bare : List ℕ → List ℕ
bare text = str_to_ascii_lowercase (filter (λ b. not (b == 32 || b == 9)) text)

-- whether a node is a cast that is spelled so
abbrev pub is_cast_by : List ℕ → Tree → Bool
is_cast_by word t = is_cast t.0 && bytes_eq (bare (first_text t.1)) word
