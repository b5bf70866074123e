-- The token of a simple offset before its `]`.
use Rattle.std.specs.Prelude.{ℕ, suc, List, ◌∷◌, ◌++◌, length}
use Rattle.php_tree.specs.declared.version.Version.{Version}
use Rattle.php_spellings.specs.declared.table.Kind.{Kind}
use Rattle.php_lexer.specs.Modes.{offset, IsLongest}

-- What stands before `]` in a simple offset stays before `]`.
abbrev pub OffsetsStay : Type 0
OffsetsStay =
    (v w : Version) (kind : Kind) (b : ℕ) (a r s : List ℕ) →
    IsLongest v offset (b ∷ a ++ 93 ∷ r) kind (suc (length a)) →
    IsLongest w offset (b ∷ a ++ 93 ∷ s) kind (suc (length a))
