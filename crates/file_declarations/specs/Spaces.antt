-- The namespace of a Namespace.
use Rattle.std.specs.Prelude.{ℕ, if◌then◌else◌, codes, List, [], ◌∷◌}
use Rattle.scope_names.specs.Words.{drop_first, first_word, has_word}

-- the namespace of the words of a Namespace
abbrev pub space_of_words : List (List ℕ) → List ℕ
space_of_words ws = if has_word (codes "{") (first_word (drop_first ws) ∷ []) then [] else first_word (drop_first ws)
