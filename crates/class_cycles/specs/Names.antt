-- Names once each, in the order of bytes, and pairs of their places.
use Rattle.std.specs.Prelude.{ℕ, List, [], ◌∷◌, ◌++◌, Contains, Option, Some, None}
use Rattle.file_declarations.specs.declared.told.Told.{Told}
use Rattle.file_declarations.specs.declared.told.Told.TheVariants.{Declares, Extends, Includes}
use Rattle.graph_search.specs.Graph.{pair}
use Rattle.program_names.specs.Classes.{AreAscending, place_of}
use Rattle.class_cycles.specs.Circuits.{Pairs}

-- the same names, each once, in the order of bytes
pub record AreOnce (names once : List (List ℕ)) : Type 0 where
  pub ascending : AreAscending once
  pub listed : (n : List ℕ) → Contains once n → Contains names n
  pub all : (n : List ℕ) → Contains names n → Contains once n

-- each class that extends another, and that one behind it
abbrev pub linked : List Told → List (List ℕ)
linked [] = []
linked (Declares d ∷ ts) = linked ts
linked (Extends c p ∷ ts) = c ∷ p ∷ linked ts
linked (Includes f path ∷ ts) = linked ts

-- two places, if both are there
abbrev pub pair_if : Option ℕ → Option ℕ → Pairs
pair_if None o = []
pair_if (Some a) None = []
pair_if (Some a) (Some b) = pair a b ∷ []

-- the places of each class that extends another, and of that one, among some names
abbrev pub pairs_of : List (List ℕ) → List Told → Pairs
pairs_of names [] = []
pairs_of names (Declares d ∷ ts) = pairs_of names ts
pairs_of names (Extends c p ∷ ts) = pair_if (place_of c names) (place_of p names) ++ pairs_of names ts
pairs_of names (Includes f path ∷ ts) = pairs_of names ts
