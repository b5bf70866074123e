-- Imports, the last one first.
use Rattle.std.proofs.Common.{◌≡◌, ◌<◌, ℕ, ◌+◌, List, [], ◌∷◌, ◌++◌, map, take, drop, get_or, length, reverse, refl, sym, ap, ◌∙◌}
use Rattle.std.proofs.lemmas.List.{take_more, reverse-append, map-append}
use Rattle.scope_names.specs.Imports as spec
use Rattle.file_declarations.specs.declared.import.Import.{Import}
use Rattle.file_declarations.specs.Imported.{import_of, last_first}

pub last_first_push : (is : List Import) (i : Import) → last_first (is ++ i ∷ []) ≡ import_of i ∷ last_first is
last_first_push is i = ap (λ (js : List Import). map import_of js) (reverse-append is (i ∷ []))

pub last_first_take : (is : List Import) (n : ℕ) (d : Import) → n < length is → last_first (take (n + 1) is) ≡ import_of (get_or is n d) ∷ last_first (take n is)
last_first_take is n d w = ap (λ (js : List Import). last_first js) (take_more is n d w) ∙ last_first_push (take n is) (get_or is n d)

pub last_first_append : (is js : List Import) → last_first (is ++ js) ≡ last_first js ++ last_first is
last_first_append is js = ap (λ (ks : List Import). map import_of ks) (reverse-append is js) ∙ map-append import_of (reverse js) (reverse is)
