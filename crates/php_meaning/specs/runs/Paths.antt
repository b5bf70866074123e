-- The path of an included file, taken from the folder of the file that includes it. (PHP manual, "include"; that a path without
-- a folder is looked for there alone is this project's own.)
use Rattle.std.specs.Prelude.{Bool, false, ◌||◌, nat_eq, if◌then◌else◌, List, [], ◌∷◌, ◌++◌, reverse, codes, Option, Some, None}
use Rattle.std.specs.Str.{bytes_eq}
use Rattle.php_meaning.specs.runs.World.{Bytes}

-- the parts of a path between its slashes, `part` being what was read of the first so far
abbrev pub parts_of : Bytes → Bytes → List Bytes
parts_of part [] = part ∷ []
parts_of part (b ∷ bs) = if nat_eq b 47 then part ∷ parts_of [] bs else parts_of (part ++ b ∷ []) bs

abbrev pub joined : List Bytes → Bytes
joined [] = []
joined (p ∷ []) = p
joined (p ∷ q ∷ ps) = p ++ 47 ∷ joined (q ∷ ps)

-- The way down to what some parts lead to from a folder, the last step first: `.` and an empty part stay there, `..` goes up,
-- and what goes up from the program's own folder leads nowhere.
abbrev pub led_to : List Bytes → List Bytes → Option (List Bytes)
led_to at [] = Some at
led_to at (p ∷ ps) =
    if bytes_eq p [] || bytes_eq p (codes ".") then led_to at ps
    else (if bytes_eq p (codes "..") then (elim at [ [] ↦ None | q ∷ qs ↦ led_to qs ps ]) else led_to (p ∷ at) ps)

-- a file's folder, the last step first
abbrev pub folder_of : List Bytes → List Bytes
folder_of [] = []
folder_of (p ∷ ps) = ps

-- whether a path begins at the root, which leads out of the program's folder
abbrev pub is_rooted : Bytes → Bool
is_rooted [] = false
is_rooted (b ∷ bs) = nat_eq b 47

abbrev pub path_from : Bytes → Bytes → Option Bytes
path_from file path =
    if is_rooted path then None
    else (elim (led_to (folder_of (reverse (parts_of [] file))) (parts_of [] path)) [
      | None ↦ None
      | Some ps ↦ Some (joined (reverse ps))
    ])
