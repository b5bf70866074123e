-- Files by their paths.
use Rattle.std.specs.Prelude.{ℕ, ◌+◌, Bool, true, ◌&&◌, List, [], ◌∷◌, length}
use Rattle.std.specs.Ordering.{nat_cmp, is_lt}
use Rattle.std.specs.Cmp.Lexicographic.{slice_cmp}
use Rattle.php_tree.specs.Tree.{count, leaves}
use Rattle.php_rows.specs.declared.file.RowTree.{RowTree}
use Rattle.php_rows.specs.File.{file_in}

abbrev pub Files : Type 0
Files = List (List ℕ × RowTree)

-- whether the paths ascend strictly, byte by byte
abbrev pub are_ascending : Files → Bool
are_ascending [] = true
are_ascending (f ∷ []) = true
are_ascending (f ∷ g ∷ fs) = is_lt (slice_cmp nat_cmp f.0 g.0) && are_ascending (g ∷ fs)

-- how many nodes there are in all
abbrev pub nodes_in : Files → ℕ
nodes_in [] = 0
nodes_in (f ∷ fs) = count (file_in f.1).statements + nodes_in fs

-- how many tokens there are in all, with those at the files' ends
abbrev pub tokens_in : Files → ℕ
tokens_in [] = 0
tokens_in (f ∷ fs) = length (leaves (file_in f.1).statements) + 1 + tokens_in fs
