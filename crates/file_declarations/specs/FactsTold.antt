-- What nodes tell, read from the facts of the nodes.
use Rattle.std.specs.Prelude.{◌≡◌, ℕ, suc, true, List, [], ◌∷◌, ◌++◌}
use Rattle.php_tree.specs.Tree.{Forest}
use Rattle.scope_names.specs.Sites.{file_site}
use Rattle.node_names.specs.Facts.{Fact, file_facts}
use Rattle.file_declarations.specs.declared.told.Told.{Told}
use Rattle.file_declarations.specs.Told.{told, declared_told, extends_told, path_told}

-- what a node with a number in the file with a number tells
abbrev pub fact_told : ℕ → ℕ → Fact → List Told
fact_told f n x =
    declared_told (record { file = f; node = n }) x.is_top x.declares ++ extends_told x.declares x.extends ++ path_told f x.includes

-- what the nodes tell, from the one with a number on
abbrev pub facts_told : ℕ → ℕ → List Fact → List Told
facts_told f n [] = []
facts_told f n (x ∷ xs) = fact_told f n x ++ facts_told f (suc n) xs

-- what a file tells is what the facts of its nodes tell
abbrev pub FilesTellTheirFacts : Type 0
FilesTellTheirFacts = (path : List ℕ) (f : ℕ) (g : Forest) → told f 0 (file_site path) true g ≡ facts_told f 0 (file_facts path g)
