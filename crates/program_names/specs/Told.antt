-- What the nodes of all files tell.
use Rattle.std.specs.Prelude.{ℕ, zero, suc, List, [], ◌∷◌, ◌++◌}
use Rattle.file_declarations.specs.declared.told.Told.{Told}
use Rattle.file_declarations.specs.FactsTold.{facts_told}
use Rattle.program_names.specs.Table.{Table}

-- what the nodes tell of the files from the one with a number on, in the order of paths and places
abbrev pub told_from : ℕ → Table → List Told
told_from f [] = []
told_from f (xs ∷ more) = facts_told f zero xs ++ told_from (suc f) more

abbrev pub all_told : Table → List Told
all_told t = told_from zero t
