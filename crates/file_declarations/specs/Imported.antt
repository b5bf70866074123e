-- Imports, as the definitions see them.
use Rattle.std.specs.Prelude.{◌≡◌, List, ◌++◌, map, reverse}
use Rattle.scope_names.specs.Imports as spec
use Rattle.file_declarations.specs.declared.import_sort.ImportSort.{ImportSort}
use Rattle.file_declarations.specs.declared.import_sort.ImportSort.TheVariants.{Class, Function, Constant}
use Rattle.file_declarations.specs.declared.import.Import.{Import}

abbrev pub sort_of : ImportSort → spec.Sort
sort_of Class = spec.OfClass
sort_of Function = spec.OfFunction
sort_of Constant = spec.OfConstant

abbrev pub import_of : Import → spec.Import
import_of i = record { sort = sort_of i.sort; alias = i.alias; full = i.full }

-- some imports, the last one of which stands first
abbrev pub last_first : List Import → List spec.Import
last_first is = map import_of (reverse is)

-- some imports behind others
abbrev pub IsLonger : List Import → List Import → Type 0
IsLonger old new = (more : List Import) × (new ≡ old ++ more)

-- these imports behind others, the last one first
pub record IsImported (old new : List Import) (is : List spec.Import) : Type 0 where
  pub more : List Import
  pub longer : new ≡ old ++ more
  pub are : last_first more ≡ is
