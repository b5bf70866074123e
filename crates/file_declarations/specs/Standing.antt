-- Where code stands, as the walk over a file has it.
use Rattle.std.specs.Prelude.{ℕ, List, drop, Option, Some, None, Vec}
use Rattle.std.specs.declared.alloc.Global.{Global}
use Rattle.scope_names.specs.Sites.{Site, file_site}
use Rattle.file_declarations.specs.declared.import.Import.{Import}
use Rattle.file_declarations.specs.Imported.{last_first}

-- The site in a file and a namespace, behind some imports, of which those from a place on count there.
abbrev pub site_at : List ℕ → List ℕ → ℕ → List Import → Site
site_at path space from is = record {
  file = path;
  number = 0;
  body = None;
  space = space;
  imports = last_first (drop from is);
  class = None;
  parent = None;
  members = None;
}

-- the namespace that began among some statements, or else that around them
abbrev pub space_or : List ℕ → Option (Vec ℕ Global) → List ℕ
space_or outer None = outer
space_or outer (Some v) = v.items
