-- The site that names are read at.
use Rattle.std.specs.Prelude.{ℕ, List, [], None}
use Rattle.scope_names.specs.Sites.{Site}
use Rattle.file_declarations.specs.declared.class_name.Names.{Names}
use Rattle.file_declarations.specs.Imported.{last_first}

-- a site in a file, with a namespace and imports
abbrev pub site_in : List ℕ → Names → Site
site_in path n = record {
  file = path;
  number = 0;
  body = None;
  space = n.space.now;
  imports = last_first n.imports.now;
  class = None;
  parent = None;
  members = None;
}

-- the same in no file
abbrev pub names_site : Names → Site
names_site n = site_in [] n
