-- Where code stands, as the walk over a file has it.
use Rattle.std.specs.Prelude.{ℕ, List, drop, Option, Some, None, option_map, Vec}
use Rattle.std.specs.declared.alloc.Global.{Global}
use Rattle.php_tree.specs.declared.kind.NodeKind.{NodeKind}
use Rattle.php_tree.specs.declared.kind.NodeKind.TheVariants as kind
use Rattle.scope_names.specs.Imports.{Import as SpecImport}
use Rattle.scope_names.specs.Slot.{Declared}
use Rattle.scope_names.specs.Sites.{Site, is_declaration, one_if}
use Rattle.node_names.specs.Slots.{Standing, is_closure}
use Rattle.file_declarations.specs.declared.import.Import.{Import}
use Rattle.file_declarations.specs.Imported.{last_first}
use Rattle.file_declarations.specs.Standing.{space_or}
use Rattle.file_declarations.specs.Texts.{text_option}
use Rattle.node_facts.specs.declared.opened.Opened.{Opened}
use Rattle.node_facts.specs.Opened.{names_in}
use Rattle.node_facts.specs.declared.counts.Counts.{Counts}
use Rattle.node_facts.specs.declared.scene.Scene.{Scene}
use Rattle.node_facts.specs.declared.spot.Spot.{Spot}

-- a declaration of a file
abbrev pub declared_in : List ℕ → ℕ → Declared
declared_in path n = record { file = path; number = n }

-- the site at a spot, where these imports count
abbrev pub site_with : Spot → List SpecImport → ℕ → Site
site_with s is n = record {
  file = s.path.now;
  number = n;
  body = option_map (declared_in s.path.now) s.body;
  space = s.space.now;
  imports = is;
  class = text_option s.class;
  parent = text_option s.parent;
  members = option_map text_option s.members;
}

abbrev pub standing_with : Spot → List SpecImport → Counts → Standing
standing_with s is c = record { site = site_with s is c.number; closure = s.closure; next = c.next }

-- the standing at a spot, behind some imports
abbrev pub standing_at : Spot → List Import → Counts → Standing
standing_at s is c = standing_with s (last_first (drop s.from is)) c

-- the standing of a node
abbrev pub standing_of : Scene → Standing
standing_of s = standing_with s.spot (last_first s.imports.now) s.counts

abbrev pub site_of : Scene → Site
site_of s = (standing_of s).site

abbrev pub site_at : Spot → List Import → ℕ → Site
site_at s is n = site_with s (last_first (drop s.from is)) n

-- the innermost closure inside a node of a kind
abbrev pub closure_by : NodeKind → Option ℕ → ℕ → Option ℕ
closure_by kind.Closure closure next = Some next
closure_by kind.Arrow closure next = Some next
closure_by kind.Function closure next = None
closure_by kind.Method closure next = None
closure_by k closure next = closure

-- where the children of a node of a kind stand that opens something
abbrev pub stands_by : Opened → NodeKind → Standing → Standing
stands_by o k p = record {
  site = record (names_in o p.site) { number = one_if (is_declaration k) p.site.number };
  closure = closure_by k p.closure p.next;
  next = one_if (is_closure k) p.next;
}

-- the standing among the parts at a spot, where a namespace may have begun among them
abbrev pub standing_among : Spot → Option (Vec ℕ Global) → ℕ → List Import → Counts → Standing
standing_among s own from is c = record {
  site = record (site_with s (last_first (drop from is)) c.number) { space = space_or s.space.now own };
  closure = s.closure;
  next = c.next;
}
