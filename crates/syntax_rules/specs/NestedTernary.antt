-- Nested ternaries. In 7.4 a ternary groups to the left; 8.3 refuses a ternary that is the left part of another without
-- parentheses, unless both are `?:`. (RFC "Deprecate left-associative ternary operator", UPGRADING 8.0.)
use Rattle.std.specs.Prelude.{Bool, true, false, if◌then◌else◌, List, [], ◌∷◌, ◌++◌, map, Option, Some, None, unwrap_or, slice_get}
use Rattle.php_tree.specs.declared.kind.NodeKind.{NodeKind}
use Rattle.php_tree.specs.declared.kind.NodeKind.TheVariants.{Ternary, ShortTernary}
use Rattle.php_tree.specs.Tree.{Forest, none, leaf, node, File}
use Rattle.tracked_changes.specs.patches.Patches.{Patches, Wrapping, InParens}
use Rattle.tracked_changes.specs.patches.Rewritten.{rewritten_file}
use Rattle.php_meaning.specs.runs.World.{Bytes}
use Rattle.php_meaning.specs.runs.Run.{Program, Mark}
use Rattle.php_meaning.specs.laws.Laws.{KeepsMeaning}

-- The place: a ternary that is the left part of another, unless both are `?:`.
abbrev pub nests : NodeKind → NodeKind → Bool
nests Ternary Ternary = true
nests Ternary ShortTernary = true
nests ShortTernary Ternary = true
nests outer inner = false

-- The edit: the inner one is put in parentheses. No such place is kept, and none is undecided.
abbrev pub around : Option NodeKind → NodeKind → List Wrapping
around None inner = []
around (Some outer) inner = if nests outer inner then InParens ∷ [] else []

-- what is put round each node in preorder, where the first part stands leftmost in a node of this kind, if any
abbrev pub wrappings : Option NodeKind → Forest → List (List Wrapping)
wrappings outer none = []
wrappings outer (leaf t f) = wrappings None f
wrappings outer (node k c f) = around outer k ∷ wrappings (Some k) c ++ wrappings None f

-- the changes of a forest
abbrev pub nested_ternary : Forest → Patches
nested_ternary f id = unwrap_or (slice_get (wrappings None f) id) []

-- a file with its nested ternaries in parentheses
abbrev pub grouped : File → File
grouped f = rewritten_file (nested_ternary f.statements) f

-- the program of some files, by their paths
abbrev pub program : List (Bytes × File) → Option Bytes → Program
program files prepend = record { files = map (λ f. (f.0, f.1.statements)) files; prepend = prepend }

-- the same files with their nested ternaries in parentheses
abbrev pub all_grouped : List (Bytes × File) → List (Bytes × File)
all_grouped files = map (λ f. (f.0, grouped f.1)) files

-- Putting nested ternaries in parentheses changes no run that stays inside the profile.
abbrev pub GroupingKeepsMeaning : Type 0
GroupingKeepsMeaning =
    (files : List (Bytes × File)) (prepend : Option Bytes) (marks : List Mark)
    → KeepsMeaning (program files prepend) marks (program (all_grouped files) prepend)
