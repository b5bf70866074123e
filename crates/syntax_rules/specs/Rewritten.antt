-- A file rewritten by the rules on syntax that are on, and by all of them: its draft, and what is read off it.
use Rattle.std.specs.Prelude.{Bool, true, false, if◌then◌else◌, List, [], ◌∷◌, ◌++◌, Option, unwrap_or, slice_get}
use Rattle.span_edits.specs.declared.edit.Edit.{Edit}
use Rattle.php_tree.specs.Tree.{Forest, none, leaf, node, Tree, File}
use Rattle.tracked_changes.specs.patches.Patches.{Patches, Wrapping}
use Rattle.tracked_changes.specs.Draft.{FileDraft, rewritten_file}
use Rattle.tracked_changes.specs.Edits as draft
use Rattle.syntax_rules.specs.declared.rules.Rules.{Rules}
use Rattle.syntax_rules.specs.Around.{Around, within, at_top, kind_if_first}
use Rattle.syntax_rules.specs.NestedTernary as nested
use Rattle.syntax_rules.specs.DotPrecedence.{around_dot}
use Rattle.syntax_rules.specs.Together.{syntax_draft, every_rule}

-- ---- by the rules that are on

-- what is put round a node by the rules that group
abbrev pub wrapping_by : Rules → Option Around → Tree → List Wrapping
wrapping_by r a t =
    (if r.nested_ternaries then nested.around (kind_if_first a) t.0 else [])
    ++ (if r.dot_operands then around_dot a t else [])

-- what is put round each node in preorder: where the parts of these stand, and whether the next is the first of its node
abbrev pub wrappings_by : Rules → (Bool → Option Around) → Bool → Forest → List (List Wrapping)
wrappings_by r around is_first none = []
wrappings_by r around is_first (leaf t f) = wrappings_by r around false f
wrappings_by r around is_first (node k c f) =
    wrapping_by r (around is_first) (k, c) ∷ wrappings_by r (within k c) true c ++ wrappings_by r around false f

-- the same as a table by the nodes' numbers
abbrev pub patches_by : Rules → Forest → Patches
patches_by r f id = unwrap_or (slice_get (wrappings_by r at_top true f) id) []

-- The draft of a file.
abbrev pub draft_by : Rules → File → FileDraft
draft_by r f = syntax_draft (record { wraps = patches_by r f.statements; rules = r }) f

-- The edits of a file, in the order of a walk.
abbrev pub edits_by : Rules → File → List Edit
edits_by r f = draft.edits (draft_by r f)

-- The rewritten file.
abbrev pub rewritten_by : Rules → File → File
rewritten_by r f = rewritten_file (draft_by r f)

-- ---- by all rules

abbrev pub wrapping : Option Around → Tree → List Wrapping
wrapping a t = wrapping_by every_rule a t

abbrev pub wrappings : (Bool → Option Around) → Bool → Forest → List (List Wrapping)
wrappings around is_first f = wrappings_by every_rule around is_first f

abbrev pub patches : Forest → Patches
patches f id = patches_by every_rule f id

-- The draft of a file by all rules on syntax.
abbrev pub draft_of : File → FileDraft
draft_of f = draft_by every_rule f

-- The edits of a file, in the order of a walk.
abbrev pub edits : File → List Edit
edits f = edits_by every_rule f

-- The rewritten file.
abbrev pub rewritten : File → File
rewritten f = rewritten_by every_rule f
