-- The edits of a source that make the changes of a table, in the order of a walk: what opens a node when it is entered,
-- and what closes it when it is left.
use Rattle.std.specs.Prelude.{ℕ, suc, ◌+◌, List, [], ◌∷◌, ◌++◌}
use Rattle.std.proofs.Math.Nat.{le_refl}
use Rattle.span_edits.specs.declared.edit.Edit.{Edit}
use Rattle.php_tree.specs.declared.token.Token.{Token}
use Rattle.php_tree.specs.Tree.{Forest, none, leaf, node, File, leaves, count}
use Rattle.php_tree.specs.Ids.{first_or, place_of}
use Rattle.tracked_changes.specs.patches.Patches.{Patches, Wrapping, opening, closing}

-- a text put in at a place
abbrev pub insertion : ℕ → List ℕ → Edit
insertion at text = record { span = record { start = at; end = at; ordered = le_refl at }; text = text }

-- what opens a node that begins at a place, the outermost first
abbrev pub openings : ℕ → List Wrapping → List Edit
openings at [] = []
openings at (w ∷ ws) = insertion at (opening w) ∷ openings at ws

-- what closes a node that ends at a place, the outermost last
abbrev pub closings : ℕ → List Wrapping → List Edit
closings at [] = []
closings at (w ∷ ws) = closings at ws ++ insertion at (closing w) ∷ []

-- The edits of a forest, whose first node has the number `id`, where this token follows.
abbrev pub edits_of : Patches → ℕ → Forest → Token → List Edit
edits_of p id none next = []
edits_of p id (leaf t f) next = edits_of p id f next
edits_of p id (node k c f) next =
    openings (place_of (leaves c) (first_or (leaves f) next)).0 (p id)
    ++ edits_of p (suc id) c (first_or (leaves f) next)
    ++ closings (place_of (leaves c) (first_or (leaves f) next)).1 (p id)
    ++ edits_of p (suc (id + count c)) f next

-- the edits of a file
abbrev pub edits : Patches → File → List Edit
edits p f = edits_of p 0 f.statements f.end
