-- The edits of the source and the rewritten tree agree.
use Rattle.std.specs.Prelude.{◌≡◌, ◌≢◌, ℕ, suc, ◌+◌, []}
use Rattle.span_edits.specs.Splice.{spliced}
use Rattle.php_tree.specs.Tree.{Forest, none, leaf, node, File, leaves, count, file_leaves, file_printed}
use Rattle.php_tree.specs.Places.{ArePlaced}
use Rattle.tracked_changes.specs.patches.Patches.{Patches}
use Rattle.tracked_changes.specs.patches.Rewritten.{rewritten_file}
use Rattle.tracked_changes.specs.patches.Changes.{edits}

-- each node that is changed has a token
abbrev pub HaveTokens : Patches → ℕ → Forest → Type 0
HaveTokens p id none = Unit {0}
HaveTokens p id (leaf t f) = HaveTokens p id f
HaveTokens p id (node k c f) = (p id ≢ [] → leaves c ≢ []) × HaveTokens p (suc id) c × HaveTokens p (suc (id + count c)) f

-- The bytes of a file with the edits made are the bytes of the rewritten tree.
abbrev pub SplicedIsRewritten : Type 0
SplicedIsRewritten =
    (p : Patches) (f : File) → ArePlaced 0 (file_leaves f) → HaveTokens p 0 f.statements
    → spliced (file_printed f) (edits p f) ≡ file_printed (rewritten_file p f)
