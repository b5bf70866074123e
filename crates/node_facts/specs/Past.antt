-- The numbers of the next declaration and closure, behind some nodes.
use Rattle.std.specs.Prelude.{◌+◌}
use Rattle.php_tree.specs.declared.kind.NodeKind.{NodeKind}
use Rattle.php_tree.specs.Tree.{Forest}
use Rattle.scope_names.specs.Sites.{declarations, is_declaration, one_if}
use Rattle.node_names.specs.Slots.{closures, is_closure}
use Rattle.node_facts.specs.declared.counts.Counts.{Counts}

-- behind a forest
abbrev pub past : Forest → Counts → Counts
past f c = record { number = declarations f + c.number; next = closures f + c.next }

-- inside a node of a kind
abbrev pub entered : NodeKind → Counts → Counts
entered k c = record { number = one_if (is_declaration k) c.number; next = one_if (is_closure k) c.next }
