-- Kinds of nodes that a path is read from.
use Rattle.std.specs.Prelude.{Bool, true, false}
use Rattle.php_tree.specs.declared.kind.NodeKind.{NodeKind}
use Rattle.php_tree.specs.declared.kind.NodeKind.TheVariants as kind

abbrev pub is_text_kind : NodeKind → Bool
is_text_kind kind.Text = true
is_text_kind _ = false

abbrev pub is_binary_kind : NodeKind → Bool
is_binary_kind kind.Binary = true
is_binary_kind _ = false

abbrev pub is_constant_kind : NodeKind → Bool
is_constant_kind kind.Constant = true
is_constant_kind _ = false
