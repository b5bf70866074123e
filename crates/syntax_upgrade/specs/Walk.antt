-- The node whose parts are walked.
use Rattle.std.specs.Prelude.{ℕ, Bool, List, Option, Some, None}
use Rattle.php_tree.specs.declared.kind.NodeKind.{NodeKind}
use Rattle.php_tree.specs.declared.kind.NodeKind.TheVariants as kind
use Rattle.syntax_rules.specs.Around.{Around}
use Rattle.syntax_rules.specs.InContext.{around_of}

-- the kind by which words are refused: the statements of a file stand as in a block
abbrev pub kind_of : Option NodeKind → NodeKind
kind_of None = kind.Block
kind_of (Some k) = k

-- where its parts stand
abbrev pub around_home : Option NodeKind → List ℕ → Bool → Option Around
around_home outer operator is_first = around_of outer operator is_first
