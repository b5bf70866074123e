-- The reports of a file, in the order of a walk: the places at which a rule on syntax is undecided, those of forms of which
-- nothing is claimed, and those of rules that are off.
use Rattle.std.specs.Prelude.{ℕ, zero, suc, ◌&&◌, List, [], ◌++◌}
use Rattle.php_tree.specs.declared.kind.NodeKind.{NodeKind}
use Rattle.php_tree.specs.declared.kind.NodeKind.TheVariants as kind
use Rattle.php_tree.specs.Tree.{Forest, none, leaf, node, Tree, File, file_leaves}
use Rattle.php_tree.specs.Places.{behind, end_of}
use Rattle.php_terminals.specs.declared.terminal.Terminal.TheVariants as t
use Rattle.php_terminals.specs.Classify.{terminal}
use Rattle.syntax_upgrade.specs.Found.{Report}
use Rattle.syntax_upgrade.specs.NameHeads.{head_at}
use Rattle.syntax_upgrade.specs.NodeRule.{all_of}
use Rattle.syntax_upgrade.specs.node_rules.{node_rules}
use Rattle.syntax_upgrade.specs.ReservedName.{Standing, at_first, past, past_node, class_by, next, is_last, refuses, refuses_last, refused_if}
use Rattle.syntax_rules.specs.declared.rules.Rules.{Rules}
use Rattle.syntax_upgrade.specs.Enums.{enums}
use Rattle.syntax_upgrade.specs.OffPlaces.{off_reports}

-- what the rules and forms that report nodes say of one whose trivia begin at a place
abbrev pub at_node : ℕ → Tree → List Report
at_node at n = all_of node_rules at n

-- Those of the own parts of a node, the first so many tokens inside a name, and of the nodes inside it.
abbrev pub reports_in : NodeKind → Standing → ℕ → ℕ → Forest → List Report
reports_in k s more at none = []
reports_in k s zero at (leaf x f) =
    refused_if (is_last (head_at x f).more && refuses k s (terminal x) (next f)) at x
    ++ reports_in k (past s (class_by (head_at x f).more (terminal x))) (head_at x f).more (behind at x) f
reports_in k s (suc more) at (leaf x f) =
    refused_if (is_last more && refuses_last k s (terminal x) (next f)) at x ++ reports_in k s more (behind at x) f
reports_in k s more at (node j b f) =
    (reports_in j at_first zero at b ++ at_node at (j, b)) ++ reports_in k (past_node s) zero (end_of at b) f

-- The undecided places of a file: its statements stand as in a block, and the labels `enum` that 8.1 reads as a keyword come last.
abbrev pub reports : File → List Report
reports f = reports_in kind.Block at_first zero 0 f.statements ++ enums t.End 0 (file_leaves f)

-- The reports of a file, with those of the rules that are off.
abbrev pub reports_by : Rules → File → List Report
reports_by r f = reports f ++ off_reports r f
