use Rattle.std.proofs.Common.{◌≡◌, ◌≤◌, drop, length}
use Rattle.php_tree.specs.Tree.{forest_of}
use Rattle.scope_names.specs.Form.{parts}
use Rattle.node_names.specs.Drafts.{stacked}
use Rattle.node_names.proofs.forms.drafts_of.Given as goal

abbrev pub invariant-loop-left : goal.invariant-loop-left
invariant-loop-left l = record {
  within : l.left ≤ length l.parts;
  stacked : stacked l.drafts.items ≡ parts (forest_of (drop l.left l.parts));
}

abbrev pub decreases-loop-left : goal.decreases-loop-left
decreases-loop-left l = l.left
