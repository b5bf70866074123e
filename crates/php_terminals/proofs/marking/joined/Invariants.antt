use Rattle.std.proofs.Common.{◌≡◌, ◌++◌, drop}
use Rattle.php_tree.specs.Tree.{tokens_bytes}
use Rattle.php_terminals.proofs.marking.joined.Given as goal

abbrev pub invariant-loop-token : goal.invariant-loop-token
invariant-loop-token l = l.bytes.items ++ tokens_bytes (drop l.token-index l.tokens) ≡ tokens_bytes l.tokens
