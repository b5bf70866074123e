use Rattle.std.proofs.Common.{drop}
use Rattle.php_terminals.proofs.MarksMade.{Marking}
use Rattle.php_terminals.proofs.marking.marks_of.Given as goal

abbrev pub invariant-loop-token : goal.invariant-loop-token
invariant-loop-token l = Marking l.bytes.items l.tokens (drop l.token-index l.tokens) l.at l.marks.items
