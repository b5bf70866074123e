use Rattle.std.proofs.Common.{length, ◌-◌, map, All}
use Rattle.php_terminals.specs.Marked.{IsMark, token_at}
use Rattle.php_lexer.specs.Views.{Front}
use Rattle.php_lexer.proofs.lexer.read.Given as goal

abbrev pub invariant-loop-at : goal.invariant-loop-at
invariant-loop-at l = Front l.version l.bytes (map (token_at l.bytes) l.marks.items) l.mode l.below.items l.opens.items l.lead l.at × All (IsMark l.bytes) l.marks.items

abbrev pub decreases-loop-at : goal.decreases-loop-at
decreases-loop-at l = length l.bytes - l.at
