use Rattle.std.proofs.Common.{map, ◌≡◌, take}
use Rattle.php_terminals.specs.Marked.{token_at}
use Rattle.php_lexer.proofs.lexer.tokens_of_marks.Given as goal

abbrev pub invariant-loop-mark : goal.invariant-loop-mark
invariant-loop-mark l = l.tokens.items ≡ map (token_at l.bytes) (take l.mark-index l.marks)
