use Rattle.std.proofs.Common.{◌≡◌, drop}
use Rattle.php_terminals.specs.Indents.{last_line}
use Rattle.php_terminals.proofs.indents.last_line.Given as goal

abbrev pub invariant-loop-i : goal.invariant-loop-i
invariant-loop-i l = last_line l.text l.text ≡ last_line l.line (drop l.i l.text)
