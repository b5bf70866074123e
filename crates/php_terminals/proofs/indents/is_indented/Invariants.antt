use Rattle.std.proofs.Common.{◌≡◌, drop}
use Rattle.php_terminals.specs.Indents.{is_indented}
use Rattle.php_terminals.proofs.indents.is_indented.Given as goal

abbrev pub invariant-loop-i : goal.invariant-loop-i
invariant-loop-i l = is_indented l.indent l.fresh l.text ≡ is_indented l.indent l.begins (drop l.i l.text)
