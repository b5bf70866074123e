use Rattle.std.proofs.Common.{◌≡◌, drop}
use Rattle.php_spellings.specs.declared.table.State.TheVariants.{First}
use Rattle.php_lexer.specs.Scan.{until_len, add_to}
use Rattle.php_lexer.proofs.walks.until_length.Given as goal

abbrev pub invariant-loop-at : goal.invariant-loop-at
invariant-loop-at l = until_len l.until First l.bytes ≡ add_to l.at (until_len l.until l.state (drop l.at l.bytes))
