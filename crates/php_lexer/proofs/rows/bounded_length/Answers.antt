use Rattle.php_lexer.proofs.Within.{tail_within}
use Rattle.php_lexer.proofs.rows.bounded_length.Goals as goal

pub returns-clause-within : goal.returns-clause-within
returns-clause-within c = tail_within c.args.label.now c.args.tail c.args.bytes.now c.tail_length.result c.tail_length.ensures
