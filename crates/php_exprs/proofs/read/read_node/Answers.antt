use Rattle.php_terminals.specs.Tokens.{tokens_in}
use Rattle.php_exprs.proofs.Exact.{only_read, found_from}
use Rattle.php_exprs.proofs.read.read_node.Goals as goal

pub returns-clause-found : goal.returns-clause-found
returns-clause-found c = found_from c.args.version c.args.sort c.args.limit (tokens_in c.args.tokens) c.args.row.now c.node.new.row c.node.result c.node.ensures

pub returns-clause-only : goal.returns-clause-only
returns-clause-only c = only_read c.args.version c.args.sort c.args.limit (tokens_in c.args.tokens) c.args.row.now c.node.new.row c.node.result c.node.ensures
