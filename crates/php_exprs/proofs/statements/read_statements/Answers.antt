use Rattle.std.proofs.lemmas.Result.{err_from_is_err_and}
use Rattle.php_terminals.specs.Tokens.{tokens_in}
use Rattle.php_exprs.specs.Built.{State}
use Rattle.php_exprs.proofs.StatementLemmas.{IsFirst, statements_found, statements_only, statements_none}
use Rattle.php_exprs.proofs.statements.read_statements.Goals as goal

pub returns-clause-found : goal.returns-clause-found
returns-clause-found c =
    let first : IsFirst (c.new-row.result, c.new-reach.result) = record { nodes = c.new-row.ensures.nodes; at = c.new-row.ensures.at; deep = c.new-reach.ensures.deep } in
    statements_found c.args.version c.args.limit (tokens_in c.args.tokens) (c.new-row.result, c.new-reach.result)
    (c.statements.new.row, c.statements.new.reach) first c.in_ok-statements.ensures

pub returns-clause-only : goal.returns-clause-only
returns-clause-only c f rest p =
    let first : IsFirst (c.new-row.result, c.new-reach.result) = record { nodes = c.new-row.ensures.nodes; at = c.new-row.ensures.at; deep = c.new-reach.ensures.deep } in
    statements_only c.args.version c.args.limit (tokens_in c.args.tokens) (c.new-row.result, c.new-reach.result)
    (c.statements.new.row, c.statements.new.reach) first c.in_ok-statements.ensures f rest p

pub returns-in_err-statements-clause-only : goal.returns-in_err-statements-clause-only
returns-in_err-statements-clause-only c f rest q =
    let p = err_from_is_err_and c.from_residual.result c.from_residual.ensures.1 in
    let first : IsFirst (c.new-row.result, c.new-reach.result) = record { nodes = c.new-row.ensures.nodes; at = c.new-row.ensures.at; deep = c.new-reach.ensures.deep } in
    rw (p.1, p.2) (statements_none c.args.version c.args.limit (tokens_in c.args.tokens)
    (c.new-row.result, c.new-reach.result) (c.statements.new.row, c.statements.new.reach) first
    c.in_err-statements.field-0.0 c.in_err-statements.ensures f rest q)
