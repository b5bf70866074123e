use Rattle.std.proofs.Common.{◌≡◌, ◌≤◌, length, sym, ◌∙◌}
use Rattle.php_terminals.specs.Tokens.{tokens_in}
use Rattle.php_rows.proofs.Fitting.{in_order}
use Rattle.php_rows.proofs.Leaves.{leaves_read}
use Rattle.php_rows.proofs.parts.Parts.own_tokens.Goals as goal

pub between-requires-clause-order : goal.between-requires-clause-order
between-requires-clause-order c = let p = c.args.self in in_order (length p.nodes.now) p.at p.end p.nodes.now p.nested

pub returns-clause-tokens : goal.returns-clause-tokens
returns-clause-tokens c =
    let p = c.args.self in
    c.between.ensures.tokens ∙ sym (leaves_read (length p.nodes.now) p.at p.end p.nodes.now (tokens_in p.tokens) p.nested)
