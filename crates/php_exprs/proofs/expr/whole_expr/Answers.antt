use Rattle.std.proofs.Common.{◌≡◌, ◌<◌, ◌≤◌, length, refl, sym, ap, ◌∙◌, arith}
use Rattle.php_terminals.specs.Tokens.{tokens_in}
use Rattle.php_rows.specs.Reading.{forest_in}
use Rattle.php_exprs.specs.Built.{behind}
use Rattle.php_tree.specs.Tree.{tree}
use Rattle.php_exprs.proofs.Exprs.{whole_count, whole_fails, whole_found, whole_inner, whole_none}
use Rattle.php_exprs.proofs.expr.whole_expr.Goals as goal

pub returns-then-len-at-clause-none : goal.returns-then-len-at-clause-none
returns-then-len-at-clause-none c e t p =
    let l = c.len.ensures in
    let a = c.at.ensures in
    whole_none c.args.version c.args.depth c.args.tokens.now (tokens_in c.args.placed) c.new-row.result
    c.read_node.new.row c.in-Ok.closed c.new-row.ensures.at (omega arith) c.requires.same c.in-Ok.ensures.only t p

pub inner-requires : goal.inner-requires
inner-requires c =
    let t = c.in-Ok.ensures.found.0 in
    let i = whole_inner c.args.version c.args.depth c.args.placed c.new-row.result c.read_node.new.row c.in-Ok.closed t c.new-row.ensures.nodes c.in-Ok.ensures.found.1 in
    (c.new-row.result, (t.0, (t.1, (behind (tokens_in c.args.placed) c.read_node.new.row, i))))

pub node_with-requires : goal.node_with-requires
node_with-requires c =
    let t = c.in-Ok.ensures.found.0 in
    let r = c.in-Ok.ensures.found.1 in
    let l = c.len.ensures in
    let a = c.at.ensures in
    let i = whole_inner c.args.version c.args.depth c.args.placed c.new-row.result c.read_node.new.row c.in-Ok.closed t c.new-row.ensures.nodes r in
    let parts = c.inner.ensures c.new-row.result t.0 t.1 (behind (tokens_in c.args.placed) c.read_node.new.row) i in
    whole_count c.args.version c.args.depth c.args.tokens.now (tokens_in c.args.placed) c.new-row.result
    c.read_node.new.row c.in-Ok.closed t (forest_in c.inner.result) c.new-row.ensures.at r (omega arith)
    c.requires.same parts

pub returns-in-Ok-clause-found : goal.returns-in-Ok-clause-found
returns-in-Ok-clause-found c =
    let t = c.in-Ok.ensures.found.0 in
    let r = c.in-Ok.ensures.found.1 in
    let l = c.len.ensures in
    let a = c.at.ensures in
    let i = whole_inner c.args.version c.args.depth c.args.placed c.new-row.result c.read_node.new.row c.in-Ok.closed t c.new-row.ensures.nodes r in
    let parts = c.inner.ensures c.new-row.result t.0 t.1 (behind (tokens_in c.args.placed) c.read_node.new.row) i in
    whole_found c.args.version c.args.depth c.args.tokens.now (tokens_in c.args.placed) c.new-row.result
    c.read_node.new.row c.in-Ok.closed t (tree c.in_ok-node_with-in-Ok.field-0) (forest_in c.inner.result)
    c.new-row.ensures.at r (omega arith) c.requires.same c.in_ok-node_with-in-Ok.ensures parts

pub returns-in-Err-NotInGrammar-clause-none : goal.returns-in-Err-NotInGrammar-clause-none
returns-in-Err-NotInGrammar-clause-none c e t p =
    whole_fails c.args.version c.args.depth c.args.tokens.now (tokens_in c.args.placed) c.new-row.result
    c.read_node.new.row c.in-Err-NotInGrammar.field-0 c.new-row.ensures.at c.in-Err-NotInGrammar.field-0-is
    c.requires.same c.in-Err-NotInGrammar.ensures.only t p
