use Rattle.std.proofs.Common.{◌≡◌, ◌≤◌, ℕ, ◌+◌, List, ◌++◌, length, drop, sym, ap, ◌∙◌, append_assoc, arith}
use Rattle.php_tree.specs.Tree.{Forest, file_printed, forest_of, nodes_forest, printed, token_bytes}
use Rattle.php_tree.specs.Whole.{file}
use Rattle.php_tree.proofs.Trees.{nodes_forest-drop}
use Rattle.trivia_printer.proofs.Buffers.{written_step}
use Rattle.trivia_printer.proofs.into.print_into.Goals as goal

pub loop-statement-preserved : goal.loop-statement-preserved
loop-statement-preserved c =
    let ss = c.statements-statement-items.result.now in
    let i = c.loop-statement.statement-index in
    let end = token_bytes (file c.args.tree.now).end in
    let xs = printed (forest_of c.statement-item.result.parts) in
    let ys = printed (nodes_forest (drop (i + 1) ss)) ++ end in
    let all = printed (nodes_forest (drop i ss)) ++ end in
    let whole = file_printed (file c.args.tree.now) in
    let here = nodes_forest-drop ss i _ c.statement-item.result c.loop-statement-test.true (sym c.statement-item.is) in
    let split : all ≡ xs ++ ys = ap (λ (f : Forest). printed f ++ end) here ∙ append_assoc xs (printed (nodes_forest (drop (i + 1) ss))) end in
    let room : 0 + length whole ≤ length c.args.out.now = omega (arith, c.requires) in
    let sum : c.loop-statement.place + length all ≡ 0 + length whole = omega (arith, c.loop-statement.invariant.place) in
    let s = written_step c.args.out.now c.loop-statement.out c.write_node-place.new.out 0 c.loop-statement.place
    c.write_node-place.result xs ys all whole c.write_node-place.ensures.written c.write_node-place.ensures.place
    split sum room c.loop-statement.invariant.room c.loop-statement.invariant.bytes in
    record { place = omega (arith, s.0); bytes = s.1; room = s.2 }
