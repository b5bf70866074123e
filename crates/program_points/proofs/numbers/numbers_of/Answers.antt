use Rattle.std.proofs.Common.{◌≡◌, arith}
use Rattle.php_tree.specs.Tree.{count}
use Rattle.php_rows.specs.File.{file_in}
use Rattle.program_points.specs.Numbers.{nodes_of}
use Rattle.program_points.proofs.NumberLemmas.{counted_step, counted_last}
use Rattle.program_points.proofs.numbers.numbers_of.Goals as goal

pub loop-id-preserved : goal.loop-id-preserved
loop-id-preserved c =
    counted_step (nodes_of c.args.tree.now) c.args.first c.loop-id.next c.in_ok-next.next c.loop-id.id c.loop-id.numbers.items c.add_at.new.numbers.items
    c.in_ok-next.ensures.numbers c.in_ok-next.ensures.behind c.loop-id.invariant

pub returns-clause-numbers : goal.returns-clause-numbers
returns-clause-numbers c =
    let e : c.loop-id.id ≡ count (file_in c.args.tree.now).statements = omega (arith, c.nodes-id-end.ensures, c.loop-id-test.false, c.loop-id.auto.id-end) in
    (counted_last c.args.tree.now c.args.first c.loop-id.next c.loop-id.id c.loop-id.numbers.items e c.loop-id.invariant).0

pub returns-clause-behind : goal.returns-clause-behind
returns-clause-behind c =
    let e : c.loop-id.id ≡ count (file_in c.args.tree.now).statements = omega (arith, c.nodes-id-end.ensures, c.loop-id-test.false, c.loop-id.auto.id-end) in
    (counted_last c.args.tree.now c.args.first c.loop-id.next c.loop-id.id c.loop-id.numbers.items e c.loop-id.invariant).1
