use Rattle.program_points.specs.Chosen.{pieces_of}
use Rattle.program_points.specs.Pieces.{exprs, stmts}
use Rattle.program_points.proofs.LoopLemmas.{do_after}
use Rattle.program_points.proofs.loops.do_loop.Goals as goal

pub returns : goal.returns
returns c =
    do_after c.args.node (stmts (pieces_of c.args.pieces.now)) (exprs (pieces_of c.args.pieces.now))
    c.args.edges.now.items c.run.new.edges.items c.run-2.new.edges.items c.add.new.edges.items c.add-2.new.edges.items
    c.first_or-test.result c.first_or-again.result c.in_ok-passed.passed c.in_ok-end.end c.last_or-tested.result
    c.first_or-test.ensures c.first_or-again.ensures c.in_ok-passed.ensures.edges c.in_ok-passed.ensures.last
    c.in_ok-end.ensures.edges c.in_ok-end.ensures.last c.in_ok-add.ensures c.last_or-tested.ensures c.in_ok-add-2.ensures
