use Rattle.program_points.specs.Chosen.{pieces_of}
use Rattle.program_points.specs.Pieces.{exprs, stmts}
use Rattle.program_points.proofs.LoopLemmas.{while_after}
use Rattle.program_points.proofs.loops.while_loop.Goals as goal

pub returns : goal.returns
returns c =
    while_after c.args.node (exprs (pieces_of c.args.pieces.now)) (stmts (pieces_of c.args.pieces.now))
    c.args.edges.now.items c.run.new.edges.items c.run-2.new.edges.items c.add.new.edges.items c.add-2.new.edges.items
    c.first_or-body.result c.first_or-again.result c.in_ok-tested.tested c.in_ok-passed.passed
    c.first_or-body.ensures c.first_or-again.ensures c.in_ok-tested.ensures.edges c.in_ok-tested.ensures.last
    c.in_ok-passed.ensures.edges c.in_ok-passed.ensures.last c.in_ok-add.ensures c.in_ok-add-2.ensures
