use Rattle.std.proofs.Common.{ap, sym, ◌∙◌, ◌++◌}
use Rattle.program_points.specs.declared.point.Point.TheVariants.{Before}
use Rattle.program_points.specs.Chosen.{pieces_of}
use Rattle.program_points.specs.Pieces.{exprs, stmts}
use Rattle.program_points.proofs.LoopLemmas.{four_after, for_after, for_none}
use Rattle.program_points.proofs.loops.for_loop.Goals as goal

pub returns-in-None : goal.returns-in-None
returns-in-None c =
    let is = exprs (pieces_of c.args.first.now) in
    let cs = exprs (pieces_of c.args.tests.now) in
    let ss = stmts (pieces_of c.args.statements.now) in
    let ts = exprs (pieces_of c.args.steps.now) in
    c.in_ok-begun.ensures.edges ∙ ap (λ es. c.args.edges.now.items ++ es) (sym (for_none c.args.node is cs ss ts (sym c.in-None.ensures)))

pub returns : goal.returns
returns c =
    let n = c.args.node in
    let is = exprs (pieces_of c.args.first.now) in
    let cs = exprs (pieces_of c.args.tests.now) in
    let ss = stmts (pieces_of c.args.statements.now) in
    let ts = exprs (pieces_of c.args.steps.now) in
    let e0 = c.args.edges.now.items in
    for_after n is cs ss ts c.in-Some.again e0 c.add.new.edges.items c.exit_of.new.edges.items (sym c.in-Some.ensures)
    (four_after n is cs ss ts (Before c.in-Some.again) e0 c.run.new.edges.items c.run-2.new.edges.items c.run-3.new.edges.items c.run-4.new.edges.items c.add.new.edges.items
    c.in_ok-begun.begun c.in_ok-tested.tested c.in_ok-passed.passed c.in_ok-stepped.stepped
    c.in_ok-begun.ensures.edges c.in_ok-begun.ensures.last c.in_ok-tested.ensures.edges c.in_ok-tested.ensures.last
    c.in_ok-passed.ensures.edges c.in_ok-passed.ensures.last c.in_ok-stepped.ensures.edges c.in_ok-stepped.ensures.last c.in_ok-add.ensures)
    c.in_ok-exit_of.ensures
