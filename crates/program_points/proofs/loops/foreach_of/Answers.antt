use Rattle.std.proofs.Common.{ℕ, List, ap, sym, ◌∙◌, ◌++◌, codes}
use Rattle.program_points.specs.declared.point.Point.TheVariants.{Before}
use Rattle.program_points.specs.Chosen.{pieces_of}
use Rattle.program_points.specs.Pieces.{exprs, stmts, up_to}
use Rattle.program_points.specs.Rows.{foreach_loop}
use Rattle.program_points.proofs.LoopLemmas.{four_after, foreach_after, foreach_done}
use Rattle.program_points.proofs.loops.foreach_of.Goals as goal

pub returns-in-None : goal.returns-in-None
returns-in-None c =
    let n = c.args.node in
    let ws = exprs (pieces_of c.up_to-subject.result.now) in
    let ts = exprs (pieces_of c.targets.result.0.now) ++ exprs (pieces_of c.targets.result.1.now) ++ stmts (pieces_of c.args.pieces.now) in
    let e0 = c.args.edges.now.items in
    foreach_done n ws ts e0 c.run.new.edges.items c.add.new.edges.items c.in_ok-begun.begun (sym c.in-None.ensures)
    c.in_ok-begun.ensures.edges c.in_ok-begun.ensures.last c.in_ok-add-in-None.ensures
    ∙ ap (λ (w : List ℕ). e0 ++ foreach_loop n w ts) (ap exprs c.up_to-subject.ensures)
    ∙ ap (λ (t : List ℕ). e0 ++ foreach_loop n (exprs (up_to (codes "as") (pieces_of c.args.pieces.now))) t) c.targets.ensures

pub returns : goal.returns
returns c =
    let n = c.args.node in
    let ws = exprs (pieces_of c.up_to-subject.result.now) in
    let xs = exprs (pieces_of c.targets.result.0.now) in
    let ys = exprs (pieces_of c.targets.result.1.now) in
    let zs = stmts (pieces_of c.args.pieces.now) in
    let e0 = c.args.edges.now.items in
    foreach_after n ws xs ys zs c.in-Some.again e0 c.add-2.new.edges.items c.add-3.new.edges.items c.add-4.new.edges.items
    c.in_ok-begun.begun c.in_ok-written.written c.in_ok-ready.ready c.in_ok-passed.passed (sym c.in-Some.ensures)
    c.in_ok-begun.ensures.last c.in_ok-written.ensures.last c.in_ok-ready.ensures.last c.in_ok-passed.ensures.last
    (four_after n ws xs ys zs (Before c.in-Some.again) e0 c.run.new.edges.items c.run-2.new.edges.items c.run-3.new.edges.items c.run-4.new.edges.items c.add-2.new.edges.items
    c.in_ok-begun.begun c.in_ok-written.written c.in_ok-ready.ready c.in_ok-passed.passed
    c.in_ok-begun.ensures.edges c.in_ok-begun.ensures.last c.in_ok-written.ensures.edges c.in_ok-written.ensures.last
    c.in_ok-ready.ensures.edges c.in_ok-ready.ensures.last c.in_ok-passed.ensures.edges c.in_ok-passed.ensures.last c.in_ok-add.ensures)
    c.in_ok-add-2.ensures c.in_ok-add-3.ensures
    ∙ ap (λ (w : List ℕ). e0 ++ foreach_loop n w (xs ++ ys ++ zs)) (ap exprs c.up_to-subject.ensures)
    ∙ ap (λ (t : List ℕ). e0 ++ foreach_loop n (exprs (up_to (codes "as") (pieces_of c.args.pieces.now))) t) c.targets.ensures
