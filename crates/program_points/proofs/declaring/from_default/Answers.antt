use Rattle.std.proofs.Common.{List, ap, sym, ◌∙◌, ◌++◌}
use Rattle.program_points.specs.declared.point.Point.TheVariants.{Before, After}
use Rattle.program_points.specs.Chosen.{chosen, pieces_of}
use Rattle.program_points.specs.Pieces.{exprs}
use Rattle.program_points.specs.Rows.{Edge}
use Rattle.program_points.proofs.ChainLemmas.{chain_after}
use Rattle.program_points.proofs.DeclaringLemmas.{from_default_some}
use Rattle.program_points.proofs.declaring.from_default.Goals as goal

pub returns-in_ok-add-in-Some : goal.returns-in_ok-add-in-Some
returns-in_ok-add-in-Some c =
    let n = c.args.node in
    let ds = exprs (pieces_of c.args.behind.now) in
    let e0 = c.args.edges.now.items in
    chain_after n (After c.args.default) c.in_ok-last.last ds (Before c.in-Some.first) e0 c.run.new.edges.items c.add.new.edges.items
    c.in_ok-last.ensures.edges c.in_ok-last.ensures.last c.in_ok-add-in-Some.ensures
    ∙ ap (λ (es : List Edge). e0 ++ es) (sym (from_default_some n c.args.default ds (chosen c.args.which (pieces_of c.args.pieces.now)) c.in-Some.first (sym c.in-Some.ensures)))
