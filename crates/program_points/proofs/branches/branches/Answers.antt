use Rattle.std.proofs.Common.{rules, ◌<◌, ◌++◌, ap, sym, subst, ◌∙◌, codes}
use Rattle.program_points.specs.declared.point.Point.TheVariants.{Before, After}
use Rattle.program_points.specs.Chosen.{pieces_of}
use Rattle.program_points.specs.Pieces.{Pieces, exprs, stmts}
use Rattle.program_points.specs.Rows as rows
use Rattle.program_points.proofs.BranchLemmas.{behind_less, branches_step, branches_end}
use Rattle.program_points.proofs.branches.branches.Goals as goal

pub returns-then-not-has_word : goal.returns-then-not-has_word
returns-then-not-has_word c =
    let n = c.args.node in
    let e0 = c.args.edges.now.items in
    branches_end n c.branches.from (pieces_of c.branches.left.now) (pieces_of c.behind-last.result.now) c.in-Some.condition (exprs (pieces_of c.in-Some.field-0-1.now))
    c.branches.edges.items c.add.new.edges.items c.chain.new.edges.items c.chain-then-not-has_word.new.edges.items
    (e0 ++ rows.branches (rows.size (pieces_of c.args.pieces.now)) n (Before n) (pieces_of c.args.pieces.now))
    (search (rules, c.in-Some.ensures, c.in-Some.condition-is, c.first_branch-front.ensures))
    (search (rules, c.has_word.ensures, c.if-not-has_word.true))
    c.behind-last.ensures c.in_ok-add.ensures
    (c.in_ok-chain.ensures ∙ ap (λ (qs : Pieces). c.add.new.edges.items ++ rows.chain n (After c.in-Some.condition) (stmts qs) (After n)) c.first_branch-front.ensures)
    c.in_ok-chain-2.ensures c.branches.invariant

pub branches-smaller : goal.branches-smaller
branches-smaller c =
    subst (λ (qs : Pieces). rows.size qs < rows.size (pieces_of c.branches.left.now)) (sym c.behind-left.ensures)
    (behind_less (codes "elseif") (pieces_of c.branches.left.now) (search (rules, c.has_word.ensures, c.if-not-has_word.false)))

pub branches-preserved : goal.branches-preserved
branches-preserved c =
    let n = c.args.node in
    let e0 = c.args.edges.now.items in
    branches_step n c.branches.from (pieces_of c.branches.left.now) (pieces_of c.behind-left.result.now) c.in-Some.condition (exprs (pieces_of c.in-Some.field-0-1.now))
    c.branches.edges.items c.add.new.edges.items c.chain.new.edges.items
    (e0 ++ rows.branches (rows.size (pieces_of c.args.pieces.now)) n (Before n) (pieces_of c.args.pieces.now))
    (search (rules, c.in-Some.ensures, c.in-Some.condition-is, c.first_branch-front.ensures))
    (search (rules, c.has_word.ensures, c.if-not-has_word.false))
    c.behind-left.ensures c.in_ok-add.ensures
    (c.in_ok-chain.ensures ∙ ap (λ (qs : Pieces). c.add.new.edges.items ++ rows.chain n (After c.in-Some.condition) (stmts qs) (After n)) c.first_branch-front.ensures)
    c.branches.invariant
