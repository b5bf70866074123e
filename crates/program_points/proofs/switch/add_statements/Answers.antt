use Rattle.std.proofs.Common.{rules, List, ℕ, ap, sym, ◌∙◌, ◌++◌}
use Rattle.program_points.specs.declared.piece.Piece.{Piece}
use Rattle.program_points.specs.Chosen.{piece_to, pieces_of}
use Rattle.program_points.specs.Pieces.{end, stmts}
use Rattle.program_points.specs.Rows.{all_statements}
use Rattle.program_points.proofs.SwitchLemmas.{statements_case}
use Rattle.program_points.proofs.switch.add_statements.Goals as goal

pub returns-in_ok-read_inner-in-Other : goal.returns-in_ok-read_inner-in-Other
returns-in_ok-read_inner-in-Other c =
    c.in_ok-read_inner-in-Other.ensures.stmts
    ∙ ap (λ (xs : List ℕ). stmts (pieces_of c.args.all.now.items) ++ xs)
    (sym (statements_case c.in-Other.kind c.in-Other.field-1 c.in-Other.parts (search (rules, c.is_case.ensures, c.if-not-is_case.false)))
    ∙ ap (λ (x : Piece). all_statements (piece_to x end)) (sym c.in-Other.is))
