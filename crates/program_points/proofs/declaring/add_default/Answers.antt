use Rattle.std.proofs.Common.{rules, List, ℕ, ap, sym, ◌∙◌, ◌++◌}
use Rattle.program_points.specs.declared.piece.Piece.{Piece}
use Rattle.program_points.specs.Chosen.{piece_to, pieces_of}
use Rattle.program_points.specs.Pieces.{defaults, end, exprs}
use Rattle.program_points.proofs.DeclaringLemmas.{default_param}
use Rattle.program_points.proofs.declaring.add_default.Goals as goal

pub returns-in_ok-read_inner-in-Other : goal.returns-in_ok-read_inner-in-Other
returns-in_ok-read_inner-in-Other c =
    c.in_ok-read_inner-in-Other.ensures.exprs
    ∙ ap (λ (xs : List ℕ). exprs (pieces_of c.args.all.now.items) ++ xs)
    (sym (default_param c.in-Other.kind c.in-Other.field-1 c.in-Other.parts (search (rules, c.is_param.ensures, c.if-not-is_param.false)))
    ∙ ap (λ (x : Piece). defaults (piece_to x end)) (sym c.in-Other.is))
