-- From each statement of a file to the next.
use Rattle.std.proofs.Common.{◌≡◌, ℕ, List, ◌++◌, Option, Some, None, option_to_list, unwrap_or, refl, ap, ◌∙◌}
use Rattle.program_points.specs.declared.piece.Piece.{Piece}
use Rattle.program_points.specs.declared.piece.Which.TheVariants as which
use Rattle.program_points.specs.Pieces.{Pieces, stmts}
use Rattle.program_points.specs.Edges.{between_behind}
use Rattle.program_points.specs.Chosen.{piece_to, pick}
use Rattle.program_points.proofs.ChainLemmas.{chosen_piece}

one_more : (a : ℕ) (o : Option ℕ) (ns : List ℕ) → between_behind a (option_to_list o ++ ns) ≡ between_behind a (option_to_list o) ++ between_behind (unwrap_or o a) ns
one_more a None ns = refl
one_more a (Some b) ns = refl

pub between_piece : (a : ℕ) (x : Piece) (ps : Pieces) → between_behind a (stmts (piece_to x ps))
    ≡ between_behind a (option_to_list (pick which.Stmts x)) ++ between_behind (unwrap_or (pick which.Stmts x) a) (stmts ps)
between_piece a x ps = ap (between_behind a) (chosen_piece which.Stmts x ps) ∙ one_more a (pick which.Stmts x) (stmts ps)
