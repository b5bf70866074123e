-- Defaults of parameters, one after another.
use Rattle.std.proofs.Common.{◌≡◌, ℕ, Bool, true, if◌then◌else◌, List, [], ◌∷◌, ◌++◌, Some, refl, ap, sym, ◌∙◌, append-nil}
use Rattle.php_tree.specs.declared.kind.NodeKind.{NodeKind}
use Rattle.php_rows.specs.declared.parts.Parts.{Parts}
use Rattle.program_points.specs.declared.point.Point.TheVariants.{Before, After}
use Rattle.program_points.specs.declared.piece.Piece.{Piece}
use Rattle.program_points.specs.declared.piece.Piece.TheVariants as piece
use Rattle.program_points.specs.Pieces.{Pieces, end, defaults, default_of, exprs, is_param, pieces}
use Rattle.php_rows.specs.Reading.{forest_in}
use Rattle.program_points.specs.Rows.{chain, from_default, head_of}
use Rattle.program_points.specs.Chosen.{piece_to}

pub defaults_piece : (x : Piece) (ps : Pieces) → defaults (piece_to x ps) ≡ defaults (piece_to x end) ++ defaults ps
defaults_piece (piece.Word t) ps = refl
defaults_piece (piece.Expr n) ps = refl
defaults_piece (piece.Stmt n) ps = refl
defaults_piece (piece.Other k n inner) ps =
    ap (λ xs. xs ++ defaults ps) (sym (append-nil (default_of k (pieces inner.number (forest_in inner)))))

-- the default of a parameter alone
pub default_param : (k : NodeKind) (n : ℕ) (inner : Parts) → is_param k ≡ true →
    defaults (piece_to (piece.Other k n inner) end) ≡ exprs (pieces inner.number (forest_in inner))
default_param k n inner e =
    let ds = exprs (pieces inner.number (forest_in inner)) in
    append-nil (default_of k (pieces inner.number (forest_in inner))) ∙ ap (λ (b : Bool). if b then ds else []) e

-- a body that begins with something
pub from_default_some : (n d : ℕ) (ds bs : List ℕ) (b : ℕ) → head_of bs ≡ Some b → from_default n d ds bs ≡ chain n (After d) ds (Before b)
from_default_some n d ds [] b e = cc
from_default_some n d ds (x ∷ bs) b e = let f : x ≡ b = cc in ap (λ (y : ℕ). chain n (After d) ds (Before y)) f
