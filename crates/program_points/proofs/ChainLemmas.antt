-- Edges through nodes, one after another.
use Rattle.std.proofs.Common.{◌≡◌, ℕ, List, [], ◌∷◌, ◌++◌, Some, None, option_to_list, refl, sym, ap, ◌∙◌, append_assoc}
use Rattle.program_points.specs.declared.point.Point.{Point}
use Rattle.program_points.specs.declared.point.Point.TheVariants.{Before, After}
use Rattle.program_points.specs.declared.piece.Piece.{Piece}
use Rattle.program_points.specs.declared.piece.Piece.TheVariants as piece
use Rattle.program_points.specs.declared.piece.Which.{Which}
use Rattle.program_points.specs.declared.piece.Which.TheVariants as which
use Rattle.program_points.specs.Pieces.{Pieces}
use Rattle.program_points.specs.Rows.{Edge, edge, run, chain, first_or, last_or, head_of, until_missing}
use Rattle.program_points.specs.Chosen.{piece_to, chosen, pick}

-- a piece first
pub chosen_piece : (w : Which) (x : Piece) (ps : Pieces) → chosen w (piece_to x ps) ≡ option_to_list (pick w x) ++ chosen w ps
chosen_piece which.Exprs (piece.Word t) ps = refl
chosen_piece which.Exprs (piece.Expr n) ps = refl
chosen_piece which.Exprs (piece.Stmt n) ps = refl
chosen_piece which.Exprs (piece.Other k n inner) ps = refl
chosen_piece which.Stmts (piece.Word t) ps = refl
chosen_piece which.Stmts (piece.Expr n) ps = refl
chosen_piece which.Stmts (piece.Stmt n) ps = refl
chosen_piece which.Stmts (piece.Other k n inner) ps = refl
chosen_piece which.Steps (piece.Word t) ps = refl
chosen_piece which.Steps (piece.Expr n) ps = refl
chosen_piece which.Steps (piece.Stmt n) ps = refl
chosen_piece which.Steps (piece.Other k n inner) ps = refl

-- some nodes, and then others
pub run-append : (n : ℕ) (from : Point) (xs ys : List ℕ) → run n from (xs ++ ys) ≡ run n from xs ++ run n (last_or xs from) ys
run-append n from [] ys = refl
run-append n from (x ∷ xs) ys =
    ap (λ es. edge n from (Before x) ++ es) (run-append n (After x) xs ys)

pub last_or-append : (xs ys : List ℕ) (from : Point) → last_or (xs ++ ys) from ≡ last_or ys (last_or xs from)
last_or-append [] ys from = refl
last_or-append (x ∷ xs) ys from = last_or-append xs ys (After x)

pub first_or-append : (xs ys : List ℕ) (to : Point) → first_or (xs ++ ys) to ≡ first_or xs (first_or ys to)
first_or-append [] ys to = refl
first_or-append (x ∷ xs) ys to = refl

-- a chain is a run, and its last edge
pub chain_run : (n : ℕ) (from : Point) (xs : List ℕ) (to : Point) → chain n from xs to ≡ run n from xs ++ edge n (last_or xs from) to
chain_run n from [] to = refl
chain_run n from (x ∷ xs) to = ap (λ es. edge n from (Before x) ++ es) (chain_run n (After x) xs to)

-- a further piece was passed
pub run_piece : (n : ℕ) (from : Point) (w : Which) (x : Piece) (ps : Pieces) →
    run n from (chosen w (piece_to x ps)) ≡ run n from (option_to_list (pick w x)) ++ run n (last_or (option_to_list (pick w x)) from) (chosen w ps)
run_piece n from w x ps = ap (run n from) (chosen_piece w x ps) ∙ run-append n from (option_to_list (pick w x)) (chosen w ps)

pub last_piece : (from : Point) (w : Which) (x : Piece) (ps : Pieces) →
    last_or (chosen w (piece_to x ps)) from ≡ last_or (chosen w ps) (last_or (option_to_list (pick w x)) from)
last_piece from w x ps = ap (λ xs. last_or xs from) (chosen_piece w x ps) ∙ last_or-append (option_to_list (pick w x)) (chosen w ps) from

pub first_piece : (to : Point) (w : Which) (x : Piece) (ps : Pieces) →
    first_or (chosen w (piece_to x ps)) to ≡ first_or (option_to_list (pick w x)) (first_or (chosen w ps) to)
first_piece to w x ps = ap (λ xs. first_or xs to) (chosen_piece w x ps) ∙ first_or-append (option_to_list (pick w x)) (chosen w ps) to

-- a run and an edge behind it are a chain
pub chain_after : (n : ℕ) (from last : Point) (xs : List ℕ) (to : Point) (before between behind : List Edge) →
    between ≡ before ++ run n from xs → last ≡ last_or xs from → behind ≡ between ++ edge n last to → behind ≡ before ++ chain n from xs to
chain_after n from last xs to before between behind a b c =
    c ∙ ap (λ es. es ++ edge n last to) a
    ∙ append_assoc before (run n from xs) (edge n last to)
    ∙ ap (λ p. before ++ (run n from xs ++ edge n p to)) b
    ∙ ap (λ es. before ++ es) (sym (chain_run n from xs to))

-- a further piece was tested
pub until-append : (n : ℕ) (from : Point) (xs ys : List ℕ) →
    until_missing n from (xs ++ ys) ≡ until_missing n from xs ++ until_missing n (last_or xs from) ys
until-append n from [] ys = refl
until-append n from (x ∷ xs) ys = ap (λ es. edge n from (Before x) ++ edge n (After x) (After n) ++ es) (until-append n (After x) xs ys)

pub until_piece : (n : ℕ) (from : Point) (w : Which) (x : Piece) (ps : Pieces) →
    until_missing n from (chosen w (piece_to x ps))
    ≡ until_missing n from (option_to_list (pick w x)) ++ until_missing n (last_or (option_to_list (pick w x)) from) (chosen w ps)
until_piece n from w x ps = ap (until_missing n from) (chosen_piece w x ps) ∙ until-append n from (option_to_list (pick w x)) (chosen w ps)

pub head_append : (xs ys : List ℕ) → head_of (xs ++ ys) ≡ (elim (head_of xs) [ None ↦ head_of ys | Some a ↦ Some a ])
head_append [] ys = refl
head_append (x ∷ xs) ys = refl

pub head_piece : (w : Which) (x : Piece) (ps : Pieces) →
    head_of (chosen w (piece_to x ps)) ≡ (elim (pick w x) [ None ↦ head_of (chosen w ps) | Some a ↦ Some a ])
head_piece which.Exprs (piece.Word t) ps = refl
head_piece which.Exprs (piece.Expr n) ps = refl
head_piece which.Exprs (piece.Stmt n) ps = refl
head_piece which.Exprs (piece.Other k n inner) ps = refl
head_piece which.Stmts (piece.Word t) ps = refl
head_piece which.Stmts (piece.Expr n) ps = refl
head_piece which.Stmts (piece.Stmt n) ps = refl
head_piece which.Stmts (piece.Other k n inner) ps = refl
head_piece which.Steps (piece.Word t) ps = refl
head_piece which.Steps (piece.Expr n) ps = refl
head_piece which.Steps (piece.Stmt n) ps = refl
head_piece which.Steps (piece.Other k n inner) ps = refl

-- from some nodes to others, and behind them
pub chain_two : (n : ℕ) (from : Point) (xs ys : List ℕ) (to : Point) →
    chain n from (xs ++ ys) to ≡ run n from xs ++ run n (last_or xs from) ys ++ edge n (last_or ys (last_or xs from)) to
chain_two n from xs ys to =
    chain_run n from (xs ++ ys) to
    ∙ ap (λ es. es ++ edge n (last_or (xs ++ ys) from) to) (run-append n from xs ys)
    ∙ ap (λ p. run n from xs ++ run n (last_or xs from) ys ++ edge n p to) (last_or-append xs ys from)
