-- The parts of a node, read as pieces.
use Rattle.std.proofs.Common.{◌≡◌, ℕ, suc, Bool, true, false, List, [], ◌∷◌, ◌++◌, ◌+◌, refl, sym, ap, ◌∙◌}
use Rattle.php_tree.specs.declared.kind.NodeKind.{NodeKind}
use Rattle.php_tree.specs.Tree.{Forest, node, count}
use Rattle.program_points.specs.declared.kinds.Sort.{Sort}
use Rattle.program_points.specs.declared.kinds.Sort.TheVariants as sort
use Rattle.program_points.specs.declared.piece.Piece.{Piece}
use Rattle.program_points.specs.declared.piece.Piece.TheVariants as piece
use Rattle.program_points.specs.declared.piece.Which.{Which}
use Rattle.program_points.specs.declared.piece.Which.TheVariants as which
use Rattle.program_points.specs.Pieces.{Pieces, end, word, expr, stmt, other, and_then, without_words, piece_before, piece_by, sort_of, pieces, exprs, stmts}
use Rattle.program_points.specs.Chosen.{piece_to, pieces_of, pieces_to, chosen, kept, word_to}

-- a further piece stands before what follows
pub pieces_push : (xs : List Piece) (x : Piece) (ps : Pieces) → pieces_to (xs ++ x ∷ []) ps ≡ pieces_to xs (piece_to x ps)
pieces_push [] x ps = refl
pieces_push (y ∷ ys) x ps = ap (λ qs. piece_to y qs) (pieces_push ys x ps)

pub and_then-assoc : (ps qs rs : Pieces) → and_then (and_then ps qs) rs ≡ and_then ps (and_then qs rs)
and_then-assoc end qs rs = refl
and_then-assoc (word t ps) qs rs = ap (word t) (and_then-assoc ps qs rs)
and_then-assoc (expr n ps) qs rs = ap (expr n) (and_then-assoc ps qs rs)
and_then-assoc (stmt n ps) qs rs = ap (stmt n) (and_then-assoc ps qs rs)
and_then-assoc (other k n inner ps) qs rs = ap (other k n inner) (and_then-assoc ps qs rs)

pub and_then_end : (ps : Pieces) → and_then ps end ≡ ps
and_then_end end = refl
and_then_end (word t ps) = ap (word t) (and_then_end ps)
and_then_end (expr n ps) = ap (expr n) (and_then_end ps)
and_then_end (stmt n ps) = ap (stmt n) (and_then_end ps)
and_then_end (other k n inner ps) = ap (other k n inner) (and_then_end ps)

without-and_then : (ps qs : Pieces) → without_words (and_then ps qs) ≡ and_then (without_words ps) (without_words qs)
without-and_then end qs = refl
without-and_then (word t ps) qs = without-and_then ps qs
without-and_then (expr n ps) qs = ap (expr n) (without-and_then ps qs)
without-and_then (stmt n ps) qs = ap (stmt n) (without-and_then ps qs)
without-and_then (other k n inner ps) qs = ap (other k n inner) (without-and_then ps qs)

without_twice : (ps : Pieces) → without_words (without_words ps) ≡ without_words ps
without_twice end = refl
without_twice (word t ps) = without_twice ps
without_twice (expr n ps) = ap (expr n) (without_twice ps)
without_twice (stmt n ps) = ap (stmt n) (without_twice ps)
without_twice (other k n inner ps) = ap (other k n inner) (without_twice ps)

-- a token, and then what follows it
pub kept_word : (w : Bool) (t : List ℕ) (ps qs : Pieces) → and_then (kept w (word t ps)) qs ≡ word_to w t (and_then (kept w ps) qs)
kept_word true t ps qs = refl
kept_word false t ps qs = refl

-- the pieces of a node that is looked through, and then what follows them
inner_kept : (w : Bool) (inner more qs : Pieces) →
    and_then (kept w (and_then (without_words inner) more)) qs ≡ and_then (without_words inner) (and_then (kept w more) qs)
inner_kept true inner more qs = and_then-assoc (without_words inner) more qs
inner_kept false inner more qs =
    ap (λ ps. and_then ps qs) (without-and_then (without_words inner) more ∙ ap (λ ps. and_then ps (without_words more)) (without_twice inner))
    ∙ and_then-assoc (without_words inner) (without_words more) qs

-- a node, and then what follows it
pub kept_node : (w : Bool) (k : NodeKind) (n : ℕ) (inner more qs : Pieces) →
    and_then (kept w (piece_before k n inner more)) qs ≡ piece_before k n inner (and_then (kept w more) qs)
kept_node w k n inner more qs = by_sort w (sort_of k)
  where
    by_sort : (w : Bool) (s : Sort) → and_then (kept w (piece_by s k n inner more)) qs ≡ piece_by s k n inner (and_then (kept w more) qs)
    by_sort true sort.Statement = refl
    by_sort false sort.Statement = refl
    by_sort true sort.Expression = refl
    by_sort false sort.Expression = refl
    by_sort w sort.LookedThrough = inner_kept w inner more qs
    by_sort true sort.Other = refl
    by_sort false sort.Other = refl

-- some pieces, and then others
pub chosen-and_then : (w : Which) (ps qs : Pieces) → chosen w (and_then ps qs) ≡ chosen w ps ++ chosen w qs
chosen-and_then which.Exprs end qs = refl
chosen-and_then which.Exprs (word t ps) qs = chosen-and_then which.Exprs ps qs
chosen-and_then which.Exprs (expr n ps) qs = ap (λ xs. n ∷ xs) (chosen-and_then which.Exprs ps qs)
chosen-and_then which.Exprs (stmt n ps) qs = chosen-and_then which.Exprs ps qs
chosen-and_then which.Exprs (other k n inner ps) qs = chosen-and_then which.Exprs ps qs
chosen-and_then which.Stmts end qs = refl
chosen-and_then which.Stmts (word t ps) qs = chosen-and_then which.Stmts ps qs
chosen-and_then which.Stmts (expr n ps) qs = chosen-and_then which.Stmts ps qs
chosen-and_then which.Stmts (stmt n ps) qs = ap (λ xs. n ∷ xs) (chosen-and_then which.Stmts ps qs)
chosen-and_then which.Stmts (other k n inner ps) qs = chosen-and_then which.Stmts ps qs
chosen-and_then which.Steps end qs = refl
chosen-and_then which.Steps (word t ps) qs = chosen-and_then which.Steps ps qs
chosen-and_then which.Steps (expr n ps) qs = ap (λ xs. n ∷ xs) (chosen-and_then which.Steps ps qs)
chosen-and_then which.Steps (stmt n ps) qs = ap (λ xs. n ∷ xs) (chosen-and_then which.Steps ps qs)
chosen-and_then which.Steps (other k n inner ps) qs = chosen-and_then which.Steps ps qs

pub chosen_to : (w : Which) (xs : List Piece) (ps : Pieces) → chosen w (pieces_to xs ps) ≡ chosen w (pieces_of xs) ++ chosen w ps
chosen_to w xs ps = ap (chosen w) (split xs) ∙ chosen-and_then w (pieces_of xs) ps
  where
    piece_first : (x : Piece) (qs : Pieces) → piece_to x (and_then qs ps) ≡ and_then (piece_to x qs) ps
    piece_first (piece.Word t) qs = refl
    piece_first (piece.Expr n) qs = refl
    piece_first (piece.Stmt n) qs = refl
    piece_first (piece.Other k n inner) qs = refl

    split : (ys : List Piece) → pieces_to ys ps ≡ and_then (pieces_of ys) ps
    split [] = refl
    split (y ∷ ys) = ap (piece_to y) (split ys) ∙ piece_first y (pieces_of ys)

-- the pieces of a node were read behind others
pub exprs_behind : (old new : List Piece) (ps : Pieces) → pieces_to new end ≡ pieces_to old (and_then ps end) → exprs (pieces_of new) ≡ exprs (pieces_of old) ++ exprs ps
exprs_behind old new ps e = ap exprs (e ∙ ap (pieces_to old) (and_then_end ps)) ∙ chosen_to which.Exprs old ps

pub stmts_behind : (old new : List Piece) (ps : Pieces) → pieces_to new end ≡ pieces_to old (and_then ps end) → stmts (pieces_of new) ≡ stmts (pieces_of old) ++ stmts ps
stmts_behind old new ps e = ap stmts (e ∙ ap (pieces_to old) (and_then_end ps)) ∙ chosen_to which.Stmts old ps

-- a node was read
pub read_child : (w : Bool) (n i m : ℕ) (k : NodeKind) (c left rest : Forest) (xs ys : List Piece) (whole : Pieces → Pieces) →
    left ≡ node k c rest → i ≡ n → m ≡ suc i + count c →
    ((ps : Pieces) → pieces_to ys ps ≡ pieces_to xs (piece_before k i (pieces (suc i) c) ps)) →
    ((ps : Pieces) → pieces_to xs (and_then (kept w (pieces n left)) ps) ≡ whole ps) →
    (ps : Pieces) → pieces_to ys (and_then (kept w (pieces m rest)) ps) ≡ whole ps
read_child w n i m k c left rest xs ys whole e own next added before ps =
    added (and_then (kept w (pieces m rest)) ps)
    ∙ ap (pieces_to xs) (sym (kept_node w k i (pieces (suc i) c) (pieces m rest) ps))
    ∙ ap (λ (j : ℕ). pieces_to xs (and_then (kept w (piece_before k i (pieces (suc i) c) (pieces j rest))) ps)) next
    ∙ ap (λ (j : ℕ). pieces_to xs (and_then (kept w (pieces j (node k c rest))) ps)) own
    ∙ ap (λ (f : Forest). pieces_to xs (and_then (kept w (pieces n f)) ps)) (sym e)
    ∙ before ps
