-- The bytes and the number of edits of pieces that are written one after another.
use Rattle.std.proofs.Common.{◌≡◌, ℕ, suc, ◌+◌, Bool, true, false, List, [], ◌∷◌, ◌++◌, length, refl, ap, sym, ◌∙◌, arith, append_assoc, append-nil}
use Rattle.tracked_changes.specs.Pieces.{Piece, kept, changed, also, new_bytes, after}
use Rattle.tracked_changes.specs.Edits.{join, joined, edits_from}
use Rattle.syntax_upgrade.specs.Writing.{Recorded, one_more, piece_next, pieces_next, front}

step_out : (p : Piece) (r : Recorded) → (piece_next p r).out ≡ r.out ++ new_bytes p
step_out (kept b) r = refl
step_out (changed o t) r = refl
step_out (also t) r = refl

pub out_written : (ps : List Piece) (r : Recorded) → (pieces_next ps r).out ≡ r.out ++ after ps
out_written [] r = sym (append-nil r.out)
out_written (p ∷ ps) r =
    out_written ps (piece_next p r)
    ∙ ap (λ (bs : List ℕ). bs ++ after ps) (step_out p r)
    ∙ append_assoc r.out (new_bytes p) (after ps)

-- how many pieces are not kept
abbrev changes : List Piece → ℕ
changes [] = 0
changes (kept b ∷ ps) = changes ps
changes (changed o t ∷ ps) = suc (changes ps)
changes (also t ∷ ps) = suc (changes ps)

as_many : (at : ℕ) (ps : List Piece) → length (edits_from at ps) ≡ changes ps
as_many at [] = refl
as_many at (kept b ∷ ps) = as_many (at + length b) ps
as_many at (changed o t ∷ ps) = ap suc (as_many (at + length o) ps)
as_many at (also t ∷ ps) = ap suc (as_many (at + 0) ps)

-- how many edits some joined pieces are, behind an edit that goes on or not
abbrev more : Bool → List Piece → ℕ
more g [] = 0
more g (kept b ∷ ps) = changes ps
more g (changed o t ∷ ps) = suc (changes ps)
more true (also t ∷ ps) = changes ps
more false (also t ∷ ps) = suc (changes ps)

none_open : (ps : List Piece) → more false ps ≡ changes ps
none_open [] = refl
none_open (kept b ∷ ps) = refl
none_open (changed o t ∷ ps) = refl
none_open (also t ∷ ps) = refl

more_kept : (g : Bool) (b : List ℕ) (qs : List Piece) → more g (join (kept b) qs) ≡ more false qs
more_kept g b qs = sym (none_open qs)

more_changed : (g : Bool) (o t : List ℕ) (qs : List Piece) → more g (join (changed o t) qs) ≡ suc (more true qs)
more_changed g o t [] = refl
more_changed g o t (kept b ∷ qs) = refl
more_changed g o t (changed u v ∷ qs) = refl
more_changed g o t (also m ∷ qs) = refl

more_also : (g : Bool) (n : ℕ) (t : List ℕ) (qs : List Piece) → one_more g n + more true qs ≡ n + more g (join (also t) qs)
more_also true n t [] = refl
more_also true n t (kept b ∷ qs) = refl
more_also true n t (changed u v ∷ qs) = refl
more_also true n t (also m ∷ qs) = refl
more_also false n t [] = omega arith
more_also false n t (kept b ∷ qs) = omega arith
more_also false n t (changed u v ∷ qs) = omega arith
more_also false n t (also m ∷ qs) = omega arith

counted : (ps : List Piece) (r : Recorded) → (pieces_next ps r).edits ≡ r.edits + more r.goes_on (joined ps)
counted [] r = omega arith
counted (kept b ∷ ps) r = counted ps (piece_next (kept b) r) ∙ ap (λ (n : ℕ). r.edits + n) (sym (more_kept r.goes_on b (joined ps)))
counted (changed o t ∷ ps) r =
    let a : r.edits + 1 + more true (joined ps) ≡ r.edits + suc (more true (joined ps)) = omega arith in
    counted ps (piece_next (changed o t) r) ∙ a ∙ ap (λ (n : ℕ). r.edits + n) (sym (more_changed r.goes_on o t (joined ps)))
counted (also t ∷ ps) r = counted ps (piece_next (also t) r) ∙ more_also r.goes_on r.edits t (joined ps)

-- The number of edits of pieces that are written from the front.
pub edits_written : (ps : List Piece) → (pieces_next ps front).edits ≡ length (edits_from 0 (joined ps))
edits_written ps = counted ps front ∙ (let z : 0 + more false (joined ps) ≡ more false (joined ps) = omega arith in z) ∙ none_open (joined ps) ∙ sym (as_many 0 (joined ps))
