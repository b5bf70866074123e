-- Words of a node, and what stands before and behind them.
use Rattle.std.proofs.Common.{◌≡◌, ◌≤◌, ℕ, suc, ◌+◌, ◌-◌, true, false, ◌||◌, if◌then◌else◌, List, [], ◌∷◌}
use Rattle.std.proofs.Common.{◌++◌, length, take, drop, slice_index_or, refl, sym, ap, ◌∙◌, append-nil, append_assoc, add-one, arith}
use Rattle.std.proofs.lemmas.List.{length-take-le, take_all}
use Rattle.std.proofs.Math.Seq.{take-append-add}
use Rattle.program_points.specs.declared.piece.Piece.{Piece}
use Rattle.program_points.specs.declared.piece.Piece.TheVariants as piece
use Rattle.program_points.specs.Pieces.{Pieces, end, up_to, behind, has_word}
use Rattle.program_points.specs.Chosen.{piece_to, pieces_to, pieces_of, is_this}

pub has_piece : (w : List ℕ) (x : Piece) (ps : Pieces) → has_word w (piece_to x ps) ≡ (is_this w x || has_word w ps)
has_piece w (piece.Word t) ps = refl
has_piece w (piece.Expr n) ps = refl
has_piece w (piece.Stmt n) ps = refl
has_piece w (piece.Other k n inner) ps = refl

pub behind_piece : (w : List ℕ) (x : Piece) (ps : Pieces) → behind w (piece_to x ps) ≡ (if is_this w x then ps else behind w ps)
behind_piece w (piece.Word t) ps = refl
behind_piece w (piece.Expr n) ps = refl
behind_piece w (piece.Stmt n) ps = refl
behind_piece w (piece.Other k n inner) ps = refl

pub up_to_piece : (w : List ℕ) (x : Piece) (ps : Pieces) → up_to w (piece_to x ps) ≡ (if is_this w x then end else piece_to x (up_to w ps))
up_to_piece w (piece.Word t) ps = refl
up_to_piece w (piece.Expr n) ps = refl
up_to_piece w (piece.Stmt n) ps = refl
up_to_piece w (piece.Other k n inner) ps = refl

pub pieces_to-append : (xs ys : List Piece) (ps : Pieces) → pieces_to (xs ++ ys) ps ≡ pieces_to xs (pieces_to ys ps)
pieces_to-append [] ys ps = refl
pieces_to-append (x ∷ xs) ys ps = ap (λ qs. piece_to x qs) (pieces_to-append xs ys ps)

-- one more from the front
pub front_more : (xs rest : List Piece) (n : ℕ) (x : Piece) → xs ≡ take n xs ++ x ∷ rest → n ≤ length xs → take (n + 1) xs ≡ take n xs ++ x ∷ []
front_more xs rest n x e w =
    ap (λ (k : ℕ). take (k + 1) xs) (sym (length-take-le n xs w))
    ∙ ap (λ (zs : List Piece). take (length (take n xs) + 1) zs) e
    ∙ take-append-add (take n xs) (x ∷ rest) 1

-- what stands before what is left has no such word
pub record Cut (w : List ℕ) (xs left : List Piece) : Type 0 where
  pub within : length left ≤ length xs
  pub split_at : xs ≡ take (length xs - length left) xs ++ left
  pub found : up_to w (pieces_of xs) ≡ pieces_to (take (length xs - length left) xs) (up_to w (pieces_of left))

take_none : (xs : List Piece) → take (length xs - length xs) xs ≡ []
take_none xs = ap (λ (n : ℕ). take n xs) (nothing (length xs - length xs) (omega arith)) ∙ take_zero xs
  where
    nothing : (n : ℕ) → n ≡ 0 → n ≡ 0
    nothing n e = e

    take_zero : (ys : List Piece) → take 0 ys ≡ []
    take_zero [] = refl
    take_zero (y ∷ ys) = refl

pub cut_first : (w : List ℕ) (xs : List Piece) → Cut w xs xs
cut_first w xs = record {
  within = omega arith;
  split_at = sym (ap (λ (ys : List Piece). ys ++ xs) (take_none xs));
  found = sym (ap (λ (ys : List Piece). pieces_to ys (up_to w (pieces_of xs))) (take_none xs));
}

-- another piece was passed
pub cut_other : (w : List ℕ) (xs left behind : List Piece) (x : Piece) → left ≡ x ∷ behind → is_this w x ≡ false → Cut w xs left → Cut w xs behind
cut_other w xs left behind x e differs c = record {
  within = omega (arith, c.within, size);
  split_at = c.split_at ∙ ap (λ (ys : List Piece). take (length xs - length left) xs ++ ys) e
      ∙ sym (append_assoc (take (length xs - length left) xs) (x ∷ []) behind)
      ∙ ap (λ (ys : List Piece). ys ++ behind) (sym more);
  found = c.found
      ∙ ap (λ (ys : List Piece). pieces_to (take (length xs - length left) xs) (up_to w (pieces_of ys))) e
      ∙ ap (λ ps. pieces_to (take (length xs - length left) xs) ps)
      (up_to_piece w x (pieces_of behind) ∙ ap (λ b. if b then end else piece_to x (up_to w (pieces_of behind)))
      differs)
      ∙ sym (pieces_to-append (take (length xs - length left) xs) (x ∷ []) (up_to w (pieces_of behind)))
      ∙ ap (λ (ys : List Piece). pieces_to ys (up_to w (pieces_of behind))) (sym more);
}
  where
    size : length left ≡ length behind + 1
    size = ap (λ (ys : List Piece). length ys) e ∙ sym (add-one (length behind))

    more : take (length xs - length behind) xs ≡ take (length xs - length left) xs ++ x ∷ []
    more = ap (λ (k : ℕ). take k xs) (next (length xs - length behind) (length xs - length left) (omega (arith, c.within, size)))
        ∙ front_more xs behind (length xs - length left) x (c.split_at ∙ ap (λ (ys : List Piece). take (length xs - length left) xs ++ ys) e) (omega arith)
      where
        next : (m k : ℕ) → m ≡ k + 1 → m ≡ k + 1
        next m k h = h

-- the word was found
pub cut_found : (w : List ℕ) (xs left behind : List Piece) (x : Piece) → left ≡ x ∷ behind → is_this w x ≡ true → Cut w xs left →
    pieces_of (take (length xs - length left) xs) ≡ up_to w (pieces_of xs)
cut_found w xs left behind x e same c =
    sym (c.found ∙ ap (λ (ys : List Piece). pieces_to (take (length xs - length left) xs) (up_to w (pieces_of ys))) e
    ∙ ap (λ ps. pieces_to (take (length xs - length left) xs) ps) (up_to_piece w x (pieces_of behind) ∙ ap (λ b. if b then end else piece_to x (up_to w (pieces_of behind))) same))

-- it is nowhere
pub cut_last : (w : List ℕ) (xs left : List Piece) → left ≡ [] → Cut w xs left → pieces_of xs ≡ up_to w (pieces_of xs)
cut_last w xs left e c =
    ap (λ (ys : List Piece). pieces_of ys) (c.split_at ∙ ap (λ (ys : List Piece). take (length xs - length left) xs ++ ys) e ∙ append-nil (take (length xs - length left) xs))
    ∙ sym (c.found ∙ ap (λ (ys : List Piece). pieces_to (take (length xs - length left) xs) (up_to w (pieces_of ys))) e)

-- the first piece, and those behind it
first_and_rest : (xs : List Piece) (x : Piece) → 1 ≤ length xs → x ≡ slice_index_or xs 0 x → xs ≡ x ∷ take (length xs - 1) (drop 1 xs)
first_and_rest [] x l e = absurd (omega arith)
first_and_rest (y ∷ ys) x l e =
    ap (λ (z : Piece). z ∷ ys) (sym e) ∙ ap (λ (zs : List Piece). x ∷ zs) (sym (take_all (suc (length ys) - 1) ys (omega arith)))

pub cut_next : (w : List ℕ) (xs left : List Piece) (x : Piece) → 1 ≤ length left → x ≡ slice_index_or left 0 x → is_this w x ≡ false → Cut w xs left →
    Cut w xs (take (length left - 1) (drop 1 left))
cut_next w xs left x l e differs c = cut_other w xs left (take (length left - 1) (drop 1 left)) x (first_and_rest left x l e) differs c
