-- What is around the parts of a `try`.
use Rattle.std.proofs.Common.{◌≡◌, ◌<◌, ℕ, ◌+◌, true, false, ◌||◌, if◌then◌else◌, List, [], ◌∷◌, ◌++◌}
use Rattle.std.proofs.Common.{length, take, drop, reverse, option_to_list, slice_index_or, refl, sym, ap, ◌∙◌, append_assoc, append-nil}
use Rattle.std.proofs.lemmas.List.{reverse-append, reverse-reverse, map-append, drop_more}
use Rattle.std.proofs.Math.Seq.{take-append_seam, drop-length}
use Rattle.program_points.specs.declared.frame.Frame.{Frame}
use Rattle.program_points.specs.declared.frame.Frame.TheVariants.{Finally}
use Rattle.program_points.specs.declared.frame.Handler.{Handler}
use Rattle.program_points.specs.declared.around.Stacks.{Stacks}
use Rattle.program_points.specs.declared.piece.Piece.{Piece}
use Rattle.program_points.specs.declared.piece.Piece.TheVariants as piece
use Rattle.program_points.specs.declared.piece.Which.TheVariants as which
use Rattle.program_points.specs.Pieces.{Pieces, stmts}
use Rattle.program_points.specs.Edges.{Around, handlers_of, through_finally, before_parts, in_parts, is_among, later}
use Rattle.program_points.specs.Chosen.{piece_to, pieces_of, pick, is_stmt}
use Rattle.program_points.specs.Walked.{IsAbove}
use Rattle.program_points.proofs.ChainLemmas.{chosen_piece}

-- ---- later parts, the first one last

handlers-append : (n : ℕ) (xs ys : List ℕ) → handlers_of n (xs ++ ys) ≡ handlers_of n xs ++ handlers_of n ys
handlers-append n xs ys = map-append (λ s. record { of = n; start = s }) xs ys

pub handlers_first : (n : ℕ) (xs : List Piece) (hs : List Handler) → hs ≡ hs ++ reverse (handlers_of n (stmts (pieces_of (drop (length xs) xs))))
handlers_first n xs hs = sym (ap (λ ys. hs ++ reverse (handlers_of n (stmts (pieces_of ys)))) (drop-length xs) ∙ append-nil hs)

pub handlers_step : (n m i : ℕ) (xs : List Piece) (x : Piece) (h0 h1 h2 : List Handler) → m ≡ i + 1 → i < length xs → x ≡ slice_index_or xs i x →
    h1 ≡ h0 ++ reverse (handlers_of n (stmts (pieces_of (drop m xs)))) →
    h2 ≡ h1 ++ reverse (handlers_of n (option_to_list (pick which.Stmts x))) →
    h2 ≡ h0 ++ reverse (handlers_of n (stmts (pieces_of (drop i xs))))
handlers_step n m i xs x h0 h1 h2 e l is a b =
    let rest = stmts (pieces_of (drop (i + 1) xs)) in
    let here = option_to_list (pick which.Stmts x) in
    b ∙ ap (λ hs. hs ++ reverse (handlers_of n here)) (a ∙ ap (λ j. h0 ++ reverse (handlers_of n (stmts (pieces_of (drop j xs))))) e)
    ∙ append_assoc h0 (reverse (handlers_of n rest)) (reverse (handlers_of n here))
    ∙ ap (λ hs. h0 ++ hs) (sym (reverse-append (handlers_of n here) (handlers_of n rest)))
    ∙ ap (λ hs. h0 ++ reverse hs) (sym (handlers-append n here rest))
    ∙ ap (λ ns. h0 ++ reverse (handlers_of n ns)) (sym (chosen_piece which.Stmts x (pieces_of (drop (i + 1) xs))))
    ∙ ap (λ ys. h0 ++ reverse (handlers_of n (stmts (pieces_of ys)))) (sym (drop_more xs i x l ∙ ap (λ y. y ∷ drop (i + 1) xs) (sym is)))

-- ---- a part is entered

finally_on : (bs : List ℕ) (fs : List Frame) → reverse (fs ++ through_finally bs []) ≡ through_finally bs (reverse fs)
finally_on [] fs = ap reverse (append-nil fs)
finally_on (b ∷ bs) fs = reverse-append fs (Finally b ∷ [])

handlers_on : (n : ℕ) (parts last : List ℕ) (hs : List Handler) →
    reverse ((hs ++ reverse (handlers_of n last)) ++ reverse (handlers_of n parts)) ≡ handlers_of n (parts ++ last) ++ reverse hs
handlers_on n parts last hs =
    reverse-append (hs ++ reverse (handlers_of n last)) (reverse (handlers_of n parts))
    ∙ ap (λ xs. xs ++ reverse (hs ++ reverse (handlers_of n last))) (reverse-reverse (handlers_of n parts))
    ∙ ap (λ xs. handlers_of n parts ++ xs) (reverse-append hs (reverse (handlers_of n last)) ∙ ap (λ xs. xs ++ reverse hs) (reverse-reverse (handlers_of n last)))
    ∙ sym (append_assoc (handlers_of n parts) (handlers_of n last) (reverse hs))
    ∙ ap (λ xs. xs ++ reverse hs) (sym (handlers-append n parts last))

abbrev on : List Frame → List Handler → Around
on fs hs = record { frames = fs; handlers = hs }

pub entered : (n : ℕ) (parts last : List ℕ) (f0 f1 : List Frame) (h0 h1 h2 : List Handler) → f1 ≡ f0 ++ through_finally last [] →
    h1 ≡ h0 ++ reverse (handlers_of n last) → h2 ≡ h1 ++ reverse (handlers_of n parts) →
    on (reverse f1) (reverse h2) ≡ before_parts n parts last (on (reverse f0) (reverse h0))
entered n parts last f0 f1 h0 h1 h2 a b c =
    ap (λ fs. on fs (reverse h2)) (ap reverse a ∙ finally_on last f0)
    ∙ ap (λ hs. on (through_finally last (reverse f0)) hs) (ap reverse (c ∙ ap (λ hs. hs ++ reverse (handlers_of n parts)) b) ∙ handlers_on n parts last h0)

pub entered_above : (f0 f1 ys : List Frame) (h0 h1 h2 is js : List Handler) → f1 ≡ f0 ++ ys → h1 ≡ h0 ++ is → h2 ≡ h1 ++ js →
    (take (length f0) f1 ≡ f0) × (take (length h0) h2 ≡ h0)
entered_above f0 f1 ys h0 h1 h2 is js a b c = (
  ap (take (length f0)) a ∙ take-append_seam f0 ys,
  ap (take (length h0)) (c ∙ ap (λ hs. hs ++ js) b ∙ append_assoc h0 is js) ∙ take-append_seam h0 (is ++ js),
)

take_whole : {A : Type 0} (xs : List A) → take (length xs) xs ≡ xs
take_whole xs = ap (take (length xs)) (sym (append-nil xs)) ∙ take-append_seam xs []

pub above_itself : (s : Stacks) → IsAbove s s
above_itself s = record { frames = take_whole s.frames.items; handlers = take_whole s.handlers.items }

-- ---- which part it is

pub among_piece : (n : ℕ) (x : Piece) (ps : Pieces) → is_among n (stmts (piece_to x ps)) ≡ (is_stmt n x || is_among n (stmts ps))
among_piece n (piece.Word w) ps = refl
among_piece n (piece.Expr m) ps = refl
among_piece n (piece.Stmt m) ps = refl
among_piece n (piece.Other k m inner) ps = refl

pub later_piece : (n : ℕ) (x : Piece) (ps : Pieces) → later n (stmts (piece_to x ps)) ≡ (if is_stmt n x then stmts ps else later n (stmts ps))
later_piece n (piece.Word w) ps = refl
later_piece n (piece.Expr m) ps = refl
later_piece n (piece.Stmt m) ps = refl
later_piece n (piece.Other k m inner) ps = refl

pub in_body : (n m : ℕ) (body caught last : List ℕ) (a : Around) → is_among m body ≡ true → in_parts n body caught last a m ≡ before_parts n caught last a
in_body n m body caught last a e = ap (λ b. if b then before_parts n caught last a else (if is_among m caught then before_parts n (later m caught) last a else a)) e

pub in_catch : (n m : ℕ) (body caught last : List ℕ) (a : Around) → is_among m body ≡ false → is_among m caught ≡ true →
    in_parts n body caught last a m ≡ before_parts n (later m caught) last a
in_catch n m body caught last a e f =
    ap (λ b. if b then before_parts n caught last a else (if is_among m caught then before_parts n (later m caught) last a else a)) e
    ∙ ap (λ b. if b then before_parts n (later m caught) last a else a) f

pub in_none : (n m : ℕ) (body caught last : List ℕ) (a : Around) → is_among m body ≡ false → is_among m caught ≡ false → in_parts n body caught last a m ≡ a
in_none n m body caught last a e f =
    ap (λ b. if b then before_parts n caught last a else (if is_among m caught then before_parts n (later m caught) last a else a)) e
    ∙ ap (λ b. if b then before_parts n (later m caught) last a else a) f

-- ---- a loop is entered

pub loop_on : (f : Frame) (f0 f1 : List Frame) (hs : List Handler) → f1 ≡ f0 ++ f ∷ [] → on (reverse f1) hs ≡ on (f ∷ reverse f0) hs
loop_on f f0 f1 hs e = ap (λ fs. on fs hs) (ap reverse e ∙ reverse-append f0 (f ∷ []))

pub loop_above : (f : Frame) (f0 f1 : List Frame) → f1 ≡ f0 ++ f ∷ [] → take (length f0) f1 ≡ f0
loop_above f f0 f1 e = ap (take (length f0)) e ∙ take-append_seam f0 (f ∷ [])

-- what was put on was taken off
pub taken_off : {A : Type 0} (n : ℕ) (before inside after done : List A) → n ≡ length before → take (length before) inside ≡ before → after ≡ inside →
    done ≡ take n after → done ≡ before
taken_off n before inside after done e a i d = d ∙ ap (take n) i ∙ ap (λ m. take m inside) e ∙ a
