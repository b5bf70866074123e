-- Jumps, and the parts of a `try`.
use Rattle.std.proofs.Common.{◌≡◌, ◌≤◌, ◌<◌, ℕ, zero, suc, ◌-◌, Bool, true, false, if◌then◌else◌, List, []}
use Rattle.std.proofs.Common.{◌∷◌, ◌++◌, length, take, reverse, option_to_list, slice_index_or, refl, sym, ap, ◌∙◌, append_assoc, append-nil, arith}
use Rattle.std.proofs.lemmas.List.{reverse-append}
use Rattle.std.proofs.Math.Seq.{take-suc}
use Rattle.php_tree.specs.declared.kind.NodeKind.{NodeKind}
use Rattle.php_tree.specs.Tree.{Forest, node, alone}
use Rattle.program_points.specs.declared.point.Point.{Point}
use Rattle.program_points.specs.declared.point.Point.TheVariants.{After}
use Rattle.program_points.specs.declared.frame.Again.{Again}
use Rattle.program_points.specs.declared.frame.Frame.{Frame}
use Rattle.program_points.specs.declared.frame.Frame.TheVariants.{Loop}
use Rattle.program_points.specs.declared.piece.Piece.{Piece}
use Rattle.program_points.specs.declared.piece.Which.TheVariants as which
use Rattle.program_points.specs.Pieces.{Pieces, stmts}
use Rattle.program_points.specs.Rows.{Edge, edge, ends, jump, landing, to_each}
use Rattle.program_points.specs.Edges.{Leaving, targets, leaving, leaves_by, loops_within, is_body, before_finally}
use Rattle.program_points.specs.Chosen.{piece_to, pick}
use Rattle.program_points.proofs.ChainLemmas.{chosen_piece}

ends-append : (n : ℕ) (xs ys : List ℕ) (to : Point) → ends n (xs ++ ys) to ≡ ends n xs to ++ ends n ys to
ends-append n [] ys to = refl
ends-append n (x ∷ xs) ys to = ap (λ es. edge n (After x) to ++ es) (ends-append n xs ys to)

pub ends_piece : (n : ℕ) (x : Piece) (ps : Pieces) (to : Point) →
    ends n (stmts (piece_to x ps)) to ≡ ends n (option_to_list (pick which.Stmts x)) to ++ ends n (stmts ps) to
ends_piece n x ps to = ap (λ xs. ends n xs to) (chosen_piece which.Stmts x ps) ∙ ends-append n (option_to_list (pick which.Stmts x)) (stmts ps) to

-- ---- jumps

pub jump_here : (b : Bool) (n : ℕ) (out : Point) (again : Again) (fs : List Frame) → n ≤ 1 → jump b n (Loop out again ∷ fs) ≡ landing b out again
jump_here b zero out again fs l = refl
jump_here b (suc zero) out again fs l = refl
jump_here b (suc (suc n)) out again fs l = absurd (omega arith)

pub jump_over : (b : Bool) (n : ℕ) (out : Point) (again : Again) (fs : List Frame) → 1 < n → jump b n (Loop out again ∷ fs) ≡ jump b (n - 1) fs
jump_over b zero out again fs l = absurd (omega arith)
jump_over b (suc zero) out again fs l = absurd (omega arith)
jump_over b (suc (suc n)) out again fs l = let e : suc n ≡ suc (suc n) - 1 = omega arith in ap (λ m. jump b m fs) e

-- the last of so many frames
pub last_frame : (fs : List Frame) (n : ℕ) (f : Frame) → n < length fs → f ≡ slice_index_or fs n f → reverse (take (suc n) fs) ≡ f ∷ reverse (take n fs)
last_frame fs n f l e =
    ap reverse (take-suc fs n f l) ∙ ap (λ g. reverse (take n fs ++ g ∷ [])) (sym e) ∙ reverse-append (take n fs) (f ∷ [])

-- ---- jumps out of a `try`

-- the edges of jumps out, among what is around it, the innermost last
abbrev pub out_of : ℕ → Point → List Frame → List Leaving → List Edge
out_of n from fs ls = to_each n from (targets (reverse fs) ls)

to_each-append : (n : ℕ) (from : Point) (ps qs : List Point) → to_each n from (ps ++ qs) ≡ to_each n from ps ++ to_each n from qs
to_each-append n from [] qs = refl
to_each-append n from (p ∷ ps) qs = ap (λ es. edge n from p ++ es) (to_each-append n from ps qs)

targets-append : (fs : List Frame) (ls ms : List Leaving) → targets fs (ls ++ ms) ≡ targets fs ls ++ targets fs ms
targets-append fs [] ms = refl
targets-append fs (l ∷ ls) ms =
    ap (λ ps. jump l.is_break l.level fs ++ ps) (targets-append fs ls ms)
    ∙ sym (append_assoc (jump l.is_break l.level fs) (targets fs ls) (targets fs ms))

pub out-append : (n : ℕ) (from : Point) (fs : List Frame) (ls ms : List Leaving) → out_of n from fs (ls ++ ms) ≡ out_of n from fs ls ++ out_of n from fs ms
out-append n from fs ls ms =
    ap (to_each n from) (targets-append (reverse fs) ls ms) ∙ to_each-append n from (targets (reverse fs) ls) (targets (reverse fs) ms)

-- a node alone, and then what follows it
pub leaving_node : (d : ℕ) (k : NodeKind) (c f : Forest) → leaving d (node k c f) ≡ leaving d (alone (k, c)) ++ leaving d f
leaving_node d k c f = ap (λ ls. ls ++ leaving d f) (sym (append-nil (if is_body k then [] else leaves_by k d c ++ leaving (loops_within k d) c)))

-- a node was passed
pub out_step : (n : ℕ) (from : Point) (fs : List Frame) (d : ℕ) (k : NodeKind) (old c new : Forest) (before after whole : List Edge) → old ≡ node k c new →
    after ≡ before ++ out_of n from fs (leaving d (alone (k, c))) → before ++ out_of n from fs (leaving d old) ≡ whole →
    after ++ out_of n from fs (leaving d new) ≡ whole
out_step n from fs d k old c new before after whole e a w =
    ap (λ es. es ++ out_of n from fs (leaving d new)) a
    ∙ append_assoc before (out_of n from fs (leaving d (alone (k, c)))) (out_of n from fs (leaving d new))
    ∙ ap (λ es. before ++ es) (sym (out-append n from fs (leaving d (alone (k, c))) (leaving d new)) ∙ ap (out_of n from fs) (sym (leaving_node d k c new)))
    ∙ ap (λ f. before ++ out_of n from fs (leaving d f)) (sym e) ∙ w

-- what a node leads out by, and then what its parts do
pub out_node : (n : ℕ) (from : Point) (fs : List Frame) (d inner : ℕ) (k : NodeKind) (c : Forest) (e0 e1 e2 : List Edge) → is_body k ≡ false →
    e1 ≡ e0 ++ out_of n from fs (leaves_by k d c) → inner ≡ loops_within k d → e2 ≡ e1 ++ out_of n from fs (leaving inner c) →
    e2 ≡ e0 ++ out_of n from fs (leaving d (alone (k, c)))
out_node n from fs d inner k c e0 e1 e2 differs a i b =
    b ∙ ap (λ es. es ++ out_of n from fs (leaving inner c)) a
    ∙ append_assoc e0 (out_of n from fs (leaves_by k d c)) (out_of n from fs (leaving inner c))
    ∙ ap (λ es. e0 ++ es) (sym (out-append n from fs (leaves_by k d c) (leaving inner c)))
    ∙ ap (λ m. e0 ++ out_of n from fs (leaves_by k d c ++ leaving m c)) i
    ∙ ap (λ ls. e0 ++ out_of n from fs ls) (sym (append-nil (leaves_by k d c ++ leaving (loops_within k d) c)))
    ∙ ap (λ t. e0 ++ out_of n from fs ((if t then [] else leaves_by k d c ++ leaving (loops_within k d) c) ++ [])) (sym differs)

pub out_body : (n : ℕ) (from : Point) (fs : List Frame) (d : ℕ) (k : NodeKind) (c : Forest) → is_body k ≡ true → out_of n from fs (leaving d (alone (k, c))) ≡ []
out_body n from fs d k c e = ap (λ t. out_of n from fs ((if t then [] else leaves_by k d c ++ leaving (loops_within k d) c) ++ [])) e

-- a node before the last part was passed
pub out_before : (n : ℕ) (from : Point) (fs : List Frame) (k : NodeKind) (old c new : Forest) (before after whole : List Edge) → old ≡ node k c new →
    after ≡ before ++ out_of n from fs (leaving 0 (alone (k, c))) → before ++ out_of n from fs (leaving 0 (before_finally old)) ≡ whole →
    after ++ out_of n from fs (leaving 0 (before_finally new)) ≡ whole
out_before n from fs k old c new before after whole e a w =
    out_step n from fs 0 k (before_finally old) c (before_finally new) before after whole (ap before_finally e) a w
