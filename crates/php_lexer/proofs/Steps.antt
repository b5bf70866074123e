-- One byte more of a walk.
use Rattle.std.proofs.Common.{◌≡◌, ℕ, suc, ◌+◌, ◌<◌, ◌≤◌, Bool, true, false, cond, ◌&&◌, List, [], ◌∷◌, length, get_or, drop, Option, Some, None, refl, ap, ◌∙◌, arith, subst}
use Rattle.std.specs.List.{prefix_len}
use Rattle.php_spellings.specs.declared.table.State.{State}
use Rattle.php_spellings.specs.declared.table.Run.{Run}
use Rattle.php_spellings.specs.declared.table.Until.{Until}
use Rattle.php_spellings.specs.Bytes.{starts, is_blank_byte, is_line_end}
use Rattle.php_lexer.specs.Heredocs.{no_label, ends_heredoc}
use Rattle.php_lexer.specs.Tails.{goes, moved, closes, bars, stepped}
use Rattle.php_spellings.specs.declared.table.Shape.{Shape}
use Rattle.php_spellings.specs.declared.table.Spot.{Spot}
use Rattle.php_lexer.specs.Shapes.{step, may_end, is_stuck}
use Rattle.php_lexer.specs.Scan.{add_to, run_len, until_len, end_line_len, last_label_len, body_len, shape_len, or_else, here_len}
use Rattle.php_spellings.proofs.StartLemmas.{split, drop_end}

-- ---- runs

pub run_step : (r : Run) (label : List ℕ) (s : State) (bs : List ℕ) (i : ℕ) → i < length bs
    → goes r label s (get_or bs i 0) (drop (i + 1) bs) ≡ true
    → i + run_len r label s (drop i bs) ≡ (i + 1) + run_len r label (moved r s (get_or bs i 0)) (drop (i + 1) bs)
run_step r label s bs i lt e = let p = split bs i lt in rw (p, e) (omega arith)

pub run_stop : (r : Run) (label : List ℕ) (s : State) (bs : List ℕ) (i : ℕ) → i < length bs
    → goes r label s (get_or bs i 0) (drop (i + 1) bs) ≡ false → i + run_len r label s (drop i bs) ≡ i
run_stop r label s bs i lt e = let p = split bs i lt in rw (p, e) (omega arith)

pub run_end : (r : Run) (label : List ℕ) (s : State) (bs : List ℕ) (i : ℕ) → length bs ≤ i → i + run_len r label s (drop i bs) ≡ i
run_end r label s bs i le = let p = drop_end bs i le in rw p (omega arith)

-- ---- texts with a closing byte

add_add : (n : ℕ) (o : Option ℕ) → add_to n (add_to 1 o) ≡ add_to (n + 1) o
add_add n None = refl
add_add n (Some m) = ap Some (omega arith)

pub until_step : (u : Until) (s : State) (bs : List ℕ) (i : ℕ) → i < length bs
    → bars u s (get_or bs i 0) (drop (i + 1) bs) ≡ false → closes u s (get_or bs i 0) ≡ false
    → add_to i (until_len u s (drop i bs)) ≡ add_to (i + 1)
    (until_len u (stepped u s (get_or bs i 0)) (drop (i + 1) bs))
until_step u s bs i lt e f = let p = split bs i lt in rw (p, e, f) (add_add i (until_len u (stepped u s (get_or bs i 0)) (drop (i + 1) bs)))

pub until_bar : (u : Until) (s : State) (bs : List ℕ) (i : ℕ) → i < length bs → bars u s (get_or bs i 0) (drop (i + 1) bs) ≡ true → add_to i (until_len u s (drop i bs)) ≡ None
until_bar u s bs i lt e = let p = split bs i lt in rw (p, e) refl

pub until_close : (u : Until) (s : State) (bs : List ℕ) (i : ℕ) → i < length bs
    → bars u s (get_or bs i 0) (drop (i + 1) bs) ≡ false → closes u s (get_or bs i 0) ≡ true
    → add_to i (until_len u s (drop i bs)) ≡ Some (i + 1)
until_close u s bs i lt e f = let p = split bs i lt in rw (p, e, f) refl

pub until_end : (u : Until) (s : State) (bs : List ℕ) (i : ℕ) → length bs ≤ i → add_to i (until_len u s (drop i bs)) ≡ None
until_end u s bs i le = let p = drop_end bs i le in rw p refl

-- ---- the end of a heredoc

pub end_line_is : (label bs : List ℕ) → end_line_len label bs ≡ add_to (prefix_len is_blank_byte bs) (last_label_len label (drop (prefix_len is_blank_byte bs) bs))
end_line_is [] [] = refl
end_line_is (a ∷ label) [] = refl
end_line_is label (b ∷ bs) = line_by label b bs (end_line_is label bs) (is_blank_byte b) refl
  where
    none_more : (n : ℕ) (o : Option ℕ) → add_to 1 (add_to n o) ≡ add_to (1 + n) o
    none_more n None = refl
    none_more n (Some m) = ap Some (omega arith)

    zero_more : (o : Option ℕ) → o ≡ add_to 0 o
    zero_more None = refl
    zero_more (Some m) = ap Some (omega arith)

    line_by : (label : List ℕ) (b : ℕ) (bs : List ℕ) → end_line_len label bs ≡ add_to (prefix_len is_blank_byte bs)
        (last_label_len label (drop (prefix_len is_blank_byte bs) bs)) → (t : Bool) → is_blank_byte b ≡ t
        → cond t (add_to 1 (end_line_len label bs)) (last_label_len label (b ∷ bs)) ≡ add_to
        (cond t (1 + prefix_len is_blank_byte bs) 0)
        (last_label_len label (drop (cond t (1 + prefix_len is_blank_byte bs) 0) (b ∷ bs)))
    line_by label b bs ih true e =
        let one : 1 + prefix_len is_blank_byte bs ≡ suc (prefix_len is_blank_byte bs) = omega arith in
        rw (ih, one) (none_more (prefix_len is_blank_byte bs)
        (last_label_len label (drop (prefix_len is_blank_byte bs) bs))
        ∙ ap (λ (n : ℕ). add_to n (last_label_len label (drop (prefix_len is_blank_byte bs) bs))) one)
    line_by label b bs ih false e = zero_more (last_label_len label (b ∷ bs))

pub label_len_is : (a : ℕ) (label bs : List ℕ) (s t : Bool) → starts (a ∷ label) bs ≡ s
    → no_label (drop (length (a ∷ label)) bs) ≡ t → last_label_len (a ∷ label) bs ≡ cond (s && t)
    (Some (length (a ∷ label))) None
label_len_is a label bs true true p q = rw (p, q) (ap Some (omega arith))
label_len_is a label bs true false p q = rw (p, q) refl
label_len_is a label bs false t p q = rw p refl

-- ---- shapes

or_add : (i : ℕ) (o best : Option ℕ) (e : Bool) → or_else (add_to i (or_else (add_to 1 o) (here_len e))) best ≡ or_else (add_to (i + 1) o) (cond e (Some i) best)
or_add i None best true = ap Some (omega arith)
or_add i None best false = refl
or_add i (Some n) best e = ap Some (omega arith)

or_here : (i : ℕ) (best : Option ℕ) (e : Bool) → or_else (add_to i (here_len e)) best ≡ cond e (Some i) best
or_here i best true = ap Some (omega arith)
or_here i best false = refl

pub shape_first : (sh : Shape) (s : Spot) (bs : List ℕ) → shape_len sh s bs ≡ or_else (add_to 0 (shape_len sh s (drop 0 bs))) None
shape_first sh s bs = from_zero (shape_len sh s bs)
  where
    from_zero : (o : Option ℕ) → o ≡ or_else (add_to 0 o) None
    from_zero None = refl
    from_zero (Some n) = ap Some (omega arith)

pub shape_step : (sh : Shape) (s : Spot) (bs : List ℕ) (i : ℕ) (best : Option ℕ) → i < length bs
    → is_stuck (step sh s (get_or bs i 0)) ≡ false → or_else (add_to i (shape_len sh s (drop i bs))) best ≡ or_else
    (add_to (i + 1) (shape_len sh (step sh s (get_or bs i 0)) (drop (i + 1) bs))) (cond (may_end sh s) (Some i) best)
shape_step sh s bs i best lt e = let p = split bs i lt in rw (p, e) (or_add i (shape_len sh (step sh s (get_or bs i 0)) (drop (i + 1) bs)) best (may_end sh s))

pub shape_stuck : (sh : Shape) (s : Spot) (bs : List ℕ) (i : ℕ) (best : Option ℕ) → i < length bs
    → is_stuck (step sh s (get_or bs i 0)) ≡ true → or_else (add_to i (shape_len sh s (drop i bs))) best ≡ cond
    (may_end sh s) (Some i) best
shape_stuck sh s bs i best lt e = let p = split bs i lt in rw (p, e) (or_here i best (may_end sh s))

pub shape_end : (sh : Shape) (s : Spot) (bs : List ℕ) (i : ℕ) (best : Option ℕ) → length bs ≤ i
    → or_else (add_to i (shape_len sh s (drop i bs))) best ≡ cond (may_end sh s) (Some i) best
shape_end sh s bs i best le = let p = drop_end bs i le in rw p (or_here i best (may_end sh s))

-- ---- bodies of nowdocs

pub body_step : (label : List ℕ) (fresh : Bool) (bs : List ℕ) (i : ℕ) → i < length bs
    → (fresh && ends_heredoc label (drop i bs)) ≡ false → add_to i (body_len label fresh (drop i bs)) ≡ add_to (i + 1)
    (body_len label (is_line_end (get_or bs i 0)) (drop (i + 1) bs))
body_step label fresh bs i lt e =
    let p = split bs i lt in
    let q : (fresh && ends_heredoc label (get_or bs i 0 ∷ drop (i + 1) bs)) ≡ false = subst (λ (u : List ℕ). (fresh && ends_heredoc label u) ≡ false) p e in
    rw (p, q) (add_add i (body_len label (is_line_end (get_or bs i 0)) (drop (i + 1) bs)))

pub body_stop : (label : List ℕ) (fresh : Bool) (bs : List ℕ) (i : ℕ) → i < length bs
    → (fresh && ends_heredoc label (drop i bs)) ≡ true → body_len label fresh (drop i bs) ≡ end_line_len label
    (drop i bs)
body_stop label fresh bs i lt e =
    let p = split bs i lt in
    let q : (fresh && ends_heredoc label (get_or bs i 0 ∷ drop (i + 1) bs)) ≡ true = subst (λ (u : List ℕ). (fresh && ends_heredoc label u) ≡ true) p e in
    rw (p, q) refl

pub body_end : (label : List ℕ) (fresh : Bool) (bs : List ℕ) (i : ℕ) → length bs ≤ i → add_to i (body_len label fresh (drop i bs)) ≡ None
body_end label fresh bs i le = let p = drop_end bs i le in rw p refl
