-- The edits of pieces, made in their bytes before, give their bytes after.
use Rattle.std.proofs.Common.{◌≡◌, ℕ, ◌+◌, ◌≤◌, inl, inr, true, false, List, [], ◌∷◌, ◌++◌, length, filter, All, refl, ap, sym, ◌∙◌, subst, arith, nat_le, nat_lt, length-append}
use Rattle.std.proofs.Math.Seq.{take-append_seam, drop-append_seam}
use Rattle.std.proofs.lemmas.List.Elements.{All-head, All-tail, All-nil, All-cons}
use Rattle.std.proofs.lemmas.Bool.Decides.{nat_tests}
use Rattle.span_edits.specs.declared.edit.Edit.{Edit}
use Rattle.span_edits.specs.declared.span.Span.{Span}
use Rattle.span_edits.specs.Crosses.{Crosses, FirstCrossed}
use Rattle.span_edits.specs.EditList.{AreApart}
use Rattle.span_edits.specs.Splice.{spliced_from}
use Rattle.span_edits.proofs.SpliceLemmas.{spliced_from-skip, spliced_from-edit}
use Rattle.span_edits.proofs.LawLemmas.{EndsBy, EndsBy-from_apart}
use Rattle.php_tree.specs.Tree.{Forest, none, leaf, node, printed, token_bytes, file_printed}
use Rattle.php_tree.specs.Places.{placed, behind, end_of}
use Rattle.tracked_changes.specs.Pieces.{Piece, kept, changed, also, before, after}
use Rattle.tracked_changes.specs.Draft.{Draft, no_more, new_leaf, new_node, FileDraft, token_pieces, pieces, file_pieces, source, rewritten_token, rewritten, rewritten_file}
use Rattle.tracked_changes.specs.Edits.{joined, replacement, edits_from}
use Rattle.tracked_changes.specs.Laws.{SplicedIsRewritten, EditsAreApart, EachComesNext}
use Rattle.tracked_changes.proofs.Joining.{after-append, before-joined, after-joined}

-- ---- edits in order

apart_from : (early at to : ℕ) (es : List Edit) → early ≤ at → AreApart at es to → AreApart early es to
apart_from early at to [] h a = omega (arith, a)
apart_from early at to (e ∷ es) h a = (omega (arith, a.0), a.1)

-- the edits of pieces that begin at a place lie between it and the end of their bytes
pub edits_apart : (at to : ℕ) (ps : List Piece) → to ≡ at + length (before ps) → AreApart at (edits_from at ps) to
edits_apart at to [] e = omega arith
edits_apart at to (kept b ∷ ps) e =
    let sum : length (b ++ before ps) ≡ length b + length (before ps) = length-append b (before ps) in
    apart_from at (at + length b) to (edits_from (at + length b) ps) (omega arith) (edits_apart (at + length b) to ps (omega arith))
edits_apart at to (changed o t ∷ ps) e =
    let sum : length (o ++ before ps) ≡ length o + length (before ps) = length-append o (before ps) in
    (omega arith, edits_apart (at + length o) to ps (omega arith))
edits_apart at to (also t ∷ ps) e =
    (omega arith, edits_apart (at + 0) to ps (omega arith))

-- ---- splices

-- bytes in front of all edits
front_splice : (front bytes : List ℕ) (place at to : ℕ) (es : List Edit) → at ≡ place + length front → AreApart at es to
    → spliced_from place (front ++ bytes) es ≡ front ++ spliced_from at bytes es
front_splice front bytes place at to es e a =
    spliced_from-skip (length front) place at to (front ++ bytes) es e (simp length-append (omega arith)) a
    ∙ rw (take-append_seam front bytes, drop-append_seam front bytes) refl

-- bytes that are replaced
out_splice : (at to : ℕ) (out text bytes : List ℕ) (es : List Edit) → AreApart (at + length out) es to
    → spliced_from at (out ++ bytes) (replacement at out text ∷ es) ≡ text ++ spliced_from (at + length out) bytes es
out_splice at to out text bytes es a =
    spliced_from-edit (length out) at to (out ++ bytes) (replacement at out text) es refl refl (simp length-append (omega arith)) a
    ∙ rw (drop-append_seam out bytes) refl

pub pieces_splice : (at to : ℕ) (ps : List Piece) → to ≡ at + length (before ps) → spliced_from at (before ps) (edits_from at ps) ≡ after ps
pieces_splice at to [] e = refl
pieces_splice at to (kept b ∷ ps) e =
    let sum : length (b ++ before ps) ≡ length b + length (before ps) = length-append b (before ps) in
    let ends : to ≡ (at + length b) + length (before ps) = omega arith in
    front_splice b (before ps) at (at + length b) to (edits_from (at + length b) ps) refl (edits_apart (at + length b) to ps ends)
    ∙ ap (λ x. b ++ x) (pieces_splice (at + length b) to ps ends)
pieces_splice at to (changed o t ∷ ps) e =
    let sum : length (o ++ before ps) ≡ length o + length (before ps) = length-append o (before ps) in
    let ends : to ≡ (at + length o) + length (before ps) = omega arith in
    out_splice at to o t (before ps) (edits_from (at + length o) ps) (edits_apart (at + length o) to ps ends)
    ∙ ap (λ x. t ++ x) (pieces_splice (at + length o) to ps ends)
pieces_splice at to (also t ∷ ps) e =
    let ends : to ≡ (at + 0) + length (before ps) = omega arith in
    out_splice at to [] t (before ps) (edits_from (at + 0) ps) (edits_apart (at + 0) to ps ends)
    ∙ ap (λ x. t ++ x) (pieces_splice (at + 0) to ps ends)

-- ---- the rewritten tree, printed

pub printed-rewritten : (d : Draft) → printed (rewritten d) ≡ after (pieces d)
printed-rewritten no_more = refl
printed-rewritten (new_leaf t d) =
    ap (λ x. token_bytes (rewritten_token t) ++ x) (printed-rewritten d)
    ∙ ap (λ x. x ++ after (pieces d)) (sym (after-append t.lead t.text))
    ∙ sym (after-append (token_pieces t) (pieces d))
printed-rewritten (new_node k c d) = rw (printed-rewritten c, printed-rewritten d) (sym (after-append (pieces c) (pieces d)))

-- places change no byte
pub printed-placed : (at : ℕ) (f : Forest) → printed (placed at f) ≡ printed f
printed-placed at none = refl
printed-placed at (leaf t f) = ap (λ x. token_bytes t ++ x) (printed-placed (behind at t) f)
printed-placed at (node k c f) = rw (printed-placed at c, printed-placed (end_of at c) f) refl

pub file_printed-rewritten : (d : FileDraft) → file_printed (rewritten_file d) ≡ after (file_pieces d)
file_printed-rewritten d =
    ap (λ x. x ++ token_bytes (rewritten_token d.end)) (printed-placed 0 (rewritten d.statements) ∙ printed-rewritten d.statements)
    ∙ ap (λ x. after (pieces d.statements) ++ x) (sym (after-append d.end.lead d.end.text))
    ∙ sym (after-append (pieces d.statements) (token_pieces d.end))

-- ---- the laws

pub spliced_is_rewritten : SplicedIsRewritten
spliced_is_rewritten d =
    let ps : List Piece = joined (file_pieces d) in
    ap (λ x. spliced_from 0 x (edits_from 0 ps)) (sym (before-joined (file_pieces d)))
    ∙ pieces_splice 0 (0 + length (before ps)) ps refl
    ∙ after-joined (file_pieces d)
    ∙ sym (file_printed-rewritten d)

pub edits_are_apart : EditsAreApart
edits_are_apart d =
    let ps : List Piece = joined (file_pieces d) in
    let same : length (before ps) ≡ length (source d) = ap length (before-joined (file_pieces d)) in
    edits_apart 0 (length (source d)) ps (omega arith)

-- ---- an edit behind others

apart_front : (from to : ℕ) (front : List Edit) (e : Edit) (back : List Edit) → AreApart from (front ++ e ∷ back) to
    → AreApart from front e.span.start × AreApart e.span.end back to
apart_front from to [] e back a = (a.0, a.1)
apart_front from to (f ∷ front) e back a =
    let rest = apart_front f.span.end to front e back a.1 in ((a.0, rest.0), rest.1)

no_cross : (e f : Edit) → EndsBy e.span.start f → ¬ Crosses e.span f.span
no_cross e f h (inl s) = omega (arith, s.1.0, s.2.1)
no_cross e f h (inr (inl s)) = omega (arith, s.2)
no_cross e f h (inr (inr s)) = omega (arith, s.1, f.span.ordered)

all_apart : (e : Edit) (front : List Edit) → All (EndsBy e.span.start) front → All (λ f. ¬ Crosses e.span f.span) front
all_apart e [] h = All-nil (λ (f : Edit). ¬ Crosses e.span f.span)
all_apart e (f ∷ front) h =
    All-cons (λ (f : Edit). ¬ Crosses e.span f.span) f front (no_cross e f (All-head (EndsBy e.span.start) f front h))
    (all_apart e front (All-tail (EndsBy e.span.start) f front h))

-- what is true of all is true of one in the middle
at_middle : (P : Edit → Type 0) (front : List Edit) (e : Edit) (back : List Edit) → All P (front ++ e ∷ back) → P e
at_middle P [] e back h = All-head P e back h
at_middle P (f ∷ front) e back h = at_middle P front e back (All-tail P f (front ++ e ∷ back) h)

none_crossed : (e : Edit) (front : List Edit) → All (λ f. ¬ Crosses e.span f.span) front → (stored : Span) → ¬ FirstCrossed e.span front stored
none_crossed e front h stored first =
    let Apart : Edit → Type 0 = λ f. ¬ Crosses e.span f.span in
    at_middle Apart first.front first.crossed first.back (subst (All Apart) first.are_edits h) first.crosses

behind_all : (place : ℕ) (front : List Edit) → All (EndsBy place) front → filter (λ f. nat_le f.span.end place) front ≡ front
behind_all place [] h = refl
behind_all place (f ∷ front) h =
    let ends : f.span.end ≤ place = All-head (EndsBy place) f front h in
    let passes : nat_le f.span.end place ≡ true = grind (arith, nat_tests) in
    rw passes (ap (λ fs. f ∷ fs) (behind_all place front (All-tail (EndsBy place) f front h)))

none_later : (place : ℕ) (front : List Edit) → All (EndsBy place) front → filter (λ f. nat_lt place f.span.end) front ≡ []
none_later place [] h = refl
none_later place (f ∷ front) h =
    let ends : f.span.end ≤ place = All-head (EndsBy place) f front h in
    let fails : nat_lt place f.span.end ≡ false = grind (arith, nat_tests) in
    rw fails (none_later place front (All-tail (EndsBy place) f front h))

pub within_to : (from to : ℕ) (es : List Edit) → AreApart from es to → from ≤ to
within_to from to [] a = a
within_to from to (e ∷ es) a =
    let rest : e.span.end ≤ to = within_to e.span.end to es a.1 in omega (arith, a.0, e.span.ordered)

pub each_comes_next : EachComesNext
each_comes_next d front e back eq =
    let whole : AreApart 0 (front ++ e ∷ back) (length (source d)) = subst (λ es. AreApart 0 es (length (source d))) eq (edits_are_apart d) in
    let parts = apart_front 0 (length (source d)) front e back whole in
    let ended : All (EndsBy e.span.start) front = EndsBy-from_apart 0 e.span.start front parts.0 in
    record {
      within = within_to e.span.end (length (source d)) back parts.1;
      apart = all_apart e front ended;
      free = none_crossed e front (all_apart e front ended);
      last = rw (behind_all e.span.start front ended, none_later e.span.start front ended) refl;
    }
