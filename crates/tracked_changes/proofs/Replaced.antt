-- Bytes that stay, and bytes that go.
use Rattle.std.proofs.Common.{◌≡◌, ℕ, ◌+◌, ◌≤◌, inl, List, [], ◌∷◌, ◌++◌, length, refl, ap, sym, ◌∙◌, subst, arith}
use Rattle.span_edits.specs.declared.edit.Edit.{Edit}
use Rattle.span_edits.specs.EditList.{AreApart}
use Rattle.span_edits.specs.Splice.{is_replaced}
use Rattle.span_edits.proofs.SpliceLemmas.{is_replaced-none, is_replaced-other, is_replaced-here}
use Rattle.tracked_changes.specs.Pieces.{Piece, kept, changed, before}
use Rattle.tracked_changes.specs.Edits.{join, joined, replacement, edits_from}
use Rattle.tracked_changes.specs.Laws.{BeginAnew, KeptBytesStay, TakenBytesGo}
use Rattle.tracked_changes.proofs.Joining.{Joins, join_changed, joined-append, before-joined, edits_from-append}
use Rattle.tracked_changes.proofs.Splicing.{edits_apart, within_to}

-- edits that end before a place leave its byte to those behind them
replaced_behind : (place from to : ℕ) (es fs : List Edit) → AreApart from es to → to ≤ place → is_replaced place (es ++ fs) ≡ is_replaced place fs
replaced_behind place from to [] fs a h = refl
replaced_behind place from to (e ∷ es) fs a h =
    let ends : e.span.end ≤ to = within_to e.span.end to es a.1 in
    is_replaced-other place e (es ++ fs) (inl (omega arith)) ∙ replaced_behind place e.span.end to es fs a.1 h

-- the edits of pieces behind others, at a place behind those
behind_front : (front qs : List Piece) (place : ℕ) → BeginAnew (joined qs) → length (before front) ≤ place
    → is_replaced place (edits_from 0 (joined (front ++ qs))) ≡ is_replaced place (edits_from (length (before front)) (joined qs))
behind_front front qs place h low =
    let same : 0 + length (before (joined front)) ≡ length (before front) = ap (λ x. 0 + length x) (before-joined front) ∙ omega arith in
    ap (λ ps. is_replaced place (edits_from 0 ps)) (joined-append front qs h)
    ∙ ap (is_replaced place) (edits_from-append 0 (joined front) (joined qs))
    ∙ replaced_behind place 0 (0 + length (before (joined front))) (edits_from 0 (joined front)) _ (edits_apart 0 _ (joined front) refl) (omega arith)
    ∙ ap (λ x. is_replaced place (edits_from x (joined qs))) same

pub kept_bytes_stay : KeptBytesStay
kept_bytes_stay d front bytes back place eq lies =
    let at : ℕ = length (before front) in
    ap (λ ps. is_replaced place (edits_from 0 (joined ps))) eq
    ∙ behind_front front (kept bytes ∷ back) place tt lies.0
    ∙ is_replaced-none place (at + length bytes) _ (edits_from (at + length bytes) (joined back)) lies.1 (edits_apart (at + length bytes) _ (joined back) refl)

pub taken_bytes_go : TakenBytesGo
taken_bytes_go d front out text back place eq lies =
    let at : ℕ = length (before front) in
    let j : Joins out text (joined back) (join (changed out text) (joined back)) = join_changed out text (joined back) in
    ap (λ ps. is_replaced place (edits_from 0 (joined ps))) eq
    ∙ behind_front front (changed out text ∷ back) place (subst BeginAnew (sym j.first) tt) lies.0
    ∙ ap (λ ps. is_replaced place (edits_from at ps)) j.first
    ∙ is_replaced-here place (replacement at out (text ++ j.more)) (edits_from (at + length out) j.rest) lies.0 lies.1
