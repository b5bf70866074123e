-- Spaces behind `#` lose no byte of the source.
use Rattle.std.proofs.Common.{◌≡◌, ℕ, Bool, true, false, if◌then◌else◌, List, [], ◌∷◌, ◌++◌, refl, ap, ◌∙◌, codes, append-nil}
use Rattle.tracked_changes.specs.Pieces.{Piece, kept, changed, before}
use Rattle.tracked_changes.proofs.Joining.{before-append}
use Rattle.syntax_rules.specs.HashComment.{Standing, outside, moved, begins_hash, spaced, untouched, lead_by, HashCommentIsWritten}

put_in_keeps : (b : Bool) (text : List ℕ) (ps : List Piece) → before ((if b then changed [] text ∷ [] else []) ++ ps) ≡ before ps
put_in_keeps true text ps = refl
put_in_keeps false text ps = refl

spaced_keeps : (s : Standing) (lead : List ℕ) → before (spaced s lead) ≡ lead
spaced_keeps s [] = refl
spaced_keeps s (b ∷ bs) =
    ap (λ x. b ∷ x) (put_in_keeps (begins_hash s b bs) (codes " ") (spaced (moved s b bs) bs) ∙ spaced_keeps (moved s b bs) bs)

untouched_keeps : (lead : List ℕ) → before (untouched lead) ≡ lead
untouched_keeps [] = refl
untouched_keeps (b ∷ bs) = ap (λ x. b ∷ x) (untouched_keeps bs)

pub lead_keeps : (is_on : Bool) (lead : List ℕ) → before (lead_by is_on lead) ≡ lead
lead_keeps true lead = spaced_keeps outside lead
lead_keeps false lead = untouched_keeps lead

pub hash_comment_is_written : HashCommentIsWritten
hash_comment_is_written = (
  λ t. before-append (spaced outside t.lead) (kept t.text ∷ []) ∙ ap (λ x. x ++ (t.text ++ [])) (spaced_keeps outside t.lead)
      ∙ ap (λ x. t.lead ++ x) (append-nil t.text),
  refl,
)
