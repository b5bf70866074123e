-- Whole names lose no byte of the source.
use Rattle.std.proofs.Common.{◌≡◌, ℕ, Bool, true, false, ◌&&◌, ◌||◌, List, [], ◌∷◌, ◌++◌, refl, ap, sym, ◌∙◌, codes, append_assoc, append-nil}
use Rattle.tracked_changes.specs.Pieces.{Piece, changed, before}
use Rattle.tracked_changes.specs.Draft.{NewToken, Draft, no_more, new_leaf, new_node, token_pieces, pieces}
use Rattle.tracked_changes.proofs.Joining.{before-append}
use Rattle.tracked_changes.proofs.Keeping.{SameToken, SameBytes, same_leaf, same_node, same_if, same_draft_if}
use Rattle.syntax_rules.specs.SplitName.{
  split_name,
  is_one,
  deleted,
  one_name,
  in_front,
  whole_names,
  space_before,
  is_nothing,
  keyword_behind,
  is_name,
  begins_root,
  keyword_last,
  apart,
  SplitNameIsWritten,
}

deleted_keeps : (bytes : List ℕ) → before (deleted bytes) ≡ bytes
deleted_keeps [] = refl
deleted_keeps (b ∷ bs) = append-nil (b ∷ bs)

one_name_keeps : (t u : NewToken) → before (token_pieces (one_name t u)) ≡ before (token_pieces t ++ token_pieces u)
one_name_keeps t u =
    before-append t.lead (t.text ++ deleted (before u.lead) ++ u.text)
    ∙ ap (λ x. before t.lead ++ x) (before-append (t.text ++ deleted (before u.lead)) u.text
    ∙ ap (λ x. x ++ before u.text) (before-append t.text (deleted (before u.lead)) ∙ ap (λ x. before t.text ++ x) (deleted_keeps (before u.lead)))
    ∙ append_assoc (before t.text) (before u.lead) (before u.text)
    ∙ ap (λ x. before t.text ++ x) (sym (before-append u.lead u.text)))
    ∙ sym (append_assoc (before t.lead) (before t.text) (before (token_pieces u)))
    ∙ ap (λ x. x ++ before (token_pieces u)) (sym (before-append t.lead t.text))
    ∙ sym (before-append (token_pieces t) (token_pieces u))

one_leaf_keeps : (t u : NewToken) (d : Draft) → SameBytes (new_leaf (one_name t u) d) (new_leaf t (new_leaf u d))
one_leaf_keeps t u d =
    before-append (token_pieces (one_name t u)) (pieces d)
    ∙ ap (λ x. x ++ before (pieces d)) (one_name_keeps t u)
    ∙ sym (before-append (token_pieces t ++ token_pieces u) (pieces d))
    ∙ ap before (append_assoc (token_pieces t) (token_pieces u) (pieces d))

in_front_keeps : (delete : Bool) (t : NewToken) (d : Draft) → SameBytes (in_front delete t d) (new_leaf t d)
in_front_keeps delete t no_more = refl
in_front_keeps delete t (new_node k c d) = refl
in_front_keeps delete t (new_leaf u d) =
    same_draft_if (is_one t u && (delete || is_nothing (before u.lead))) (new_leaf (one_name t u) d) (new_leaf t (new_leaf u d)) (new_leaf t (new_leaf u d))
    (one_leaf_keeps t u d) refl

pub whole_keeps : (delete : Bool) (d : Draft) → SameBytes (whole_names delete d) d
whole_keeps delete no_more = refl
whole_keeps delete (new_leaf t d) =
    in_front_keeps delete t (whole_names delete d) ∙ same_leaf t t (whole_names delete d) d refl (whole_keeps delete d)
whole_keeps delete (new_node k c d) =
    same_node k k (whole_names delete c) c (whole_names delete d) d (whole_keeps delete c) (whole_keeps delete d)

space_keeps : (behind : Bool) (t : NewToken) → SameToken (space_before behind t) t
space_keeps behind t =
    let space : List Piece = changed [] (codes " ") ∷ [] in
    same_if (behind && is_name t.kind && begins_root (before t.text) && is_nothing (before t.lead)) (record t { lead = t.lead ++ space }) t t
    (before-append (t.lead ++ space) t.text ∙ ap (λ x. x ++ before t.text) (before-append t.lead space ∙ append-nil (before t.lead))
    ∙ sym (before-append t.lead t.text)) refl

apart_keeps : (behind : Bool) (d : Draft) → SameBytes (apart behind d) d
apart_keeps behind no_more = refl
apart_keeps behind (new_leaf t d) =
    let next : Bool = keyword_behind behind t in
    same_leaf (space_before behind t) t (apart next d) d (space_keeps behind t) (apart_keeps next d)
apart_keeps behind (new_node k c d) =
    same_node k k (apart behind c) c (apart (keyword_last behind c) d) d (apart_keeps behind c) (apart_keeps (keyword_last behind c) d)

pub split_keeps : (d : Draft) → SameBytes (split_name d) d
split_keeps d = apart_keeps false (whole_names true d) ∙ whole_keeps true d

pub split_name_is_written : SplitNameIsWritten
split_name_is_written = (split_keeps, record { edits = refl; tree = refl })
