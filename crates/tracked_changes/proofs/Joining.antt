-- Pieces with one piece for each edit.
use Rattle.std.proofs.Common.{◌≡◌, ℕ, ◌+◌, List, [], ◌∷◌, ◌++◌, length, refl, ap, sym, ◌∙◌, append_assoc, append-nil, length-append, arith}
use Rattle.tracked_changes.specs.Pieces.{Piece, kept, changed, also, old_bytes, new_bytes, before, after}
use Rattle.tracked_changes.specs.Edits.{join, joined, edit_of, edits_from}
use Rattle.tracked_changes.specs.Laws.{BeginAnew, EditsCompose}

-- ---- pieces one after another

pub before-append : (ps qs : List Piece) → before (ps ++ qs) ≡ before ps ++ before qs
before-append [] qs = refl
before-append (p ∷ ps) qs = ap (λ x. old_bytes p ++ x) (before-append ps qs) ∙ sym (append_assoc (old_bytes p) (before ps) (before qs))

pub after-append : (ps qs : List Piece) → after (ps ++ qs) ≡ after ps ++ after qs
after-append [] qs = refl
after-append (p ∷ ps) qs = ap (λ x. new_bytes p ++ x) (after-append ps qs) ∙ sym (append_assoc (new_bytes p) (after ps) (after qs))

pub edits_from-append : (at : ℕ) (ps qs : List Piece) → edits_from at (ps ++ qs) ≡ edits_from at ps ++ edits_from (at + length (before ps)) qs
edits_from-append at [] qs = ap (λ x. edits_from x qs) (omega arith)
edits_from-append at (p ∷ ps) qs =
    ap (λ x. edit_of at p ++ x) (edits_from-append (at + length (old_bytes p)) ps qs
    ∙ ap (λ x. edits_from (at + length (old_bytes p)) ps ++ edits_from x qs)
    (let sum : length (old_bytes p ++ before ps) ≡ length (old_bytes p) + length (before ps) =
    length-append (old_bytes p) (before ps) in omega arith))
    ∙ sym (append_assoc (edit_of at p) (edits_from (at + length (old_bytes p)) ps) (edits_from (at + length (before (p ∷ ps))) qs))

-- ---- joining changes no byte

before-join : (p : Piece) (ps : List Piece) → before (join p ps) ≡ old_bytes p ++ before ps
before-join (kept b) ps = refl
before-join (changed o t) [] = refl
before-join (changed o t) (kept b ∷ ps) = refl
before-join (changed o t) (changed u v ∷ ps) = refl
before-join (changed o t) (also m ∷ ps) = refl
before-join (also t) [] = refl
before-join (also t) (kept b ∷ ps) = refl
before-join (also t) (changed u v ∷ ps) = refl
before-join (also t) (also m ∷ ps) = refl

after-join : (p : Piece) (ps : List Piece) → after (join p ps) ≡ new_bytes p ++ after ps
after-join (kept b) ps = refl
after-join (changed o t) [] = refl
after-join (changed o t) (kept b ∷ ps) = refl
after-join (changed o t) (changed u v ∷ ps) = refl
after-join (changed o t) (also m ∷ ps) = append_assoc t m (after ps)
after-join (also t) [] = refl
after-join (also t) (kept b ∷ ps) = refl
after-join (also t) (changed u v ∷ ps) = refl
after-join (also t) (also m ∷ ps) = append_assoc t m (after ps)

pub before-joined : (ps : List Piece) → before (joined ps) ≡ before ps
before-joined [] = refl
before-joined (p ∷ ps) = before-join p (joined ps) ∙ ap (λ x. old_bytes p ++ x) (before-joined ps)

pub after-joined : (ps : List Piece) → after (joined ps) ≡ after ps
after-joined [] = refl
after-joined (p ∷ ps) = after-join p (joined ps) ∙ ap (λ x. new_bytes p ++ x) (after-joined ps)

-- ---- where nothing is joined

join-front : (p : Piece) (ps qs : List Piece) → BeginAnew qs → join p (ps ++ qs) ≡ join p ps ++ qs
join-front (kept b) ps qs h = refl
join-front (changed o t) [] [] h = refl
join-front (changed o t) [] (kept b ∷ qs) h = refl
join-front (changed o t) [] (changed u v ∷ qs) h = refl
join-front (changed o t) [] (also m ∷ qs) h = absurd h
join-front (changed o t) (kept b ∷ ps) qs h = refl
join-front (changed o t) (changed u v ∷ ps) qs h = refl
join-front (changed o t) (also m ∷ ps) qs h = refl
join-front (also t) [] [] h = refl
join-front (also t) [] (kept b ∷ qs) h = refl
join-front (also t) [] (changed u v ∷ qs) h = refl
join-front (also t) [] (also m ∷ qs) h = absurd h
join-front (also t) (kept b ∷ ps) qs h = refl
join-front (also t) (changed u v ∷ ps) qs h = refl
join-front (also t) (also m ∷ ps) qs h = refl

pub joined-append : (ps qs : List Piece) → BeginAnew (joined qs) → joined (ps ++ qs) ≡ joined ps ++ joined qs
joined-append [] qs h = refl
joined-append (p ∷ ps) qs h = ap (join p) (joined-append ps qs h) ∙ join-front p (joined ps) (joined qs) h

changed_anew : (out text : List ℕ) (ps : List Piece) → BeginAnew (join (changed out text) ps)
changed_anew o t [] = tt
changed_anew o t (kept b ∷ ps) = tt
changed_anew o t (changed u v ∷ ps) = tt
changed_anew o t (also m ∷ ps) = tt

joined_anew : (ps : List Piece) → BeginAnew ps → BeginAnew (joined ps)
joined_anew [] h = tt
joined_anew (kept b ∷ ps) h = tt
joined_anew (changed o t ∷ ps) h = changed_anew o t (joined ps)
joined_anew (also t ∷ ps) h = absurd h

pub edits_compose : EditsCompose
edits_compose at ps qs h =
    ap (edits_from at) (joined-append ps qs (joined_anew qs h))
    ∙ edits_from-append at (joined ps) (joined qs)
    ∙ ap (λ bs. edits_from at (joined ps) ++ edits_from (at + length bs) (joined qs)) (before-joined ps)

-- an edit in front of other pieces: the same bytes are taken out, and it stands before the rest
pub record Joins (out text : List ℕ) (ps qs : List Piece) : Type 0 where
  pub more : List ℕ
  pub rest : List Piece
  pub first : qs ≡ changed out (text ++ more) ∷ rest

pub join_changed : (out text : List ℕ) (ps : List Piece) → Joins out text ps (join (changed out text) ps)
join_changed o t [] = record { more = []; rest = []; first = ap (λ x. changed o x ∷ []) (sym (append-nil t)) }
join_changed o t (kept b ∷ ps) = record { more = []; rest = kept b ∷ ps; first = ap (λ x. changed o x ∷ kept b ∷ ps) (sym (append-nil t)) }
join_changed o t (changed u v ∷ ps) = record { more = []; rest = changed u v ∷ ps; first = ap (λ x. changed o x ∷ changed u v ∷ ps) (sym (append-nil t)) }
join_changed o t (also m ∷ ps) = record { more = m; rest = ps; first = refl }
