-- Trees as they stand.
use Rattle.std.proofs.Common.{◌≡◌, ℕ, ◌+◌, List, [], ◌∷◌, ◌++◌, length, refl, ap, sym, ◌∙◌, subst, append-nil}
use Rattle.php_tree.specs.declared.token.Token.{Token}
use Rattle.php_tree.specs.Tree.{Forest, none, leaf, node, File, leaves, printed, token_bytes, file_leaves}
use Rattle.php_tree.specs.Places.{ArePlaced, behind, end_of, token_at, placed, placed_file}
use Rattle.php_tree.proofs.Placed.{ends_at, ends-append, placed-front, placed-back}
use Rattle.tracked_changes.specs.Pieces.{Piece, kept, changed, also, before}
use Rattle.tracked_changes.specs.Draft.{token_pieces, pieces, file_pieces, rewritten_token, rewritten, rewritten_file, unchanged_token, unchanged, unchanged_file}
use Rattle.tracked_changes.specs.Edits.{joined, edits_from}
use Rattle.tracked_changes.specs.Laws.{UnchangedIsTheFile}
use Rattle.tracked_changes.proofs.Joining.{before-append}

-- ---- no edit

abbrev pub OnlyKept : List Piece → Type 0
OnlyKept [] = Unit {0}
OnlyKept (kept b ∷ ps) = OnlyKept ps
OnlyKept (changed o t ∷ ps) = ⊥
OnlyKept (also t ∷ ps) = ⊥

pub kept_append : (ps qs : List Piece) → OnlyKept ps → OnlyKept qs → OnlyKept (ps ++ qs)
kept_append [] qs h k = k
kept_append (kept b ∷ ps) qs h k = kept_append ps qs h k
kept_append (changed o t ∷ ps) qs h k = absurd h
kept_append (also t ∷ ps) qs h k = absurd h

pub joined_kept : (ps : List Piece) → OnlyKept ps → joined ps ≡ ps
joined_kept [] h = refl
joined_kept (kept b ∷ ps) h = ap (λ qs. kept b ∷ qs) (joined_kept ps h)
joined_kept (changed o t ∷ ps) h = absurd h
joined_kept (also t ∷ ps) h = absurd h

pub no_edits : (at : ℕ) (ps : List Piece) → OnlyKept ps → edits_from at ps ≡ []
no_edits at [] h = refl
no_edits at (kept b ∷ ps) h = no_edits (at + length b) ps h
no_edits at (changed o t ∷ ps) h = absurd h
no_edits at (also t ∷ ps) h = absurd h

pub unchanged_kept : (f : Forest) → OnlyKept (pieces (unchanged f))
unchanged_kept none = tt
unchanged_kept (leaf t f) = unchanged_kept f
unchanged_kept (node k c f) = kept_append (pieces (unchanged c)) (pieces (unchanged f)) (unchanged_kept c) (unchanged_kept f)

-- ---- the same bytes

pub before_token : (t : Token) → before (token_pieces (unchanged_token t)) ≡ token_bytes t
before_token t = ap (λ x. t.lead ++ x) (append-nil t.text)

pub before-unchanged : (f : Forest) → before (pieces (unchanged f)) ≡ printed f
before-unchanged none = refl
before-unchanged (leaf t f) =
    before-append (token_pieces (unchanged_token t)) (pieces (unchanged f)) ∙ rw (before_token t, before-unchanged f) refl
before-unchanged (node k c f) =
    before-append (pieces (unchanged c)) (pieces (unchanged f)) ∙ rw (before-unchanged c, before-unchanged f) refl

-- ---- the same tree

-- a token, and a forest, without places
abbrev pub unplaced_token : Token → Token
unplaced_token t = record t { start = 0 }

abbrev pub unplaced : Forest → Forest
unplaced none = none
unplaced (leaf t f) = leaf (unplaced_token t) (unplaced f)
unplaced (node k c f) = node k (unplaced c) (unplaced f)

pub token_as_it_stands : (t : Token) → rewritten_token (unchanged_token t) ≡ unplaced_token t
token_as_it_stands t = rw (append-nil t.lead, append-nil t.text) refl

pub as_it_stands : (f : Forest) → rewritten (unchanged f) ≡ unplaced f
as_it_stands none = refl
as_it_stands (leaf t f) = rw (token_as_it_stands t, as_it_stands f) refl
as_it_stands (node k c f) = rw (as_it_stands c, as_it_stands f) refl

pub end_of-unplaced : (at : ℕ) (f : Forest) → end_of at (unplaced f) ≡ end_of at f
end_of-unplaced at none = refl
end_of-unplaced at (leaf t f) = end_of-unplaced (behind at t) f
end_of-unplaced at (node k c f) = ap (λ x. end_of x (unplaced f)) (end_of-unplaced at c) ∙ end_of-unplaced (end_of at c) f

pub placed-unplaced : (at : ℕ) (f : Forest) → placed at (unplaced f) ≡ placed at f
placed-unplaced at none = refl
placed-unplaced at (leaf t f) = ap (λ x. leaf (token_at at t) x) (placed-unplaced (behind at t) f)
placed-unplaced at (node k c f) =
    ap (λ x. node k x (placed (end_of at (unplaced c)) (unplaced f))) (placed-unplaced at c)
    ∙ ap (λ x. node k (placed at c) (placed x (unplaced f))) (end_of-unplaced at c)
    ∙ ap (λ x. node k (placed at c) x) (placed-unplaced (end_of at c) f)

pub same_placed : (f : File) → rewritten_file (unchanged_file f) ≡ placed_file f
same_placed f =
    rw (as_it_stands f.statements, append-nil f.end.lead, append-nil f.end.text, placed-unplaced 0 f.statements, end_of-unplaced 0 f.statements) refl

-- ---- tokens that stand in their places already

pub ends-leaves : (at : ℕ) (f : Forest) → ends_at at (leaves f) ≡ end_of at f
ends-leaves at none = refl
ends-leaves at (leaf t f) = ends-leaves (behind at t) f
ends-leaves at (node k c f) = ends-append at (leaves c) (leaves f) ∙ rw (ends-leaves at c) (ends-leaves (end_of at c) f)

in_place : (at : ℕ) (t : Token) → t.start ≡ at + length t.lead → token_at at t ≡ t
in_place at t h = ap (λ (x : ℕ). record t { start = x }) (sym h)

placed_same : (at : ℕ) (f : Forest) → ArePlaced at (leaves f) → placed at f ≡ f
placed_same at none h = refl
placed_same at (leaf t f) h = rw (in_place at t h.0, placed_same (behind at t) f h.1) refl
placed_same at (node k c f) h =
    let front : ArePlaced at (leaves c) = placed-front at (leaves c) (leaves f) h in
    let back : ArePlaced (end_of at c) (leaves f) = subst (λ x. ArePlaced x (leaves f)) (ends-leaves at c) (placed-back at (leaves c) (leaves f) h) in
    rw (placed_same at c front, placed_same (end_of at c) f back) refl

placed_file_same : (f : File) → ArePlaced 0 (file_leaves f) → placed_file f ≡ f
placed_file_same f h =
    let front : ArePlaced 0 (leaves f.statements) = placed-front 0 (leaves f.statements) (f.end ∷ []) h in
    let back : ArePlaced (end_of 0 f.statements) (f.end ∷ []) =
    subst (λ x. ArePlaced x (f.end ∷ [])) (ends-leaves 0 f.statements)
    (placed-back 0 (leaves f.statements) (f.end ∷ []) h) in
    rw (placed_same 0 f.statements front, in_place (end_of 0 f.statements) f.end back.0) refl

-- ---- the law

pub unchanged_is_the_file : UnchangedIsTheFile
unchanged_is_the_file f =
    let all_kept : OnlyKept (file_pieces (unchanged_file f)) =
    kept_append (pieces (unchanged f.statements)) (token_pieces (unchanged_token f.end))
    (unchanged_kept f.statements) tt in
    record {
      no_edits = ap (edits_from 0) (joined_kept (file_pieces (unchanged_file f)) all_kept) ∙ no_edits 0 (file_pieces (unchanged_file f)) all_kept;
      bytes = before-append (pieces (unchanged f.statements)) (token_pieces (unchanged_token f.end)) ∙ rw (before-unchanged f.statements, before_token f.end) refl;
      placed = same_placed f;
      same = λ h. same_placed f ∙ placed_file_same f h;
    }
