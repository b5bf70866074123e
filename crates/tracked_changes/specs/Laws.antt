-- The source, the edits and the rewritten tree of a draft agree.
use Rattle.std.specs.Prelude.{◌≡◌, ℕ, ◌+◌, ◌<◌, ◌≤◌, true, false, List, [], ◌∷◌, ◌++◌, length, All}
use Rattle.span_edits.specs.declared.edit.Edit.{Edit}
use Rattle.span_edits.specs.declared.span.Span.{Span}
use Rattle.span_edits.specs.Crosses.{Crosses, FirstCrossed}
use Rattle.span_edits.specs.EditList.{AreApart, with_edit}
use Rattle.span_edits.specs.Splice.{spliced, is_replaced}
use Rattle.php_tree.specs.Tree.{File, file_leaves, file_printed}
use Rattle.php_tree.specs.Places.{ArePlaced, placed_file}
use Rattle.tracked_changes.specs.Pieces.{Piece, kept, changed, also, before}
use Rattle.tracked_changes.specs.Draft.{FileDraft, file_pieces, source, rewritten_file, unchanged_file}
use Rattle.tracked_changes.specs.Edits.{joined, edits_from, edits}

-- The source's bytes with the edits made are the rewritten file, printed.
abbrev pub SplicedIsRewritten : Type 0
SplicedIsRewritten = (d : FileDraft) → spliced (source d) (edits d) ≡ file_printed (rewritten_file d)

-- The edits stand in order within the source, each beginning where the one before it ends, or later.
abbrev pub EditsAreApart : Type 0
EditsAreApart = (d : FileDraft) → AreApart 0 (edits d) (length (source d))

-- An edit is taken behind others, in a source of so many bytes: it ends within the source, crosses none of them, so that
-- none is the first that it crosses, and its place among them is the last.
pub record ComesNext (len : ℕ) (front : List Edit) (e : Edit) : Type 0 where
  pub within : e.span.end ≤ len
  pub apart : All (λ f. ¬ Crosses e.span f.span) front
  pub free : (stored : Span) → ¬ FirstCrossed e.span front stored
  pub last : with_edit e front ≡ front ++ e ∷ []

-- Added one after another, each edit is taken behind those before it.
abbrev pub EachComesNext : Type 0
EachComesNext = (d : FileDraft) (front : List Edit) (e : Edit) (back : List Edit)
    → edits d ≡ front ++ e ∷ back → ComesNext (length (source d)) front e

-- Pieces begin anew where no text goes on with an edit before them.
abbrev pub BeginAnew : List Piece → Type 0
BeginAnew [] = Unit {0}
BeginAnew (kept bytes ∷ ps) = Unit {0}
BeginAnew (changed out text ∷ ps) = Unit {0}
BeginAnew (also text ∷ ps) = ⊥

-- The edits of pieces, and then those of others that begin anew behind them.
abbrev pub EditsCompose : Type 0
EditsCompose = (at : ℕ) (ps qs : List Piece) → BeginAnew qs
    → edits_from at (joined (ps ++ qs))
    ≡ edits_from at (joined ps) ++ edits_from (at + length (before ps)) (joined qs)

-- A place lies in a piece that stands behind others.
abbrev pub LiesIn : ℕ → List Piece → List ℕ → Type 0
LiesIn place front bytes =
    (length (before front) ≤ place) × (place < length (before front) + length bytes)

-- No edit replaces a byte that is kept.
abbrev pub KeptBytesStay : Type 0
KeptBytesStay = (d : FileDraft) (front : List Piece) (bytes : List ℕ) (back : List Piece) (place : ℕ)
    → file_pieces d ≡ front ++ kept bytes ∷ back → LiesIn place front bytes
    → is_replaced place (edits d) ≡ false

-- Some edit replaces each byte that is taken out.
abbrev pub TakenBytesGo : Type 0
TakenBytesGo = (d : FileDraft) (front : List Piece) (out text : List ℕ) (back : List Piece) (place : ℕ)
    → file_pieces d ≡ front ++ changed out text ∷ back → LiesIn place front out
    → is_replaced place (edits d) ≡ true

-- A file as it stands has no edit; its source and its rewritten tree are the file.
pub record IsUnchanged (f : File) (d : FileDraft) : Type 0 where
  pub no_edits : edits d ≡ []
  pub bytes : source d ≡ file_printed f
  pub placed : rewritten_file d ≡ placed_file f
  pub same : ArePlaced 0 (file_leaves f) → rewritten_file d ≡ f

abbrev pub UnchangedIsTheFile : Type 0
UnchangedIsTheFile = (f : File) → IsUnchanged f (unchanged_file f)
