-- Cases of a `switch`, one after another.
use Rattle.std.proofs.Common.{◌≡◌, ℕ, Bool, true, false, if◌then◌else◌, List, [], ◌∷◌, ◌++◌, reverse, Option, Some, None, refl, sym, ap, ◌∙◌, append_assoc, append-nil}
use Rattle.std.proofs.lemmas.List.{reverse-append}
use Rattle.php_tree.specs.declared.kind.NodeKind.{NodeKind}
use Rattle.php_rows.specs.declared.parts.Parts.{Parts}
use Rattle.php_rows.specs.Reading.{forest_in}
use Rattle.program_points.specs.declared.case.Case.{Case}
use Rattle.program_points.specs.declared.case.Entry.{Entry}
use Rattle.program_points.specs.declared.point.Point.{Point}
use Rattle.program_points.specs.declared.point.Point.TheVariants.{Before, After}
use Rattle.program_points.specs.declared.piece.Piece.{Piece}
use Rattle.program_points.specs.declared.piece.Piece.TheVariants as piece
use Rattle.program_points.specs.Pieces.{Pieces, end, stmts, pieces, is_case}
use Rattle.program_points.specs.Rows.{Edge, edge, case_of, cases, all_statements, before_or, start_of, entries, tests, untested, first_default}
use Rattle.program_points.specs.Chosen.{default_behind, piece_to}

-- a piece, and then others
pub cases_piece : (x : Piece) (ps : Pieces) → cases (piece_to x ps) ≡ cases (piece_to x end) ++ cases ps
cases_piece (piece.Word t) ps = refl
cases_piece (piece.Expr n) ps = refl
cases_piece (piece.Stmt n) ps = refl
cases_piece (piece.Other k n inner) ps = by_kind (case_of (pieces inner.number (forest_in inner))) (is_case k)
  where
    by_kind : (c : Case) (b : Bool) → (if b then c ∷ cases ps else cases ps) ≡ (if b then c ∷ [] else []) ++ cases ps
    by_kind c true = refl
    by_kind c false = refl

pub statements_piece : (x : Piece) (ps : Pieces) → all_statements (piece_to x ps) ≡ all_statements (piece_to x end) ++ all_statements ps
statements_piece (piece.Word t) ps = refl
statements_piece (piece.Expr n) ps = refl
statements_piece (piece.Stmt n) ps = refl
statements_piece (piece.Other k n inner) ps = by_kind (stmts (pieces inner.number (forest_in inner))) (is_case k)
  where
    by_kind : (ss : List ℕ) (b : Bool) → (if b then ss ++ all_statements ps else all_statements ps) ≡ (if b then ss ++ [] else []) ++ all_statements ps
    by_kind ss true = ap (λ xs. xs ++ all_statements ps) (sym (append-nil ss))
    by_kind ss false = refl

-- the statements of a case alone
pub statements_case : (k : NodeKind) (n : ℕ) (inner : Parts) → is_case k ≡ true →
    all_statements (piece_to (piece.Other k n inner) end) ≡ stmts (pieces inner.number (forest_in inner))
statements_case k n inner e =
    let ss = stmts (pieces inner.number (forest_in inner)) in
    ap (λ (b : Bool). if b then ss ++ [] else []) e ∙ append-nil ss

-- ---- where each goes on from its front

start_last : (cs : List Case) (c : Case) (to : Point) → start_of (cs ++ c ∷ []) to ≡ start_of cs (before_or c.first to)
start_last [] c to = refl
start_last (d ∷ cs) c to = ap (before_or d.first) (start_last cs c to)

entries_last : (cs : List Case) (c : Case) (to : Point) →
    entries (cs ++ c ∷ []) to ≡ entries cs (before_or c.first to) ++ record { value = c.value; start = before_or c.first to } ∷ []
entries_last [] c to = refl
entries_last (d ∷ cs) c to =
    ap (λ p. entry d p ∷ entries (cs ++ c ∷ []) to) (start_last cs c to)
    ∙ ap (λ es. entry d (start_of cs (before_or c.first to)) ∷ es) (entries_last cs c to)
  where
    entry : Case → Point → Entry
    entry d p = record { value = d.value; start = before_or d.first p }

reverse_push : (es : List Entry) (e : Entry) → reverse (es ++ e ∷ []) ≡ e ∷ reverse es
reverse_push es e = reverse-append es (e ∷ [])

-- the last case is done
pub entries_pop : (old new : List Case) (c : Case) (es more : List Entry) (at to : Point) (whole : List Entry) → old ≡ new ++ c ∷ [] → to ≡ before_or c.first at →
    more ≡ es ++ record { value = c.value; start = to } ∷ [] → entries old at ++ reverse es ≡ whole → entries new to ++ reverse more ≡ whole
entries_pop old new c es more at to whole a b d h =
    let here : Point → Entry = λ p. record { value = c.value; start = p } in
    ap (λ xs. entries new to ++ reverse xs) d
    ∙ ap (λ xs. entries new to ++ xs) (reverse_push es (here to))
    ∙ sym (append_assoc (entries new to) (here to ∷ []) (reverse es))
    ∙ ap (λ p. (entries new p ++ here p ∷ []) ++ reverse es) b
    ∙ ap (λ xs. xs ++ reverse es) (sym (entries_last new c at))
    ∙ ap (λ cs. entries cs at ++ reverse es) (sym a)
    ∙ h

-- ---- tests, one by one

tests_first : (n : ℕ) (from : Point) (e : Entry) (es : List Entry) → tests n from (e ∷ es) ≡ tests n from (e ∷ []) ++ tests n (untested from (e ∷ [])) es
tests_first n from e es = by_value e.value
  where
    some : ℕ → List Edge → List Edge
    some v more = edge n from (Before v) ++ edge n (After v) e.start ++ more

    by_value : (o : Option ℕ) →
        (elim o [ None ↦ tests n from es | Some v ↦ some v (tests n (After v) es) ])
        ≡ (elim o [ None ↦ [] | Some v ↦ some v [] ]) ++ tests n (elim o [ None ↦ from | Some v ↦ After v ]) es
    by_value None = refl
    by_value (Some v) = refl

untested_first : (from : Point) (e : Entry) (es : List Entry) → untested from (e ∷ es) ≡ untested (untested from (e ∷ [])) es
untested_first from e es = by_value e.value
  where
    by_value : (o : Option ℕ) → (elim o [ None ↦ untested from es | Some v ↦ untested (After v) es ]) ≡ untested (elim o [ None ↦ from | Some v ↦ After v ]) es
    by_value None = refl
    by_value (Some v) = refl

default_first : (d : Option Point) (e : Entry) (es : List Entry) → default_behind d (e ∷ es) ≡ default_behind (default_behind d (e ∷ [])) es
default_first (Some p) e es = refl
default_first None e es = by_value e.value
  where
    by_value : (o : Option ℕ) →
        (elim o [ None ↦ Some e.start | Some v ↦ first_default es ]) ≡ default_behind (elim o [ None ↦ Some e.start | Some v ↦ None ]) es
    by_value None = refl
    by_value (Some v) = refl

first_of : (old new : List Entry) (e : Entry) → old ≡ new ++ e ∷ [] → reverse old ≡ e ∷ reverse new
first_of old new e a = ap reverse a ∙ reverse_push new e

pub tests_pop : (n : ℕ) (from : Point) (old new : List Entry) (e : Entry) → old ≡ new ++ e ∷ [] →
    tests n from (reverse old) ≡ tests n from (e ∷ []) ++ tests n (untested from (e ∷ [])) (reverse new)
tests_pop n from old new e a = ap (tests n from) (first_of old new e a) ∙ tests_first n from e (reverse new)

pub untested_pop : (from : Point) (old new : List Entry) (e : Entry) → old ≡ new ++ e ∷ [] → untested from (reverse old) ≡ untested (untested from (e ∷ [])) (reverse new)
untested_pop from old new e a = ap (untested from) (first_of old new e a) ∙ untested_first from e (reverse new)

pub default_pop : (d : Option Point) (old new : List Entry) (e : Entry) → old ≡ new ++ e ∷ []
    → default_behind d (reverse old) ≡ default_behind (default_behind d (e ∷ [])) (reverse new)
default_pop d old new e a = ap (default_behind d) (first_of old new e a) ∙ default_first d e (reverse new)
