-- Pieces of quoted texts stay before parts.
use Rattle.std.proofs.Common.{◌≡◌, ℕ, suc, ◌+◌, Bool, true, false, not, ◌&&◌, ◌||◌, List, [], ◌∷◌, ◌++◌, length, refl, sym, ap, ◌∙◌, arith}
use Rattle.std.proofs.lemmas.Bool.{and_parts}
use Rattle.php_tree.specs.declared.version.Version.{Version}
use Rattle.php_spellings.specs.declared.table.Kind.{Kind}
use Rattle.php_spellings.specs.declared.table.Kind.TheVariants.{Piece}
use Rattle.php_spellings.specs.declared.table.Mark.{Mark}
use Rattle.php_spellings.specs.declared.table.Mark.TheVariants.{Double, Back, Here}
use Rattle.php_spellings.specs.declared.table.State.{State}
use Rattle.php_spellings.specs.declared.table.State.TheVariants.{First, Plain, Escaped}
use Rattle.php_spellings.specs.declared.table.Run.TheVariants.{Body}
use Rattle.php_spellings.specs.Bytes.{is_empty}
use Rattle.php_lexer.specs.Heredocs.{ends_heredoc}
use Rattle.php_lexer.specs.Tails.{begins_part, in_piece, goes, moved, is_run}
use Rattle.php_lexer.specs.RulesQuoted.{from_line}
use Rattle.php_lexer.specs.Modes.{quoted, IsLongest}
use Rattle.php_relexing.proofs.Picked.{longest_meets}
use Rattle.php_relexing.proofs.PieceRuns.{piece_len, piece_scan}
use Rattle.php_relexing.proofs.HeredocFronts.{Ends}
use Rattle.php_relexing.proofs.Scanned.{found, found_length, scan_of, longest_of}

-- the state behind bytes
abbrev pub state_behind : Mark → State → List ℕ → State
state_behind mark s [] = s
state_behind mark s (b ∷ bs) = state_behind mark (moved (Body mark) s b) bs

-- ---- runs over a text

run_over : (mark : Mark) (label : List ℕ) (s : State) (x u : List ℕ) → is_run (Body mark) label s x u ≡ true
    → piece_len mark label s (x ++ u) ≡ length x + piece_len mark label (state_behind mark s x) u
run_over mark label s [] u h = omega arith
run_over mark label s (b ∷ x) u h =
    let (here, more) = and_parts (goes (Body mark) label s b (x ++ u)) (is_run (Body mark) label (moved (Body mark) s b) x u) h in
    let ih = run_over mark label (moved (Body mark) s b) x u more in
    rw (here, ih) (omega arith)

-- ---- from the token to the run

abbrev is_piece_kind : Kind → Bool
is_piece_kind Piece = true
is_piece_kind _ = false

or_none : (x : Bool) → (x || false) ≡ true → x ≡ true
or_none true h = refl
or_none false h = absurd cc

-- A text is a piece before these bytes, and they go on with none.
pub record IsPiece (mark : Mark) (label : List ℕ) (s : State) (a r : List ℕ) : Type 0 where
  pub run : is_run (Body mark) label s a r ≡ true
  pub stops : piece_len mark label (state_behind mark s a) r ≡ 0

some_by : (mark : Mark) (label : List ℕ) (s : State) (a r : List ℕ) → (not (is_empty a) && is_run (Body mark) label s a r || false) ≡ true → (b : ℕ) × (x : List ℕ) × (a ≡ b ∷ x)
some_by mark label s [] r h = absurd cc
some_by mark label s (b ∷ x) r h = (b, x, refl)

piece_meets : (v : Version) (mark : Mark) (label : List ℕ) (fresh : Bool) (a r : List ℕ)
    → IsLongest v (quoted mark label fresh) (a ++ r) Piece (length a)
    → (not (is_empty a) && is_run (Body mark) label (from_line fresh) a r || false) ≡ true
piece_meets v Double label true a r h = longest_meets is_piece_kind v (quoted Double label true) a r Piece refl h
piece_meets v Double label false a r h = longest_meets is_piece_kind v (quoted Double label false) a r Piece refl h
piece_meets v Back label true a r h = longest_meets is_piece_kind v (quoted Back label true) a r Piece refl h
piece_meets v Back label false a r h = longest_meets is_piece_kind v (quoted Back label false) a r Piece refl h
piece_meets v Here label true a r h = longest_meets is_piece_kind v (quoted Here label true) a r Piece refl h
piece_meets v Here label false a r h = longest_meets is_piece_kind v (quoted Here label false) a r Piece refl h

zero_left : (n m : ℕ) → n + m ≡ n → m ≡ 0
zero_left n m e = omega arith

piece_by : (v : Version) (mark : Mark) (label : List ℕ) (fresh : Bool) (b : ℕ) (x r : List ℕ)
    → is_run (Body mark) label (from_line fresh) (b ∷ x) r ≡ true
    → IsLongest v (quoted mark label fresh) (b ∷ x ++ r) Piece (suc (length x))
    → IsPiece mark label (from_line fresh) (b ∷ x) r
piece_by v mark label fresh b x r run h =
    let (here, more) = and_parts (goes (Body mark) label (from_line fresh) b (x ++ r)) (is_run (Body mark) label (moved (Body mark) (from_line fresh) b) x r) run in
    let size = found_length Piece Piece (piece_len mark label (from_line fresh) (b ∷ x ++ r)) (suc (length x))
    (sym (piece_scan v mark label fresh b (x ++ r) here)
    ∙ scan_of v (quoted mark label fresh) (b ∷ x ++ r) Piece (suc (length x)) h) in
    record {
      run = run;
      stops = zero_left (suc (length x)) (piece_len mark label (state_behind mark (from_line fresh) (b ∷ x)) r) (sym (run_over mark label (from_line fresh) (b ∷ x) r run) ∙ size);
    }

pub piece_of : (v : Version) (mark : Mark) (label : List ℕ) (fresh : Bool) (a r : List ℕ)
    → IsLongest v (quoted mark label fresh) (a ++ r) Piece (length a) → IsPiece mark label (from_line fresh) a r
piece_of v mark label fresh [] r h = absurd (let e = piece_meets v mark label fresh [] r h in cc)
piece_of v mark label fresh (b ∷ x) r h = piece_by v mark label fresh b x r (or_none _ (piece_meets v mark label fresh (b ∷ x) r h)) h

piece_is_by : (w : Version) (mark : Mark) (label : List ℕ) (fresh : Bool) (b : ℕ) (x s : List ℕ)
    → IsPiece mark label (from_line fresh) (b ∷ x) s → IsLongest w (quoted mark label fresh) (b ∷ x ++ s) Piece
    (suc (length x))
piece_is_by w mark label fresh b x s is =
    let (here, more) = and_parts (goes (Body mark) label (from_line fresh) b (x ++ s)) (is_run (Body mark) label (moved (Body mark) (from_line fresh) b) x s) is.run in
    let size : piece_len mark label (from_line fresh) (b ∷ x ++ s) ≡ suc (length x) = run_over mark label (from_line fresh) (b ∷ x) s is.run ∙ rw is.stops (omega arith) in
    longest_of w (quoted mark label fresh) (b ∷ x ++ s) Piece (suc (length x)) (piece_scan w mark label fresh b (x ++ s) here ∙ ap (found Piece) size)

pub piece_is : (w : Version) (mark : Mark) (label : List ℕ) (fresh : Bool) (a s : List ℕ) → is_empty a ≡ false
    → IsPiece mark label (from_line fresh) a s → IsLongest w (quoted mark label fresh) (a ++ s) Piece (length a)
piece_is w mark label fresh [] s e is = absurd cc
piece_is w mark label fresh (b ∷ x) s e is = piece_is_by w mark label fresh b x s is

pub piece_some : (v : Version) (mark : Mark) (label : List ℕ) (fresh : Bool) (a r : List ℕ) → IsLongest v (quoted mark label fresh) (a ++ r) Piece (length a) → is_empty a ≡ false
piece_some v mark label fresh [] r h = absurd (let e = piece_meets v mark label fresh [] r h in cc)
piece_some v mark label fresh (b ∷ x) r h = refl

-- ---- over other bytes

-- In a heredoc a line ends it as well before the other bytes.
abbrev pub SameEnds : Mark → List ℕ → List ℕ → List ℕ → List ℕ → Type 0
SameEnds Double label u v y = Unit {0}
SameEnds Back label u v y = Unit {0}
SameEnds Here label u v y = ends_heredoc label (y ++ u) ≡ ends_heredoc label (y ++ v)

inner_same : (mark : Mark) (label : List ℕ) (s : State) (b c : ℕ) (x u v : List ℕ)
    → SameEnds mark label u v (b ∷ c ∷ x) → in_piece mark label s b (c ∷ x ++ u) ≡ in_piece mark label s b
    (c ∷ x ++ v)
inner_same Double label First b c x u v e = refl
inner_same Double label Plain b c x u v e = refl
inner_same Double label Escaped b c x u v e = refl
inner_same Back label First b c x u v e = refl
inner_same Back label Plain b c x u v e = refl
inner_same Back label Escaped b c x u v e = refl
inner_same Here label First b c x u v e = ap (λ (t : Bool). not t && not (begins_part b (c ∷ x ++ u))) e
inner_same Here label Plain b c x u v e = refl
inner_same Here label Escaped b c x u v e = refl

-- The last byte is of a piece before the other bytes too.
abbrev pub LastFits : Mark → List ℕ → State → List ℕ → List ℕ → List ℕ → Type 0
LastFits mark label s [] u v = Unit {0}
LastFits mark label s (b ∷ []) u v = in_piece mark label s b u ≡ true → in_piece mark label s b v ≡ true
LastFits mark label s (b ∷ c ∷ x) u v = LastFits mark label (moved (Body mark) s b) (c ∷ x) u v

pub over : (mark : Mark) (label : List ℕ) (s : State) (x u v : List ℕ) → Ends (SameEnds mark label u v) x
    → LastFits mark label s x u v → is_run (Body mark) label s x u ≡ true → is_run (Body mark) label s x v ≡ true
over mark label s [] u v ends fits h = refl
over mark label s (b ∷ []) u v ends fits h =
    let (here, more) = and_parts (in_piece mark label s b u) true h in
    rw (fits here) refl
over mark label s (b ∷ c ∷ x) u v ends fits h =
    let (here, more) = and_parts (in_piece mark label s b (c ∷ x ++ u)) (is_run (Body mark) label (moved (Body mark) s b) (c ∷ x) u) h in
    let there : in_piece mark label s b (c ∷ x ++ v) ≡ true = sym (inner_same mark label s b c x u v ends.0) ∙ here in
    rw (there, over mark label (moved (Body mark) s b) (c ∷ x) u v ends.1 fits more) refl
