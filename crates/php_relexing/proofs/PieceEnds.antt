-- Pieces of quoted texts stay before the closing byte, and with a backslash before their last `$`.
use Rattle.std.proofs.Common.{◌≡◌, ℕ, Bool, true, false, not, ◌&&◌, nat_eq, List, [], ◌∷◌, ◌++◌, length, refl, sym, ap, ◌∙◌, subst, append_assoc}
use Rattle.std.proofs.lemmas.Bool.{and_parts, eqb-true, not-true}
use Rattle.php_spellings.specs.declared.table.Kind.TheVariants.{Piece}
use Rattle.php_spellings.specs.declared.table.Mark.{Mark}
use Rattle.php_spellings.specs.declared.table.Mark.TheVariants.{Double, Back, Here}
use Rattle.php_spellings.specs.declared.table.State.{State}
use Rattle.php_spellings.specs.declared.table.State.TheVariants.{First, Plain, Escaped}
use Rattle.php_spellings.specs.declared.table.Run.TheVariants.{Body}
use Rattle.php_spellings.specs.Bytes.{is_letter, is_label_byte, is_empty}
use Rattle.php_lexer.specs.Heredocs.{ends_heredoc}
use Rattle.php_lexer.specs.Tails.{begins_part, in_piece, moved, is_run}
use Rattle.php_lexer.specs.RulesQuoted.{from_line}
use Rattle.php_lexer.specs.Modes.{quoted, IsLongest}
use Rattle.php_relexing.specs.Labels.{all_label, is_label}
use Rattle.php_relexing.specs.Pieces.{part_begins, ends_dollar, escape_last, is_labelled, is_heredoc, closing, EscapedPiecesStay, PiecesStayBeforeEnds}
use Rattle.php_relexing.proofs.Bools.{and_false}
use Rattle.php_relexing.proofs.PieceRuns.{piece_len}
use Rattle.php_relexing.proofs.HeredocFronts.{each_end, ends_same, dollar_stops, backslash_stops, stopper_ends}
use Rattle.php_relexing.proofs.Pieces.{state_behind, IsPiece, piece_of, piece_is, piece_some, SameEnds, LastFits, over}
use Rattle.php_relexing.proofs.PieceLaws.{is_escaped, moved_escaped, line_state, in_by, label_ok, not_escaped, part_stops}

-- ---- before the closing byte

-- no part goes over a closing byte
closing_fits : (mark : Mark) (b : ℕ) (u v : List ℕ) → begins_part b (closing mark ∷ u) ≡ false → begins_part b (closing mark ∷ v) ≡ false
closing_fits Double b u v h = h
closing_fits Back b u v h = h
closing_fits Here b u v h = h

no_ends : (mark : Mark) (label u v : List ℕ) → is_heredoc mark ≡ false → (y : List ℕ) → SameEnds mark label u v y
no_ends Double label u v h y = tt
no_ends Back label u v h y = tt
no_ends Here label u v h y = absurd cc

last_closing : (mark : Mark) (label : List ℕ) (s : State) (x u v : List ℕ)
    → ((y : List ℕ) → SameEnds mark label (closing mark ∷ u) (closing mark ∷ v) y)
    → LastFits mark label s x (closing mark ∷ u) (closing mark ∷ v)
last_closing mark label s [] u v ends = tt
last_closing mark label s (b ∷ []) u v ends = in_by mark label s b (closing mark ∷ u) (closing mark ∷ v) (ends (b ∷ [])) (λ e l. closing_fits mark b u v l)
last_closing mark label s (b ∷ c ∷ x) u v ends = last_closing mark label (moved (Body mark) s b) (c ∷ x) u v ends

closing_stops : (mark : Mark) (label : List ℕ) (s : State) (v : List ℕ) → is_heredoc mark ≡ false → is_escaped s ≡ false → piece_len mark label s (closing mark ∷ v) ≡ 0
closing_stops Double label First v h e = refl
closing_stops Double label Plain v h e = refl
closing_stops Double label Escaped v h e = absurd cc
closing_stops Back label First v h e = refl
closing_stops Back label Plain v h e = refl
closing_stops Back label Escaped v h e = absurd cc
closing_stops Here label s v h e = absurd cc

pub pieces_stay_before_ends : PiecesStayBeforeEnds
pieces_stay_before_ends v w mark label fresh a r s other h =
    let is = piece_of v mark label fresh a (closing mark ∷ r) h in
    let ends = no_ends mark label (closing mark ∷ r) (closing mark ∷ s) other in
    let open_ = not_escaped mark label (state_behind mark (from_line fresh) a) (closing mark) r is.stops in
    piece_is w mark label fresh a (closing mark ∷ s) (piece_some v mark label fresh a (closing mark ∷ r) h) (record {
      run = over mark label (from_line fresh) a (closing mark ∷ r) (closing mark ∷ s)
          (each_end (SameEnds mark label (closing mark ∷ r) (closing mark ∷ s)) ends a)
          (last_closing mark label (from_line fresh) a r s ends) is.run;
      stops = closing_stops mark label (state_behind mark (from_line fresh) a) s other open_;
    })

-- ---- a backslash before the last `$`

-- the bytes before a last bare `$`, and the state behind them
pub record BareEnd (mark : Mark) (s : State) (a : List ℕ) : Type 0 where
  pub front : List ℕ
  pub same : a ≡ front ++ 36 ∷ []
  pub escaped : escape_last a ≡ front ++ 92 ∷ 36 ∷ []
  pub open_ : is_escaped (state_behind mark s front) ≡ false

bare_one : (mark : Mark) (s : State) (b : ℕ) → (not (is_escaped s) && nat_eq b 36) ≡ true → BareEnd mark s (b ∷ [])
bare_one mark s b h =
    let (out, dollar) = and_parts (not (is_escaped s)) (nat_eq b 36) h in
    let is : b ≡ 36 = eqb-true b 36 dollar in
    record { front = []; same = ap (λ (x : ℕ). x ∷ []) is; escaped = ap (λ (x : ℕ). 92 ∷ x ∷ []) is; open_ = not-true (is_escaped s) out }

bare_more : (mark : Mark) (s : State) (b c : ℕ) (x : List ℕ) → BareEnd mark (moved (Body mark) s b) (c ∷ x) → BareEnd mark s (b ∷ c ∷ x)
bare_more mark s b c x is = record { front = b ∷ is.front; same = ap (λ (u : List ℕ). b ∷ u) is.same; escaped = ap (λ (u : List ℕ). b ∷ u) is.escaped; open_ = is.open_ }

bare_end : (mark : Mark) (s : State) (a : List ℕ) → ends_dollar (is_escaped s) a ≡ true → BareEnd mark s a
bare_end mark s [] h = absurd cc
bare_end mark s (b ∷ []) h = bare_one mark s b h
bare_end mark s (b ∷ c ∷ x) h =
    bare_more mark s b c x (bare_end mark (moved (Body mark) s b) (c ∷ x)
    (subst (λ (t : Bool). ends_dollar t (c ∷ x) ≡ true) (sym (moved_escaped mark s b)) h))

-- runs over two texts
run_front : (mark : Mark) (label : List ℕ) (s : State) (x y r : List ℕ) → is_run (Body mark) label s (x ++ y) r ≡ true → is_run (Body mark) label s x (y ++ r) ≡ true
run_front mark label s [] y r h = refl
run_front mark label s (b ∷ x) y r h =
    let (here, more) = and_parts (in_piece mark label s b ((x ++ y) ++ r)) (is_run (Body mark) label (moved (Body mark) s b) (x ++ y) r) h in
    rw (sym (append_assoc x y r), here, run_front mark label (moved (Body mark) s b) x y r more) refl

run_join : (mark : Mark) (label : List ℕ) (s : State) (x y r : List ℕ) → is_run (Body mark) label s x (y ++ r) ≡ true
    → is_run (Body mark) label (state_behind mark s x) y r ≡ true → is_run (Body mark) label s (x ++ y) r ≡ true
run_join mark label s [] y r h k = k
run_join mark label s (b ∷ x) y r h k =
    let (here, more) = and_parts (in_piece mark label s b (x ++ (y ++ r))) (is_run (Body mark) label (moved (Body mark) s b) x (y ++ r)) h in
    rw (append_assoc x y r, here, run_join mark label (moved (Body mark) s b) x y r more k) refl

behind_join : (mark : Mark) (s : State) (x y : List ℕ) → state_behind mark s (x ++ y) ≡ state_behind mark (state_behind mark s x) y
behind_join mark s [] y = refl
behind_join mark s (b ∷ x) y = behind_join mark (moved (Body mark) s b) x y

slash_ends_by : (mark : Mark) (label u v : List ℕ) → is_labelled mark label ≡ true → (y : List ℕ) → SameEnds mark label (36 ∷ u) (92 ∷ v) y
slash_ends_by Double label u v h y = tt
slash_ends_by Back label u v h y = tt
slash_ends_by Here label u v h y = ends_same 36 92 u v dollar_stops backslash_stops label (label_ok label h) y

slash_fits : (b : ℕ) (v : List ℕ) → begins_part b (92 ∷ v) ≡ false
slash_fits b v = rw (and_false (nat_eq b 36), and_false (nat_eq b 123)) refl

last_slash : (mark : Mark) (label : List ℕ) (s : State) (x u v : List ℕ) → ((y : List ℕ) → SameEnds mark label (36 ∷ u) (92 ∷ v) y) → LastFits mark label s x (36 ∷ u) (92 ∷ v)
last_slash mark label s [] u v ends = tt
last_slash mark label s (b ∷ []) u v ends = in_by mark label s b (36 ∷ u) (92 ∷ v) (ends (b ∷ [])) (λ e l. slash_fits b v)
last_slash mark label s (b ∷ c ∷ x) u v ends = last_slash mark label (moved (Body mark) s b) (c ∷ x) u v ends

no_heredoc : (label : List ℕ) (v : List ℕ) → is_label label ≡ true → ends_heredoc label (92 ∷ v) ≡ false
no_heredoc [] v h = absurd cc
no_heredoc (l ∷ label) v h =
    let (letter, more) = and_parts (is_letter l) (all_label label) h in
    let byte : is_label_byte l ≡ true = rw letter refl in
    stopper_ends label l 92 v byte backslash_stops

-- `\` and `$` are of a piece, and no byte behind them is escaped
slash_run : (mark : Mark) (label : List ℕ) (s : State) (r : List ℕ) → is_labelled mark label ≡ true
    → is_escaped s ≡ false → (is_run (Body mark) label s (92 ∷ 36 ∷ []) r ≡ true)
    × (is_escaped (state_behind mark s (92 ∷ 36 ∷ [])) ≡ false)
slash_run Double label First r h e = (refl, refl)
slash_run Double label Plain r h e = (refl, refl)
slash_run Double label Escaped r h e = absurd cc
slash_run Back label First r h e = (refl, refl)
slash_run Back label Plain r h e = (refl, refl)
slash_run Back label Escaped r h e = absurd cc
slash_run Here label First r h e = (rw (no_heredoc label (36 ∷ r) h) refl, refl)
slash_run Here label Plain r h e = (refl, refl)
slash_run Here label Escaped r h e = absurd cc

filled : (x : List ℕ) (b : ℕ) (y : List ℕ) → is_empty (x ++ b ∷ y) ≡ false
filled [] b y = refl
filled (c ∷ x) b y = refl

escaped_piece : (mark : Mark) (label : List ℕ) (s : State) (a r w : List ℕ) → is_labelled mark label ≡ true
    → part_begins w ≡ true → (is : BareEnd mark s a) → is_run (Body mark) label s a r ≡ true
    → IsPiece mark label s (is.front ++ 92 ∷ 36 ∷ []) w
escaped_piece mark label s a r w labelled new is run =
    let split : is_run (Body mark) label s (is.front ++ 36 ∷ []) r ≡ true = subst (λ (t : List ℕ). is_run (Body mark) label s t r ≡ true) is.same run in
    let front : is_run (Body mark) label s is.front (36 ∷ r) ≡ true = run_front mark label s is.front (36 ∷ []) r split in
    let ends = slash_ends_by mark label r (36 ∷ w) labelled in
    let there = over mark label s is.front (36 ∷ r) (92 ∷ 36 ∷ w)
    (each_end (SameEnds mark label (36 ∷ r) (92 ∷ 36 ∷ w)) ends is.front)
    (last_slash mark label s is.front r (36 ∷ w) ends) front in
    let two = slash_run mark label (state_behind mark s is.front) w labelled is.open_ in
    record {
      run = run_join mark label s is.front (92 ∷ 36 ∷ []) w there two.0;
      stops = part_stops mark label (state_behind mark s (is.front ++ 92 ∷ 36 ∷ [])) w (ap is_escaped (behind_join mark s is.front (92 ∷ 36 ∷ [])) ∙ two.1) new;
    }

pub escaped_pieces_stay : EscapedPiecesStay
escaped_pieces_stay v w mark label fresh a r s labelled new dollar h =
    let is = piece_of v mark label fresh a r h in
    let bare = bare_end mark (from_line fresh) a (subst (λ (t : Bool). ends_dollar t a ≡ true) (sym (line_state fresh)) dollar) in
    let piece = escaped_piece mark label (from_line fresh) a r s labelled new bare is.run in
    subst (λ (t : List ℕ). IsLongest w (quoted mark label fresh) (t ++ s) Piece (length t)) (sym bare.escaped)
    (piece_is w mark label fresh (bare.front ++ 92 ∷ 36 ∷ []) s (filled bare.front 92 (36 ∷ [])) piece)
