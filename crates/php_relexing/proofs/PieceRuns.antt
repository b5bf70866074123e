-- How far a piece of a quoted text goes.
use Rattle.std.proofs.Common.{◌≡◌, ℕ, ◌+◌, Bool, true, false, not, ◌&&◌, ◌||◌, nat_eq, List, [], ◌∷◌, length, drop, codes, Option, None, refl, sym, ap, ◌∙◌, subst, arith}
use Rattle.std.proofs.lemmas.Bool.{eqb-true, or_parts, not-true}
use Rattle.std.proofs.lemmas.Bool.Decides.{nat_tests}
use Rattle.php_tree.specs.declared.version.Version.{Version}
use Rattle.php_spellings.specs.declared.table.Kind.{Kind}
use Rattle.php_spellings.specs.declared.table.Kind.TheVariants.{Variable, Piece, CurlyOpen, DollarBrace}
use Rattle.php_spellings.specs.declared.table.Mark.{Mark}
use Rattle.php_spellings.specs.declared.table.Mark.TheVariants.{Double, Back, Here}
use Rattle.php_spellings.specs.declared.table.State.{State}
use Rattle.php_spellings.specs.declared.table.State.TheVariants.{First}
use Rattle.php_spellings.specs.declared.table.Run.TheVariants.{Body}
use Rattle.php_spellings.specs.Bytes.{is_letter, begins, begins_by, lower, starts, skip_blanks}
use Rattle.php_lexer.specs.Heredocs.{ends_heredoc, no_label}
use Rattle.php_lexer.specs.Tails.{begins_part, in_piece, moved}
use Rattle.php_spellings.specs.declared.table.Run.TheVariants.{Labels}
use Rattle.php_spellings.specs.declared.table.Follow.TheVariants.{Anything, Dollar}
use Rattle.php_spellings.specs.declared.table.Tail.TheVariants.{When, SomeOf}
use Rattle.php_lexer.specs.RulesQuoted.{from_line, end_rows}
use Rattle.php_lexer.specs.Modes.{quoted}
use Rattle.php_lexer.specs.Scan.{scan, scan_by, behind, tail_len, run_len, end_line_len, last_label_len, add_to, some_len, longer}
use Rattle.php_lexer.proofs.Dispatch.{other_head}
use Rattle.php_lexer.proofs.Steps.{end_line_is}
use Rattle.php_relexing.proofs.Scanned.{found}

abbrev pub piece_len : Mark → List ℕ → State → List ℕ → ℕ
piece_len mark label s bs = run_len (Body mark) label s bs

-- ---- no other row begins where a piece does

-- the tokens of parts, and another one
others : List ℕ → Option (Kind × ℕ) → Option (Kind × ℕ)
others bs o =
    longer Variable (behind lower (codes "$") (tail_len [] (SomeOf Labels First)) bs)
    (longer CurlyOpen (behind lower (codes "{") (tail_len [] (When Dollar)) bs)
    (longer DollarBrace (behind lower (codes "${") (tail_len [] (When Anything)) bs) o))

at_dollar : (bs : List ℕ) (o : Option (Kind × ℕ)) → begins (λ c. is_letter c || nat_eq c 123) bs ≡ false → others (36 ∷ bs) o ≡ o
unfolding others
at_dollar [] o h = refl
at_dollar (c ∷ bs) o h =
    let is = or_parts (is_letter c) (nat_eq c 123) h in
    rw (is.0, other_head 123 c refl is.1) refl

at_brace : (bs : List ℕ) (o : Option (Kind × ℕ)) → begins_by 36 bs ≡ false → others (123 ∷ bs) o ≡ o
unfolding others
at_brace bs o h = rw h refl

at_other : (b : ℕ) (bs : List ℕ) (o : Option (Kind × ℕ)) → nat_eq b 36 ≡ false → nat_eq b 123 ≡ false → others (b ∷ bs) o ≡ o
unfolding others
at_other b bs o p q = rw (other_head 36 b refl p, other_head 123 b refl q) refl

others_by : (b : ℕ) (bs : List ℕ) (o : Option (Kind × ℕ)) (x y : Bool) → nat_eq b 36 ≡ x → nat_eq b 123 ≡ y
    → (x && begins (λ c. is_letter c || nat_eq c 123) bs || y && begins_by 36 bs) ≡ false → others (b ∷ bs) o ≡ o
others_by b bs o true y p q h = subst (λ (x : ℕ). others (x ∷ bs) o ≡ o) (sym (eqb-true b 36 p))
    (at_dollar bs o (or_parts (begins (λ c. is_letter c || nat_eq c 123) bs) (y && begins_by 36 bs) h).0)
others_by b bs o false true p q h = subst (λ (x : ℕ). others (x ∷ bs) o ≡ o) (sym (eqb-true b 123 q)) (at_brace bs o h)
others_by b bs o false false p q h = at_other b bs o p q

no_other : (b : ℕ) (bs : List ℕ) (o : Option (Kind × ℕ)) → begins_part b bs ≡ false → others (b ∷ bs) o ≡ o
no_other b bs o h = others_by b bs o (nat_eq b 36) (nat_eq b 123) refl refl h

-- ---- no end

last_by : (label bs : List ℕ) (t : Bool) → starts label bs ≡ t → (t && no_label (drop (length label) bs)) ≡ false → last_label_len label bs ≡ None
last_by [] bs t e h = refl
last_by (a ∷ label) bs false e h = rw e refl
last_by (a ∷ label) bs true e h = rw (e, h) refl

pub no_end_line : (label bs : List ℕ) → ends_heredoc label bs ≡ false → end_line_len label bs ≡ None
no_end_line label bs h = end_line_is label bs ∙ rw (last_by label (skip_blanks bs) (starts label (skip_blanks bs)) refl h) refl

-- what no byte of a piece is
pub record InPiece (mark : Mark) (label : List ℕ) (fresh : Bool) (b : ℕ) (bs : List ℕ) : Type 0 where
  pub plain : begins_part b bs ≡ false
  pub inside : scan_by label (end_rows mark fresh) (b ∷ bs) ≡ None

not_two : (x y : Bool) → (not x && not y) ≡ true → (x ≡ false) × (y ≡ false)
not_two true y h = absurd cc
not_two false true h = absurd cc
not_two false false h = (refl, refl)

in_piece_is : (mark : Mark) (label : List ℕ) (fresh : Bool) (b : ℕ) (bs : List ℕ) → in_piece mark label (from_line fresh) b bs ≡ true → InPiece mark label fresh b bs
in_piece_is Double label true b bs h = let is = not_two (nat_eq b 34) (begins_part b bs) h in record { plain = is.1; inside = rw (other_head 34 b refl is.0) refl }
in_piece_is Double label false b bs h = let is = not_two (nat_eq b 34) (begins_part b bs) h in record { plain = is.1; inside = rw (other_head 34 b refl is.0) refl }
in_piece_is Back label true b bs h = let is = not_two (nat_eq b 96) (begins_part b bs) h in record { plain = is.1; inside = rw (other_head 96 b refl is.0) refl }
in_piece_is Back label false b bs h = let is = not_two (nat_eq b 96) (begins_part b bs) h in record { plain = is.1; inside = rw (other_head 96 b refl is.0) refl }
in_piece_is Here label true b bs h = let is = not_two (ends_heredoc label (b ∷ bs)) (begins_part b bs) h
    in record { plain = is.1; inside = rw (no_end_line label (b ∷ bs) is.0) refl }
in_piece_is Here label false b bs h = record { plain = not-true (begins_part b bs) h; inside = refl }

-- ---- what is scanned

piece_row : (n : ℕ) → longer Piece (add_to 0 (some_len (1 + n))) None ≡ found Piece (1 + n)
piece_row n =
    let some : nat_eq (1 + n) 0 ≡ false = grind (arith, nat_tests) in
    let same : 0 + (1 + n) ≡ 1 + n = omega arith in
    rw (some, same) refl

some_piece : (mark : Mark) (label : List ℕ) (s : State) (b : ℕ) (bs : List ℕ) → in_piece mark label s b bs ≡ true
    → longer Piece (add_to 0 (some_len (piece_len mark label s (b ∷ bs)))) None ≡ found Piece
    (piece_len mark label s (b ∷ bs))
some_piece mark label s b bs h = rw h (piece_row (piece_len mark label (moved (Body mark) s b) bs))

pub piece_scan : (v : Version) (mark : Mark) (label : List ℕ) (fresh : Bool) (b : ℕ) (bs : List ℕ)
    → in_piece mark label (from_line fresh) b bs ≡ true → scan v (quoted mark label fresh) (b ∷ bs) ≡ found Piece
    (piece_len mark label (from_line fresh) (b ∷ bs))
unfolding others
piece_scan v mark label fresh b bs h =
    let is = in_piece_is mark label fresh b bs h in
    no_other b bs (longer Piece (add_to 0 (some_len (piece_len mark label (from_line fresh) (b ∷ bs)))) (scan_by label (end_rows mark fresh) (b ∷ bs))) is.plain
    ∙ ap (λ o. longer Piece (add_to 0 (some_len (piece_len mark label (from_line fresh) (b ∷ bs)))) o) is.inside
    ∙ some_piece mark label (from_line fresh) b bs h
