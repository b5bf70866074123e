-- Pieces of quoted texts stay before parts and before the end.
use Rattle.std.proofs.Common.{◌≡◌, ℕ, Bool, true, false, cond, not, ◌&&◌, ◌||◌, nat_eq, List, [], ◌∷◌, ◌++◌, refl, sym, ◌∙◌, subst, arith}
use Rattle.std.proofs.lemmas.Bool.{and_parts, eqb-true, not-true}
use Rattle.std.proofs.lemmas.Bool.Decides.{nat_tests}
use Rattle.php_spellings.specs.declared.table.Mark.{Mark}
use Rattle.php_spellings.specs.declared.table.Mark.TheVariants.{Double, Back, Here}
use Rattle.php_spellings.specs.declared.table.State.{State}
use Rattle.php_spellings.specs.declared.table.State.TheVariants.{First, Plain, Escaped}
use Rattle.php_spellings.specs.declared.table.Run.TheVariants.{Body}
use Rattle.php_spellings.specs.Bytes.{is_letter, is_line_end, begins, begins_by}
use Rattle.php_lexer.specs.Heredocs.{ends_heredoc}
use Rattle.php_lexer.specs.Tails.{begins_part, in_piece, escape, moved}
use Rattle.php_lexer.specs.RulesQuoted.{from_line}
use Rattle.php_relexing.specs.Labels.{all_label, is_label}
use Rattle.php_relexing.specs.Pieces.{part_begins, ends_dollar, is_labelled, fronts, PiecesStayBeforeParts}
use Rattle.php_relexing.proofs.Bools.{and_false}
use Rattle.php_relexing.proofs.PieceRuns.{piece_len}
use Rattle.php_relexing.proofs.HeredocFronts.{each_end, Stopper, ends_same, dollar_stops, brace_stops}
use Rattle.php_relexing.proofs.Pieces.{state_behind, piece_of, piece_is, piece_some, SameEnds, LastFits, over}

-- ---- states

abbrev pub is_escaped : State → Bool
is_escaped Escaped = true
is_escaped First = false
is_escaped Plain = false

escape_by : (s : State) (b : ℕ) (t : Bool) → nat_eq b 92 ≡ t → is_escaped (escape s b) ≡ (not (is_escaped s) && t)
escape_by First b true e = rw e refl
escape_by First b false e = rw e refl
escape_by Plain b true e = rw e refl
escape_by Plain b false e = rw e refl
escape_by Escaped b t e = refl

line_by : (s : State) (b : ℕ) (t : Bool) → is_line_end b ≡ t → is_escaped (cond t First (escape s b)) ≡ (not (is_escaped s) && nat_eq b 92)
line_by s b true e = let other : nat_eq b 92 ≡ false = grind (arith, nat_tests) in rw other (sym (and_false (not (is_escaped s))))
line_by s b false e = escape_by s b (nat_eq b 92) refl

pub moved_escaped : (mark : Mark) (s : State) (b : ℕ) → is_escaped (moved (Body mark) s b) ≡ (not (is_escaped s) && nat_eq b 92)
moved_escaped Double s b = escape_by s b (nat_eq b 92) refl
moved_escaped Back s b = escape_by s b (nat_eq b 92) refl
moved_escaped Here s b = line_by s b (is_line_end b) refl

pub line_state : (fresh : Bool) → is_escaped (from_line fresh) ≡ false
line_state true = refl
line_state false = refl

-- ---- the front of a part

-- the first byte of a part, which stops labels and blanks
pub record PartFront (bs : List ℕ) : Type 0 where
  pub byte : ℕ
  pub more : List ℕ
  pub same : bs ≡ byte ∷ more
  pub stop : Stopper byte

front_by : (b : ℕ) (bs : List ℕ) (x y : Bool) → nat_eq b 36 ≡ x → nat_eq b 123 ≡ y → (x && begins (λ c. is_letter c || nat_eq c 123) bs || y && begins_by 36 bs) ≡ true → Stopper b
front_by b bs true y p q h = subst Stopper (sym (eqb-true b 36 p)) dollar_stops
front_by b bs false true p q h = subst Stopper (sym (eqb-true b 123 q)) brace_stops
front_by b bs false false p q h = absurd cc

pub part_front : (bs : List ℕ) → part_begins bs ≡ true → PartFront bs
part_front [] h = absurd cc
part_front (b ∷ bs) h = record { byte = b; more = bs; same = refl; stop = front_by b bs (nat_eq b 36) (nat_eq b 123) refl refl h }

pub label_ok : (label : List ℕ) → is_label label ≡ true → all_label label ≡ true
label_ok [] h = absurd cc
label_ok (b ∷ a) h = let (here, more) = and_parts (is_letter b) (all_label a) h in rw (here, more) refl

ends_by : (mark : Mark) (label : List ℕ) (u v : List ℕ) → is_labelled mark label ≡ true → PartFront u → PartFront v → (y : List ℕ) → SameEnds mark label u v y
ends_by Double label u v h p q y = tt
ends_by Back label u v h p q y = tt
ends_by Here label u v h p q y =
    subst (λ (t : List ℕ). ends_heredoc label (y ++ t) ≡ ends_heredoc label (y ++ v)) (sym p.same)
    (subst (λ (t : List ℕ). ends_heredoc label (y ++ p.byte ∷ p.more) ≡ ends_heredoc label (y ++ t)) (sym q.same)
    (ends_same p.byte q.byte p.more q.more p.stop q.stop label (label_ok label h) y))

-- ---- the last byte

pub in_by : (mark : Mark) (label : List ℕ) (s : State) (b : ℕ) (u v : List ℕ) → SameEnds mark label u v (b ∷ [])
    → (is_escaped s ≡ false → begins_part b u ≡ false → begins_part b v ≡ false) → in_piece mark label s b u ≡ true
    → in_piece mark label s b v ≡ true
in_by mark label Escaped b u v e f h = refl
in_by Double label First b u v e f h = let (x, y) = and_parts (not (nat_eq b 34)) (not (begins_part b u)) h in rw (x, f refl (not-true (begins_part b u) y)) refl
in_by Double label Plain b u v e f h = let (x, y) = and_parts (not (nat_eq b 34)) (not (begins_part b u)) h in rw (x, f refl (not-true (begins_part b u) y)) refl
in_by Back label First b u v e f h = let (x, y) = and_parts (not (nat_eq b 96)) (not (begins_part b u)) h in rw (x, f refl (not-true (begins_part b u) y)) refl
in_by Back label Plain b u v e f h = let (x, y) = and_parts (not (nat_eq b 96)) (not (begins_part b u)) h in rw (x, f refl (not-true (begins_part b u) y)) refl
in_by Here label First b u v e f h = let (x, y) = and_parts (not (ends_heredoc label (b ∷ u))) (not (begins_part b u)) h in rw (sym e, x, f refl (not-true (begins_part b u) y)) refl
in_by Here label Plain b u v e f h = rw (f refl (not-true (begins_part b u) h)) refl

-- the part behind a byte begins with `$` in both texts, or with `{` in the second
dollar_fits : (b : ℕ) (u v : List ℕ) → begins_part b (36 ∷ u) ≡ begins_part b (36 ∷ v)
dollar_fits b u v = refl

brace_fits : (b : ℕ) (v : List ℕ) → nat_eq b 36 ≡ false → begins_part b (123 ∷ v) ≡ false
brace_fits b v h = rw h (and_false (nat_eq b 123))

fits_by : (b c d : ℕ) (u v : List ℕ) (x y z : Bool) → nat_eq c 36 ≡ x → nat_eq d 36 ≡ y → nat_eq d 123 ≡ z
    → (x && y || (nat_eq c 123 || x) && z) ≡ true → (z && nat_eq b 36) ≡ false → begins_part b (c ∷ u) ≡ false
    → begins_part b (d ∷ v) ≡ false
fits_by b c d u v x y true p q r h k l = subst (λ (t : ℕ). begins_part b (t ∷ v) ≡ false) (sym (eqb-true d 123 r)) (brace_fits b v k)
fits_by b c d u v true true false p q r h k l =
    subst (λ (t : ℕ). begins_part b (t ∷ v) ≡ false) (sym (eqb-true d 36 q))
    (dollar_fits b v u ∙ subst (λ (t : ℕ). begins_part b (t ∷ u) ≡ false) (eqb-true c 36 p) l)
fits_by b c d u v true false false p q r h k l = absurd (let e : ((nat_eq c 123 || true) && false) ≡ true = h in let f = sym (and_false (nat_eq c 123 || true)) ∙ e in cc)
fits_by b c d u v false y false p q r h k l = absurd (let e : ((nat_eq c 123 || false) && false) ≡ true = h in let f = sym (and_false (nat_eq c 123 || false)) ∙ e in cc)

part_fits : (b : ℕ) (u v : List ℕ) → fronts u v ≡ true → (begins_by 123 v && nat_eq b 36) ≡ false → begins_part b u ≡ false → begins_part b v ≡ false
part_fits b [] [] h k l = absurd cc
part_fits b [] (d ∷ v) h k l = absurd cc
part_fits b (c ∷ u) [] h k l = absurd (let f = sym (and_false (nat_eq c 36)) in let g = sym (and_false (nat_eq c 123 || nat_eq c 36)) in cc)
part_fits b (c ∷ u) (d ∷ v) h k l = fits_by b c d u v (nat_eq c 36) (nat_eq d 36) (nat_eq d 123) refl refl refl h k l

bare : (e t : Bool) (b : ℕ) → (t && (not e && nat_eq b 36)) ≡ false → e ≡ false → (t && nat_eq b 36) ≡ false
bare true t b h p = absurd cc
bare false t b h p = h

last_fits : (mark : Mark) (label : List ℕ) (s : State) (x u v : List ℕ) → ((y : List ℕ) → SameEnds mark label u v y)
    → fronts u v ≡ true → (begins_by 123 v && ends_dollar (is_escaped s) x) ≡ false → LastFits mark label s x u v
last_fits mark label s [] u v ends h k = tt
last_fits mark label s (b ∷ []) u v ends h k = in_by mark label s b u v (ends (b ∷ [])) (λ e l. part_fits b u v h (bare (is_escaped s) (begins_by 123 v) b k e) l)
last_fits mark label s (b ∷ c ∷ x) u v ends h k =
    last_fits mark label (moved (Body mark) s b) (c ∷ x) u v ends h
    (subst (λ (t : Bool). (begins_by 123 v && ends_dollar t (c ∷ x)) ≡ false) (sym (moved_escaped mark s b)) k)

-- ---- a part ends a piece

no_piece : (mark : Mark) (label : List ℕ) (s : State) (c : ℕ) (u : List ℕ) → is_escaped s ≡ false → begins_part c u ≡ true → in_piece mark label s c u ≡ false
no_piece mark label Escaped c u e h = absurd cc
no_piece Double label First c u e h = rw h (and_false (not (nat_eq c 34)))
no_piece Double label Plain c u e h = rw h (and_false (not (nat_eq c 34)))
no_piece Back label First c u e h = rw h (and_false (not (nat_eq c 96)))
no_piece Back label Plain c u e h = rw h (and_false (not (nat_eq c 96)))
no_piece Here label First c u e h = rw h (and_false (not (ends_heredoc label (c ∷ u))))
no_piece Here label Plain c u e h = rw h refl

pub part_stops : (mark : Mark) (label : List ℕ) (s : State) (u : List ℕ) → is_escaped s ≡ false → part_begins u ≡ true → piece_len mark label s u ≡ 0
part_stops mark label s [] e h = absurd cc
part_stops mark label s (c ∷ u) e h = rw (no_piece mark label s c u e h) refl

pub not_escaped : (mark : Mark) (label : List ℕ) (s : State) (c : ℕ) (u : List ℕ) → piece_len mark label s (c ∷ u) ≡ 0 → is_escaped s ≡ false
not_escaped mark label First c u h = refl
not_escaped mark label Plain c u h = refl
not_escaped mark label Escaped c u h = absurd (omega arith)

open_state : (mark : Mark) (label : List ℕ) (s : State) (u : List ℕ) → part_begins u ≡ true → piece_len mark label s u ≡ 0 → is_escaped s ≡ false
open_state mark label s [] h e = absurd cc
open_state mark label s (c ∷ u) h e = not_escaped mark label s c u e

pub pieces_stay_before_parts : PiecesStayBeforeParts
pieces_stay_before_parts v w mark label fresh a r s labelled old new front bare_end h =
    let is = piece_of v mark label fresh a r h in
    let ends = ends_by mark label r s labelled (part_front r old) (part_front s new) in
    let dollar : (begins_by 123 s && ends_dollar (is_escaped (from_line fresh)) a) ≡ false =
    subst (λ (t : Bool). (begins_by 123 s && ends_dollar t a) ≡ false) (sym (line_state fresh)) bare_end in
    let fits = last_fits mark label (from_line fresh) a r s ends front dollar in
    piece_is w mark label fresh a s (piece_some v mark label fresh a r h) (record {
      run = over mark label (from_line fresh) a r s (each_end (SameEnds mark label r s) ends a) fits is.run;
      stops = part_stops mark label (state_behind mark (from_line fresh) a) s (open_state mark label (state_behind mark (from_line fresh) a) r old is.stops) new;
    })
