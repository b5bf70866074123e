-- Bytes that are the same up to where the trivia of names were edited, and what is counted over them.
use Rattle.std.proofs.Common.{
  ◌≡◌,
  ℕ,
  suc,
  ◌+◌,
  Bool,
  true,
  false,
  cond,
  not,
  ◌&&◌,
  ◌||◌,
  nat_eq,
  nat_le,
  List,
  [],
  ◌∷◌,
  length,
  drop,
  Option,
  None,
  refl,
  sym,
  ap,
  ◌∙◌,
  subst,
  arith,
}
use Rattle.std.specs.List.{prefix_len}
use Rattle.std.proofs.lemmas.Bool.{and_parts, eqb-true, not-true}
use Rattle.std.proofs.lemmas.Bool.Decides.{nat_tests}
use Rattle.php_spellings.specs.declared.table.Mark.{Mark}
use Rattle.php_spellings.specs.declared.table.Mark.TheVariants.{Double, Back, Here}
use Rattle.php_spellings.specs.declared.table.State.{State}
use Rattle.php_spellings.specs.declared.table.State.TheVariants.{First, Plain, Escaped}
use Rattle.php_spellings.specs.declared.table.Run.TheVariants.{Labels}
use Rattle.php_spellings.specs.declared.table.Shape.{Shape}
use Rattle.php_spellings.specs.declared.table.Shape.TheVariants as shape
use Rattle.php_spellings.specs.declared.table.Spot.{Spot}
use Rattle.php_spellings.specs.declared.table.Spot.TheVariants.{Begin, Whole, WholeGap}
use Rattle.php_spellings.specs.Bytes.{is_space, is_blank_byte, is_letter, is_label_byte, is_digit, lower, as_it_is, starts_by, starts, begins, begins_by, skip_blanks}
use Rattle.php_lexer.specs.Heredocs.{no_label, begins_label, ends_heredoc}
use Rattle.php_lexer.specs.Tails.{begins_part, in_piece}
use Rattle.php_lexer.specs.Shapes.{is_binary_digit, is_hex_digit, digits_step, step, may_end, is_stuck}
use Rattle.php_lexer.specs.Modes.{begins_arrow}
use Rattle.php_lexer.specs.Scan.{run_len, shape_len, here_len, behind, nothing_if, last_label_len, end_line_len}
use Rattle.php_relexing.specs.Labels.{all_label}

-- ---- the bytes where an edit begins

abbrev pub is_cut : ℕ → Bool
is_cut b = is_space b || (nat_eq b 92 || (nat_eq b 35 || nat_eq b 47))

-- white space, and then `\` or the front of a comment
abbrev pub cuts : List ℕ → Bool
cuts [] = false
cuts (b ∷ bs) = cond (is_space b) (cuts bs) (nat_eq b 92 || (nat_eq b 35 || nat_eq b 47))

-- the same bytes, up to their end or an edit
pub data Share : List ℕ → List ℕ → Type 0 where
  ended : Share [] []
  both : {r s : List ℕ} (c : ℕ) → Share r s → Share (c ∷ r) (c ∷ s)
  cut : {r s : List ℕ} → cuts r ≡ true → cuts s ≡ true → Share r s

cut_by : (x y : Bool) (bs : List ℕ) → cond x (cuts bs) y ≡ true → (x || y) ≡ true
cut_by true y bs h = refl
cut_by false y bs h = h

pub first_cut : (b : ℕ) (bs : List ℕ) → cuts (b ∷ bs) ≡ true → is_cut b ≡ true
first_cut b bs h = cut_by (is_space b) (nat_eq b 92 || (nat_eq b 35 || nat_eq b 47)) bs h

-- what such a byte is not
pub cut_letter : (b : ℕ) → is_cut b ≡ true → is_letter b ≡ false
cut_letter b h = grind (arith, nat_tests)

cut_label : (b : ℕ) → is_cut b ≡ true → is_label_byte b ≡ false
cut_label b h = grind (arith, nat_tests)

pub cut_low : (b : ℕ) → is_cut b ≡ true → lower b ≡ b
cut_low b h = rw (small b h) refl
  where
    small : (c : ℕ) → is_cut c ≡ true → (nat_le 65 c && nat_le c 90) ≡ false
    small c k = grind (arith, nat_tests)

other_byte : (a b : ℕ) (t : Bool) → nat_eq a b ≡ t → is_cut b ≡ true → is_cut a ≡ false → t ≡ false
other_byte a b true e h k =
    let same : a ≡ b = eqb-true a b e in
    let there : is_cut a ≡ true = subst (λ (x : ℕ). is_cut x ≡ true) (sym same) h in
    absurd (let clash : true ≡ false = sym there ∙ k in cc)
other_byte a b false e h k = refl

-- ---- classes of the first byte

begins_cut : (p : ℕ → Bool) → ((c : ℕ) → is_cut c ≡ true → p c ≡ false) → (r : List ℕ) → cuts r ≡ true → begins p r ≡ false
begins_cut p out [] h = absurd cc
begins_cut p out (b ∷ bs) h = out b (first_cut b bs h)

pub begins_same : (p : ℕ → Bool) → ((c : ℕ) → is_cut c ≡ true → p c ≡ false) → {r s : List ℕ} → Share r s → begins p r ≡ begins p s
begins_same p out ended = refl
begins_same p out (both c more) = refl
begins_same p out (cut {r} {s} h k) = begins_cut p out r h ∙ sym (begins_cut p out s k)

pub label_same : {r s : List ℕ} → Share r s → begins is_label_byte r ≡ begins is_label_byte s
label_same h = begins_same is_label_byte cut_label h

pub byte_same : (n : ℕ) → is_cut n ≡ false → {r s : List ℕ} → Share r s → begins_by n r ≡ begins_by n s
byte_same n out h = begins_same (λ b. nat_eq b n) not_byte h
  where
    flipped : (c : ℕ) (t : Bool) → nat_eq c n ≡ t → is_cut c ≡ true → t ≡ false
    flipped c true e k =
        let same : c ≡ n = eqb-true c n e in
        let there : is_cut n ≡ true = subst (λ (x : ℕ). is_cut x ≡ true) same k in
        absurd (let clash : true ≡ false = sym there ∙ out in cc)
    flipped c false e k = refl

    not_byte : (c : ℕ) → is_cut c ≡ true → nat_eq c n ≡ false
    not_byte c k = flipped c (nat_eq c n) refl k

-- ---- runs of labels

run_cut : (label : List ℕ) (st : State) (r : List ℕ) → cuts r ≡ true → run_len Labels label st r ≡ 0
run_cut label st [] h = absurd cc
run_cut label First (b ∷ bs) h = rw (cut_letter b (first_cut b bs h)) refl
run_cut label Plain (b ∷ bs) h = rw (cut_label b (first_cut b bs h)) refl
run_cut label Escaped (b ∷ bs) h = rw (cut_label b (first_cut b bs h)) refl

pub run_same : (label : List ℕ) → {r s : List ℕ} → Share r s → (st : State) → run_len Labels label st r ≡ run_len Labels label st s
run_same label ended st = refl
run_same label (both c more) First = rw (run_same label more Plain) refl
run_same label (both c more) Plain = rw (run_same label more Plain) refl
run_same label (both c more) Escaped = rw (run_same label more Plain) refl
run_same label (cut {r} {s} h k) st = run_cut label st r h ∙ sym (run_cut label st s k)

-- ---- words

abbrev pub uncut : List ℕ → Bool
uncut [] = true
uncut (a ∷ w) = not (is_cut a) && uncut w

module _ (f : ℕ → ℕ) (fixed : (c : ℕ) → is_cut c ≡ true → f c ≡ c) where
  pub starts_cut : (a : ℕ) (w r : List ℕ) → is_cut a ≡ false → cuts r ≡ true → starts_by f (a ∷ w) r ≡ false
  starts_cut a w [] out h = absurd cc
  starts_cut a w (b ∷ bs) out h =
      let is = first_cut b bs h in
      let other : nat_eq a (f b) ≡ false = ap (nat_eq a) (fixed b is) ∙ other_byte a b (nat_eq a b) refl is out in
      rw other refl

  abbrev Both : List ℕ → List ℕ → List ℕ → Type 0
  Both w r s = (starts_by f w r ≡ starts_by f w s) × (starts_by f w r ≡ true → Share (drop (length w) r) (drop (length w) s))

  pub starts_same : (w : List ℕ) → uncut w ≡ true → {r s : List ℕ} → Share r s → Both w r s
  starts_same [] out h = (refl, λ k. h)
  starts_same (a ∷ w) out ended = (refl, λ k. absurd cc)
  starts_same (a ∷ w) out (both {r} {s} c more) =
      let ih = starts_same w (and_parts (not (is_cut a)) (uncut w) out).1 more in
      (rw (ih.0) refl, λ k. ih.1 (and_parts (nat_eq a (f c)) (starts_by f w r) k).1)
  starts_same (a ∷ w) out (cut {r} {s} h k) =
      let first = not-true (is_cut a) (and_parts (not (is_cut a)) (uncut w) out).0 in
      let one = starts_cut a w r first h in
      let two = starts_cut a w s first k in
      (one ∙ sym two, λ e. absurd (let clash : true ≡ false = sym e ∙ one in cc))

  behind_by : (w : List ℕ) (len : List ℕ → Option ℕ) (r s : List ℕ) → (t : Bool) → starts_by f w r ≡ t
      → starts_by f w s ≡ t → (t ≡ true → len (drop (length w) r) ≡ len (drop (length w) s))
      → behind f w len r ≡ behind f w len s
  behind_by w len r s true p q h = rw (p, q, h refl) refl
  behind_by w len r s false p q h = rw (p, q) refl

  pub behind_same : (w : List ℕ) (len : List ℕ → Option ℕ) → ((x y : List ℕ) → Share x y → len x ≡ len y)
      → uncut w ≡ true → (r s : List ℕ) → Share r s → behind f w len r ≡ behind f w len s
  behind_same w len keeps out r s h =
      let is = starts_same w out h in
      behind_by w len r s (starts_by f w r) refl (sym is.0) (λ e. keeps (drop (length w) r) (drop (length w) s) (is.1 e))

pub low_same : (w : List ℕ) (len : List ℕ → Option ℕ) → ((x y : List ℕ) → Share x y → len x ≡ len y) → uncut w ≡ true
    → (r s : List ℕ) → Share r s → behind lower w len r ≡ behind lower w len s
low_same = behind_same lower cut_low

as_is : (c : ℕ) → is_cut c ≡ true → as_it_is c ≡ c
as_is c h = refl

-- ---- numbers

digits_stuck : (digit : Bool) (spot : Spot) (b : ℕ) → digit ≡ false → nat_eq b 95 ≡ false → is_stuck (digits_step digit spot b) ≡ true
digits_stuck digit Begin b h k = rw h refl
digits_stuck digit Whole b h k = rw (h, k) refl
digits_stuck digit WholeGap b h k = rw h refl
digits_stuck digit _ b h k = refl

cut_digit : (b : ℕ) → is_cut b ≡ true → is_digit b ≡ false
cut_digit b h = grind (arith, nat_tests)

cut_binary : (b : ℕ) → is_cut b ≡ true → is_binary_digit b ≡ false
cut_binary b h = grind (arith, nat_tests)

cut_hex : (b : ℕ) → is_cut b ≡ true → is_hex_digit b ≡ false
cut_hex b h = rw (cut_low b h) (plain b h)
  where
    plain : (c : ℕ) → is_cut c ≡ true → (is_digit c || (nat_le 97 c && nat_le c 102)) ≡ false
    plain c k = grind (arith, nat_tests)

cut_gap : (b : ℕ) → is_cut b ≡ true → nat_eq b 95 ≡ false
cut_gap b h = grind (arith, nat_tests)

module _ (sh : Shape) (stuck : (spot : Spot) (b : ℕ) → is_cut b ≡ true → is_stuck (step sh spot b) ≡ true) where
  shape_cut : (spot : Spot) (r : List ℕ) → cuts r ≡ true → shape_len sh spot r ≡ here_len (may_end sh spot)
  shape_cut spot [] h = absurd cc
  shape_cut spot (b ∷ bs) h = rw (stuck spot b (first_cut b bs h)) refl

  shape_same : {r s : List ℕ} → Share r s → (spot : Spot) → shape_len sh spot r ≡ shape_len sh spot s
  shape_same ended spot = refl
  shape_same (both c more) spot = rw (shape_same more (step sh spot c)) refl
  shape_same (cut {r} {s} h k) spot = shape_cut spot r h ∙ sym (shape_cut spot s k)

pub digits_same : {r s : List ℕ} → Share r s → (spot : Spot) → shape_len shape.Digits spot r ≡ shape_len shape.Digits spot s
digits_same = shape_same shape.Digits (λ spot b h. digits_stuck (is_digit b) spot b (cut_digit b h) (cut_gap b h))

pub hex_same : {r s : List ℕ} → Share r s → (spot : Spot) → shape_len shape.Hexadecimal spot r ≡ shape_len shape.Hexadecimal spot s
hex_same = shape_same shape.Hexadecimal (λ spot b h. digits_stuck (is_hex_digit b) spot b (cut_hex b h) (cut_gap b h))

pub binary_same : {r s : List ℕ} → Share r s → (spot : Spot) → shape_len shape.Binary spot r ≡ shape_len shape.Binary spot s
binary_same = shape_same shape.Binary (λ spot b h. digits_stuck (is_binary_digit b) spot b (cut_binary b h) (cut_gap b h))

-- ---- heredocs

label_uncut : (label : List ℕ) → all_label label ≡ true → uncut label ≡ true
label_uncut [] h = refl
label_uncut (b ∷ label) h =
    let (here, more) = and_parts (is_label_byte b) (all_label label) h in
    rw (other b here, label_uncut label more) refl
  where
    other : (c : ℕ) → is_label_byte c ≡ true → is_cut c ≡ false
    other c k = grind (arith, nat_tests)

blank_space : (b : ℕ) → is_blank_byte b ≡ true → is_space b ≡ true
blank_space b h = rw h refl

skip_by : (b : ℕ) (bs : List ℕ) (t : Bool) → is_blank_byte b ≡ t → skip_blanks (b ∷ bs) ≡ cond t (skip_blanks bs) (b ∷ bs)
skip_by b bs true e =
    let size : 1 + prefix_len is_blank_byte bs ≡ suc (prefix_len is_blank_byte bs) = omega arith in
    rw e (ap (λ (n : ℕ). drop n (b ∷ bs)) size)
skip_by b bs false e = rw e refl

pub cuts_blank : (b : ℕ) (bs : List ℕ) → is_blank_byte b ≡ true → cuts (b ∷ bs) ≡ true → cuts bs ≡ true
cuts_blank b bs e h = subst (λ (t : Bool). cond t (cuts bs) (nat_eq b 92 || (nat_eq b 35 || nat_eq b 47)) ≡ true) (blank_space b e) h

cuts_skip_by : (b : ℕ) (bs : List ℕ) → (cuts bs ≡ true → cuts (skip_blanks bs) ≡ true) → cuts (b ∷ bs) ≡ true
    → (t : Bool) → is_blank_byte b ≡ t → cuts (skip_blanks (b ∷ bs)) ≡ true
cuts_skip_by b bs ih h true e = ap cuts (skip_by b bs true e) ∙ ih (cuts_blank b bs e h)
cuts_skip_by b bs ih h false e = ap cuts (skip_by b bs false e) ∙ h

cuts_skip : (r : List ℕ) → cuts r ≡ true → cuts (skip_blanks r) ≡ true
cuts_skip [] h = absurd cc
cuts_skip (b ∷ bs) h = cuts_skip_by b bs (cuts_skip bs) h (is_blank_byte b) refl

both_skip : (c : ℕ) (r s : List ℕ) (t : Bool) → is_blank_byte c ≡ t → Share (skip_blanks r) (skip_blanks s)
    → Share (c ∷ r) (c ∷ s) → Share (skip_blanks (c ∷ r)) (skip_blanks (c ∷ s))
both_skip c r s true e ih h =
    subst (λ (x : List ℕ). Share x (skip_blanks (c ∷ s))) (sym (skip_by c r true e))
    (subst (λ (x : List ℕ). Share (skip_blanks r) x) (sym (skip_by c s true e)) ih)
both_skip c r s false e ih h =
    subst (λ (x : List ℕ). Share x (skip_blanks (c ∷ s))) (sym (skip_by c r false e))
    (subst (λ (x : List ℕ). Share (c ∷ r) x) (sym (skip_by c s false e)) h)

skip_same : {r s : List ℕ} → Share r s → Share (skip_blanks r) (skip_blanks s)
skip_same ended = ended
skip_same (both {r} {s} c more) = both_skip c r s (is_blank_byte c) refl (skip_same more) (both c more)
skip_same (cut {r} {s} h k) = cut (cuts_skip r h) (cuts_skip s k)

pub no_label_same : {r s : List ℕ} → Share r s → no_label r ≡ no_label s
no_label_same h = ap not (label_same h)

front_by : (label r s : List ℕ) (t : Bool) → starts label r ≡ t → starts label s ≡ t
    → (t ≡ true → no_label (drop (length label) r) ≡ no_label (drop (length label) s))
    → begins_label label r ≡ begins_label label s
front_by label r s true p q h = rw (p, q) (h refl)
front_by label r s false p q h = rw (p, q) refl

front_same : (label : List ℕ) → uncut label ≡ true → {r s : List ℕ} → Share r s → begins_label label r ≡ begins_label label s
front_same label out {r} {s} h =
    let is = starts_same as_it_is as_is label out h in
    front_by label r s (starts label r) refl (sym is.0) (λ e. no_label_same (is.1 e))

pub ends_same : (label : List ℕ) → all_label label ≡ true → {r s : List ℕ} → Share r s → ends_heredoc label r ≡ ends_heredoc label s
ends_same label h share = front_same label (label_uncut label h) (skip_same share)

nothing_same : (r s : List ℕ) → Share r s → nothing_if no_label r ≡ nothing_if no_label s
nothing_same r s h = ap here_len (no_label_same h)

last_same : (label : List ℕ) → uncut label ≡ true → {r s : List ℕ} → Share r s → last_label_len label r ≡ last_label_len label s
last_same [] out {r} {s} h = refl
last_same (a ∷ label) out {r} {s} h = behind_same as_it_is as_is (a ∷ label) (nothing_if no_label) nothing_same out r s h

last_cut : (label : List ℕ) (b : ℕ) (bs : List ℕ) → uncut label ≡ true → is_cut b ≡ true → last_label_len label (b ∷ bs) ≡ None
last_cut [] b bs out h = refl
last_cut (a ∷ label) b bs out h =
    let first = not-true (is_cut a) (and_parts (not (is_cut a)) (uncut label) out).0 in
    let other : nat_eq a b ≡ false = other_byte a b (nat_eq a b) refl h first in
    rw other refl

end_cut_by : (label : List ℕ) (b : ℕ) (bs : List ℕ) → uncut label ≡ true
    → (cuts bs ≡ true → end_line_len label bs ≡ None) → cuts (b ∷ bs) ≡ true → (t : Bool) → is_blank_byte b ≡ t
    → end_line_len label (b ∷ bs) ≡ None
end_cut_by label b bs out ih h true e = rw (e, ih (cuts_blank b bs e h)) refl
end_cut_by label b bs out ih h false e = rw e (last_cut label b bs out (first_cut b bs h))

end_cut : (label r : List ℕ) → uncut label ≡ true → cuts r ≡ true → end_line_len label r ≡ None
end_cut label [] out h = absurd cc
end_cut label (b ∷ bs) out h = end_cut_by label b bs out (end_cut label bs out) h (is_blank_byte b) refl

end_same_by : (label : List ℕ) → uncut label ≡ true → {r s : List ℕ} → Share r s → end_line_len label r ≡ end_line_len label s
end_same_by label out ended = refl
end_same_by label out (both {r} {s} c more) = rw (end_same_by label out more, last_same label out (both c more)) refl
end_same_by label out (cut {r} {s} h k) = end_cut label r out h ∙ sym (end_cut label s out k)

pub end_same : (label : List ℕ) → all_label label ≡ true → {r s : List ℕ} → Share r s → end_line_len label r ≡ end_line_len label s
end_same label h share = end_same_by label (label_uncut label h) share

-- ---- parts

cut_part : (c : ℕ) → is_cut c ≡ true → (is_letter c || nat_eq c 123) ≡ false
cut_part c h = rw (cut_letter c h) (other c h)
  where
    other : (b : ℕ) → is_cut b ≡ true → nat_eq b 123 ≡ false
    other b k = grind (arith, nat_tests)

pub part_same : (b : ℕ) → {r s : List ℕ} → Share r s → begins_part b r ≡ begins_part b s
part_same b {r} {s} h =
    let one : begins (λ c. is_letter c || nat_eq c 123) r ≡ begins (λ c. is_letter c || nat_eq c 123) s = begins_same (λ c. is_letter c || nat_eq c 123) cut_part h in
    let two : begins_by 36 r ≡ begins_by 36 s = byte_same 36 refl h in
    ap (λ (x : Bool). nat_eq b 36 && x || nat_eq b 123 && begins_by 36 r) one
    ∙ ap (λ (x : Bool). nat_eq b 36 && begins (λ c. is_letter c || nat_eq c 123) s || nat_eq b 123 && x) two

letter_same : {r s : List ℕ} → Share r s → begins is_letter r ≡ begins is_letter s
letter_same h = begins_same is_letter cut_letter h

arrow_first : (r : List ℕ) → cuts r ≡ true → begins_arrow r ≡ false
arrow_first [] h = refl
arrow_first (b ∷ []) h = refl
arrow_first (b ∷ c ∷ bs) h = rw (other b (first_cut b (c ∷ bs) h)) refl
  where
    other : (x : ℕ) → is_cut x ≡ true → nat_eq x 45 ≡ false
    other x k = grind (arith, nat_tests)

arrow_second : (b : ℕ) (r : List ℕ) → cuts r ≡ true → begins_arrow (b ∷ r) ≡ false
arrow_second b [] h = refl
arrow_second b (c ∷ bs) h = rw (other c (first_cut c bs h)) (by_first (nat_eq b 45))
  where
    other : (x : ℕ) → is_cut x ≡ true → nat_eq x 62 ≡ false
    other x k = grind (arith, nat_tests)

    by_first : (t : Bool) → (t && false && begins is_letter bs) ≡ false
    by_first true = refl
    by_first false = refl

pub arrow_same : {r s : List ℕ} → Share r s → begins_arrow r ≡ begins_arrow s
arrow_same ended = refl
arrow_same (both a ended) = refl
arrow_same (both a (both b more)) = rw (letter_same more) refl
arrow_same (both a (cut {r} {s} h k)) = arrow_second a r h ∙ sym (arrow_second a s k)
arrow_same (cut {r} {s} h k) = arrow_first r h ∙ sym (arrow_first s k)

-- ---- pieces

pub piece_same : (mark : Mark) (label : List ℕ) → all_label label ≡ true → (st : State) (b : ℕ) → {r s : List ℕ}
    → Share r s → in_piece mark label st b r ≡ in_piece mark label st b s
piece_same mark label ok Escaped b h = refl
piece_same Double label ok First b h = rw (part_same b h) refl
piece_same Double label ok Plain b h = rw (part_same b h) refl
piece_same Back label ok First b h = rw (part_same b h) refl
piece_same Back label ok Plain b h = rw (part_same b h) refl
piece_same Here label ok First b {r} {s} h = rw (part_same b h, ends_same label ok (both b h)) refl
piece_same Here label ok Plain b h = rw (part_same b h) refl
