-- No shape ends within a character.
use Rattle.std.proofs.Common.{◌≡◌, ℕ, ◌+◌, Bool, true, false, cond, ◌&&◌, ◌||◌, nat_le, List, [], ◌∷◌, ◌⊎◌, inl, inr, Option, Some, None, refl, sym, ◌∙◌, arith}
use Rattle.std.proofs.lemmas.Bool.Decides.{nat_tests}
use Rattle.php_spellings.specs.declared.table.Shape.{Shape}
use Rattle.php_spellings.specs.declared.table.Shape.TheVariants as shape
use Rattle.php_spellings.specs.declared.table.Spot.{Spot}
use Rattle.php_spellings.specs.declared.table.Spot.TheVariants.{
  Begin,
  Whole,
  WholeGap,
  LeadPoint,
  Point,
  Part,
  PartGap,
  Mark,
  Sign,
  Power,
  PowerGap,
  FirstLabel,
  Backslash,
  LaterLabel,
  OpenedLabel,
  QuotedLabel,
  ClosedLabel,
  Return,
  Line,
  Stuck,
}
use Rattle.php_spellings.specs.Bytes.{is_blank_byte, is_digit, lower}
use Rattle.php_lexer.specs.Shapes.{
  is_octal_digit,
  is_binary_digit,
  is_hex_digit,
  is_exponent,
  is_sign,
  digits_step,
  decimal_step,
  float_step,
  heredoc_step,
  step,
  may_end,
  is_stuck,
}
use Rattle.php_lexer.specs.Scan.{add_to, or_else, here_len, shape_len}
use Rattle.php_lexer.proofs.Seams.{small, cuts, cuts_next, or_true, some_same, big_eq, big_letter, big_label, big_lower}

-- ---- bytes that are no ASCII

big_digit : (b : ℕ) → small b ≡ false → is_digit b ≡ false
big_digit b h = grind (arith, nat_tests)

big_octal : (b : ℕ) → small b ≡ false → is_octal_digit b ≡ false
big_octal b h = grind (arith, nat_tests)

big_binary : (b : ℕ) → small b ≡ false → is_binary_digit b ≡ false
big_binary b h = grind (arith, nat_tests)

big_same : (b : ℕ) → small b ≡ false → lower b ≡ b
big_same b h = let e : (nat_le 65 b && nat_le b 90) ≡ false = grind (arith, nat_tests) in rw e refl

big_hex : (b : ℕ) → small b ≡ false → is_hex_digit b ≡ false
big_hex b h = let top : nat_le b 102 ≡ false = grind (arith, nat_tests) in rw (big_digit b h, big_same b h, top) (no_more (nat_le 97 b))
  where
    no_more : (x : Bool) → (x && false) ≡ false
    no_more true = refl
    no_more false = refl

big_blank : (b : ℕ) → small b ≡ false → is_blank_byte b ≡ false
big_blank b h = grind (arith, nat_tests)

big_exponent : (b : ℕ) → small b ≡ false → is_exponent b ≡ false
big_exponent b h = big_lower b 101 h refl

big_sign : (b : ℕ) → small b ≡ false → is_sign b ≡ false
big_sign b h = rw (big_eq b 43 h refl, big_eq b 45 h refl) refl

-- ---- no shape may end behind one, but a name

digits_stuck : (s : Spot) (b : ℕ) → small b ≡ false → digits_step false s b ≡ Stuck
digits_stuck Begin b h = refl
digits_stuck Whole b h = rw (big_eq b 95 h refl) refl
digits_stuck WholeGap b h = refl
digits_stuck LeadPoint b h = refl
digits_stuck Point b h = refl
digits_stuck Part b h = refl
digits_stuck PartGap b h = refl
digits_stuck Mark b h = refl
digits_stuck Sign b h = refl
digits_stuck Power b h = refl
digits_stuck PowerGap b h = refl
digits_stuck FirstLabel b h = refl
digits_stuck Backslash b h = refl
digits_stuck LaterLabel b h = refl
digits_stuck OpenedLabel b h = refl
digits_stuck QuotedLabel b h = refl
digits_stuck ClosedLabel b h = refl
digits_stuck Return b h = refl
digits_stuck Line b h = refl
digits_stuck Stuck b h = refl

decimal_stuck : (s : Spot) (b : ℕ) → small b ≡ false → decimal_step s b ≡ Stuck
decimal_stuck Begin b h = rw (big_digit b h) refl
decimal_stuck Whole b h = rw (big_digit b h, big_eq b 95 h refl) refl
decimal_stuck WholeGap b h = rw (big_digit b h) refl
decimal_stuck LeadPoint b h = refl
decimal_stuck Point b h = refl
decimal_stuck Part b h = refl
decimal_stuck PartGap b h = refl
decimal_stuck Mark b h = refl
decimal_stuck Sign b h = refl
decimal_stuck Power b h = refl
decimal_stuck PowerGap b h = refl
decimal_stuck FirstLabel b h = refl
decimal_stuck Backslash b h = refl
decimal_stuck LaterLabel b h = refl
decimal_stuck OpenedLabel b h = refl
decimal_stuck QuotedLabel b h = refl
decimal_stuck ClosedLabel b h = refl
decimal_stuck Return b h = refl
decimal_stuck Line b h = refl
decimal_stuck Stuck b h = refl

float_stuck : (s : Spot) (b : ℕ) → small b ≡ false → float_step s b ≡ Stuck
float_stuck Begin b h = rw (big_digit b h, big_eq b 46 h refl) refl
float_stuck Whole b h = rw (big_digit b h, big_eq b 95 h refl, big_eq b 46 h refl, big_exponent b h) refl
float_stuck WholeGap b h = rw (big_digit b h) refl
float_stuck LeadPoint b h = rw (big_digit b h) refl
float_stuck Point b h = rw (big_digit b h, big_exponent b h) refl
float_stuck Part b h = rw (big_digit b h, big_eq b 95 h refl, big_exponent b h) refl
float_stuck PartGap b h = rw (big_digit b h) refl
float_stuck Mark b h = rw (big_digit b h, big_sign b h) refl
float_stuck Sign b h = rw (big_digit b h) refl
float_stuck Power b h = rw (big_digit b h, big_eq b 95 h refl) refl
float_stuck PowerGap b h = rw (big_digit b h) refl
float_stuck FirstLabel b h = refl
float_stuck Backslash b h = refl
float_stuck LaterLabel b h = refl
float_stuck OpenedLabel b h = refl
float_stuck QuotedLabel b h = refl
float_stuck ClosedLabel b h = refl
float_stuck Return b h = refl
float_stuck Line b h = refl
float_stuck Stuck b h = refl

heredoc_goes : (s : Spot) (b : ℕ) → small b ≡ false → may_end shape.HeredocLine (heredoc_step s b) ≡ false
heredoc_goes Begin b h = rw (big_blank b h, big_letter b h) refl
heredoc_goes Whole b h = refl
heredoc_goes WholeGap b h = refl
heredoc_goes LeadPoint b h = refl
heredoc_goes Point b h = refl
heredoc_goes Part b h = refl
heredoc_goes PartGap b h = refl
heredoc_goes Mark b h = refl
heredoc_goes Sign b h = refl
heredoc_goes Power b h = refl
heredoc_goes PowerGap b h = refl
heredoc_goes FirstLabel b h = rw (big_label b h) refl
heredoc_goes Backslash b h = refl
heredoc_goes LaterLabel b h = refl
heredoc_goes OpenedLabel b h = rw (big_letter b h) refl
heredoc_goes QuotedLabel b h = rw (big_label b h) refl
heredoc_goes ClosedLabel b h = rw (big_eq b 10 h refl, big_eq b 13 h refl) refl
heredoc_goes Return b h = rw (big_eq b 10 h refl) refl
heredoc_goes Line b h = refl
heredoc_goes Stuck b h = refl

-- a shape that is no name may end behind an ASCII byte alone
abbrev pub ShapeFits : Shape → Spot → ℕ → Type 0
ShapeFits shape.Name s before = Unit {0}
ShapeFits sh s before = may_end sh s ≡ true → small before ≡ true

clash : {A : Type 0} (x : Bool) → x ≡ true → x ≡ false → A
clash x p q = let e : true ≡ false = sym p ∙ q in absurd cc

next_by : (sh : Shape) (s : Spot) (b : ℕ) → (small b ≡ false → may_end sh s ≡ false) → may_end sh s ≡ true → (t : Bool) → small b ≡ t → t ≡ true
next_by sh s b big h true e = refl
next_by sh s b big h false e = clash (may_end sh s) h (big e)

next_fits : (sh : Shape) (s : Spot) (b : ℕ) → ShapeFits sh (step sh s b) b
next_fits shape.Name s b = tt
next_fits shape.Decimal s b = λ h. next_by shape.Decimal (step shape.Decimal s b) b (λ p. rw (decimal_stuck s b p) refl) h (small b) refl
next_fits shape.Octal s b = λ h. next_by shape.Octal (step shape.Octal s b) b (λ p. rw (big_octal b p, digits_stuck s b p) refl) h (small b) refl
next_fits shape.Hexadecimal s b = λ h. next_by shape.Hexadecimal (step shape.Hexadecimal s b) b (λ p. rw (big_hex b p, digits_stuck s b p) refl) h (small b) refl
next_fits shape.Binary s b = λ h. next_by shape.Binary (step shape.Binary s b) b (λ p. rw (big_binary b p, digits_stuck s b p) refl) h (small b) refl
next_fits shape.Digits s b = λ h. next_by shape.Digits (step shape.Digits s b) b (λ p. rw (big_digit b p, digits_stuck s b p) refl) h (small b) refl
next_fits shape.Float s b = λ h. next_by shape.Float (step shape.Float s b) b (λ p. rw (float_stuck s b p) refl) h (small b) refl
next_fits shape.HeredocLine s b = λ h. next_by shape.HeredocLine (step shape.HeredocLine s b) b (heredoc_goes s b) h (small b) refl

-- ---- names

-- a name that may end has a length
later_by : (t : Bool) (o : Option ℕ) → cond t (here_len true) (or_else o (here_len true)) ≡ None → ⊥
later_by true o e = cc
later_by false None e = cc
later_by false (Some n) e = cc

later_some : (bs : List ℕ) → shape_len shape.Name LaterLabel bs ≡ None → ⊥
later_some [] e = cc
later_some (b ∷ bs) e = later_by (is_stuck (step shape.Name LaterLabel b)) (add_to 1 (shape_len shape.Name (step shape.Name LaterLabel b) bs)) e

name_end : (before b : ℕ) (bs : List ℕ) → is_stuck (step shape.Name LaterLabel b) ≡ true
    ⊎ shape_len shape.Name (step shape.Name LaterLabel b) bs ≡ None → (t : Bool) → small b ≡ t
    → (small before || t) ≡ true
name_end before b bs stop true e = or_true (small before)
name_end before b bs (inl stuck) false e = let go : is_stuck (step shape.Name LaterLabel b) ≡ false =
    rw (big_label b e) refl in clash (is_stuck (step shape.Name LaterLabel b)) stuck go
name_end before b bs (inr none) false e =
    let go : shape_len shape.Name (step shape.Name LaterLabel b) bs ≡ shape_len shape.Name LaterLabel bs = rw (big_label b e) refl in
    absurd (later_some bs (sym go ∙ none))

name_spot : (s : Spot) (before b : ℕ) (bs : List ℕ) → may_end shape.Name s ≡ true
    → is_stuck (step shape.Name s b) ≡ true ⊎ shape_len shape.Name (step shape.Name s b) bs ≡ None
    → (small before || small b) ≡ true
name_spot Begin before b bs h stop = absurd cc
name_spot Whole before b bs h stop = absurd cc
name_spot WholeGap before b bs h stop = absurd cc
name_spot LeadPoint before b bs h stop = absurd cc
name_spot Point before b bs h stop = absurd cc
name_spot Part before b bs h stop = absurd cc
name_spot PartGap before b bs h stop = absurd cc
name_spot Mark before b bs h stop = absurd cc
name_spot Sign before b bs h stop = absurd cc
name_spot Power before b bs h stop = absurd cc
name_spot PowerGap before b bs h stop = absurd cc
name_spot FirstLabel before b bs h stop = absurd cc
name_spot Backslash before b bs h stop = absurd cc
name_spot LaterLabel before b bs h stop = name_end before b bs stop (small b) refl
name_spot OpenedLabel before b bs h stop = absurd cc
name_spot QuotedLabel before b bs h stop = absurd cc
name_spot ClosedLabel before b bs h stop = absurd cc
name_spot Return before b bs h stop = absurd cc
name_spot Line before b bs h stop = absurd cc
name_spot Stuck before b bs h stop = absurd cc

small_or : (x y : Bool) → x ≡ true → (x || y) ≡ true
small_or x y e = rw e refl

-- where a shape ends, an ASCII byte is the last or the next
end_cuts : (sh : Shape) (s : Spot) (before b : ℕ) (bs : List ℕ) → ShapeFits sh s before → may_end sh s ≡ true
    → is_stuck (step sh s b) ≡ true ⊎ shape_len sh (step sh s b) bs ≡ None → (small before || small b) ≡ true
end_cuts shape.Name s before b bs f h stop = name_spot s before b bs h stop
end_cuts shape.Decimal s before b bs f h stop = small_or (small before) (small b) (f h)
end_cuts shape.Octal s before b bs f h stop = small_or (small before) (small b) (f h)
end_cuts shape.Hexadecimal s before b bs f h stop = small_or (small before) (small b) (f h)
end_cuts shape.Binary s before b bs f h stop = small_or (small before) (small b) (f h)
end_cuts shape.Digits s before b bs f h stop = small_or (small before) (small b) (f h)
end_cuts shape.Float s before b bs f h stop = small_or (small before) (small b) (f h)
end_cuts shape.HeredocLine s before b bs f h stop = small_or (small before) (small b) (f h)

pub here_zero : (e : Bool) (n : ℕ) → here_len e ≡ Some n → (e ≡ true) × (n ≡ 0)
here_zero true n h = (refl, let z = some_same 0 n h in sym z)
here_zero false n h = absurd cc

shape_by : (sh : Shape) (s : Spot) (before b : ℕ) (bs : List ℕ) (n : ℕ) → ShapeFits sh s before → (t : Bool)
    → is_stuck (step sh s b) ≡ t → (o : Option ℕ) → shape_len sh (step sh s b) bs ≡ o
    → ((k : ℕ) → o ≡ Some k → cuts b bs k ≡ true) → cond t (here_len (may_end sh s))
    (or_else (add_to 1 o) (here_len (may_end sh s))) ≡ Some n → cuts before (b ∷ bs) n ≡ true
shape_by sh s before b bs n f true e o p ih h =
    let z = here_zero (may_end sh s) n h in
    rw z.1 (end_cuts sh s before b bs f z.0 (inl e))
shape_by sh s before b bs n f false e None p ih h =
    let z = here_zero (may_end sh s) n h in
    rw z.1 (end_cuts sh s before b bs f z.0 (inr p))
shape_by sh s before b bs n f false e (Some k) p ih h =
    let more = some_same (1 + k) n h in
    cuts_next before b bs k n (omega arith) (ih k refl)

pub shape_cuts : (sh : Shape) (s : Spot) (before : ℕ) (bs : List ℕ) (n : ℕ) → ShapeFits sh s before → shape_len sh s bs ≡ Some n → cuts before bs n ≡ true
shape_cuts sh s before [] n f h = let z = here_zero (may_end sh s) n h in rw z.1 (or_true (small before))
shape_cuts sh s before (b ∷ bs) n f h = shape_by sh s before b bs n f (is_stuck (step sh s b)) refl
    (shape_len sh (step sh s b) bs) refl (λ k p. shape_cuts sh (step sh s b) b bs k (next_fits sh s b) p) h

pub small_fits : (sh : Shape) (s : Spot) (before : ℕ) → small before ≡ true → ShapeFits sh s before
small_fits shape.Name s before h = tt
small_fits shape.Decimal s before h = λ e. h
small_fits shape.Octal s before h = λ e. h
small_fits shape.Hexadecimal s before h = λ e. h
small_fits shape.Binary s before h = λ e. h
small_fits shape.Digits s before h = λ e. h
small_fits shape.Float s before h = λ e. h
small_fits shape.HeredocLine s before h = λ e. h
