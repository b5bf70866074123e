-- The body of a nowdoc before other bytes.
use Rattle.std.proofs.Common.{◌≡◌, ℕ, suc, ◌+◌, Bool, true, false, cond, ◌&&◌, nat_eq, List, [], ◌∷◌, ◌++◌, length, Some, refl, sym, ap, ◌∙◌, subst, append_assoc, arith}
use Rattle.std.proofs.lemmas.Bool.{and_parts}
use Rattle.std.proofs.lemmas.Bool.Decides.{nat_tests}
use Rattle.std.proofs.Math.Seq.{drop-append_seam}
use Rattle.php_spellings.specs.Bytes.{as_it_is, is_blank_byte, is_line_end, is_empty}
use Rattle.php_lexer.specs.Heredocs.{led, no_more, no_label, ends_heredoc, is_last_label, is_end_line, is_body}
use Rattle.php_lexer.specs.Scan.{last_label_len, end_line_len, body_len}
use Rattle.php_relexing.specs.Labels.{is_label}
use Rattle.php_relexing.proofs.HeredocFronts.{Stopper, ends_same}
use Rattle.php_relexing.proofs.PieceLaws.{label_ok}
use Rattle.written_tokens.proofs.texts.Evenly.{dull_line}
use Rattle.written_tokens.proofs.texts.HeredocTails.{last_label, end_line_ends, starts_self}

-- ---- the line that ends it

led_over : (l t r s : List ℕ) → no_label s ≡ true → led as_it_is l (no_more no_label) t r ≡ true → led as_it_is l (no_more no_label) t s ≡ true
led_over [] t r s e h = let (empty, ends) = and_parts (is_empty t) (no_label r) h in rw (empty, e) refl
led_over (a ∷ l) [] r s e h = absurd cc
led_over (a ∷ l) (b ∷ t) r s e h =
    let (here, more) = and_parts (nat_eq a b) (led as_it_is l (no_more no_label) t r) h in
    rw (here, led_over l t r s e more) refl

last_over : (label t r s : List ℕ) → no_label s ≡ true → is_last_label label t r ≡ true → is_last_label label t s ≡ true
last_over [] t r s e h = absurd cc
last_over (a ∷ l) t r s e h = led_over (a ∷ l) t r s e h

line_by : (label : List ℕ) (b : ℕ) (t r s : List ℕ) → no_label s ≡ true
    → (is_end_line label t r ≡ true → is_end_line label t s ≡ true) → (x : Bool)
    → cond x (is_end_line label t r) (is_last_label label (b ∷ t) r) ≡ true
    → cond x (is_end_line label t s) (is_last_label label (b ∷ t) s) ≡ true
line_by label b t r s e ih true h = ih h
line_by label b t r s e ih false h = last_over label (b ∷ t) r s e h

line_over : (label t r s : List ℕ) → no_label s ≡ true → is_end_line label t r ≡ true → is_end_line label t s ≡ true
line_over label [] r s e h = absurd cc
line_over label (b ∷ t) r s e h = line_by label b t r s e (line_over label t r s e) (is_blank_byte b) h

last_len : (label : List ℕ) (b : ℕ) (t s : List ℕ) → is_last_label label (b ∷ t) s ≡ true → last_label_len label (b ∷ t ++ s) ≡ Some (suc (length t))
last_len [] b t s h = absurd cc
last_len (a ∷ l) b t s h =
    let is = last_label (a ∷ l) (b ∷ t) s h in
    subst (λ (u : List ℕ). last_label_len (a ∷ l) (u ++ s) ≡ Some (length u)) (sym is.same) (whole is.ends)
  where
    whole : no_label s ≡ true → last_label_len (a ∷ l) (a ∷ l ++ s) ≡ Some (suc (length l))
    whole e =
        let same : nat_eq a a ≡ true = grind (arith, nat_tests) in
        let size : suc (length l) + 0 ≡ suc (length l) = omega arith in
        rw (same, starts_self l s, drop-append_seam l s, e, size) refl

len_by : (label : List ℕ) (b : ℕ) (t s : List ℕ)
    → (is_end_line label t s ≡ true → end_line_len label (t ++ s) ≡ Some (length t)) → (x : Bool)
    → is_blank_byte b ≡ x → cond x (is_end_line label t s) (is_last_label label (b ∷ t) s) ≡ true
    → end_line_len label (b ∷ t ++ s) ≡ Some (suc (length t))
len_by label b t s ih true p h = let one : 1 + length t ≡ suc (length t) = omega arith in rw (p, ih h, one) refl
len_by label b t s ih false p h = rw p (last_len label b t s h)

line_len : (label t s : List ℕ) → is_end_line label t s ≡ true → end_line_len label (t ++ s) ≡ Some (length t)
line_len label [] s h = absurd cc
line_len label (b ∷ t) s h = len_by label b t s (line_len label t s) (is_blank_byte b) refl h

-- ---- a line end before the last line

record HasLine (y : List ℕ) : Type 0 where
  front : List ℕ
  byte : ℕ
  more : List ℕ
  ends : is_line_end byte ≡ true
  same : y ≡ front ++ byte ∷ more

has_by : (b : ℕ) (y : List ℕ) → (is_line_end b ≡ false → HasLine y) → (t : Bool) → is_line_end b ≡ t → HasLine (b ∷ y)
has_by b y f true e = record { front = []; byte = b; more = y; ends = e; same = refl }
has_by b y f false e =
    let is = f e in
    record { front = b ∷ is.front; byte = is.byte; more = is.more; ends = is.ends; same = ap (λ (u : List ℕ). b ∷ u) is.same }

has_line : (label y r : List ℕ) → is_body label false y r ≡ true → HasLine y
has_line label [] r h = absurd cc
has_line label (b ∷ y) r h = has_by b y (λ e. has_line label y r (subst (λ (t : Bool). is_body label t y r ≡ true) e h)) (is_line_end b) refl

stopper : (e : ℕ) → is_line_end e ≡ true → Stopper e
stopper e h = record { label = (dull_line e h).label; blank = grind (arith, nat_tests) }

-- no line of the body ends the nowdoc in the other bytes
line_apart : (label y r s : List ℕ) → is_label label ≡ true → HasLine y → ends_heredoc label (y ++ r) ≡ ends_heredoc label (y ++ s)
line_apart label y r s named is =
    subst (λ (u : List ℕ). ends_heredoc label (u ++ r) ≡ ends_heredoc label (u ++ s)) (sym is.same)
    (ap (ends_heredoc label) (append_assoc is.front (is.byte ∷ is.more) r)
    ∙ ends_same is.byte is.byte (is.more ++ r) (is.more ++ s) (stopper is.byte is.ends) (stopper is.byte is.ends) label (label_ok label named) is.front
    ∙ sym (ap (ends_heredoc label) (append_assoc is.front (is.byte ∷ is.more) s)))

-- ---- the whole body

both : (x y : Bool) → (x && y) ≡ true → x ≡ true
both x y h = (and_parts x y h).0

module _ (label r s : List ℕ) (named : is_label label ≡ true) (stops : no_label s ≡ true) where
  last_line : (fresh : Bool) (b : ℕ) (y : List ℕ) → fresh ≡ true → is_end_line label (b ∷ y) r ≡ true → body_len label fresh (b ∷ y ++ s) ≡ Some (suc (length y))
  last_line fresh b y e h =
      let there = line_over label (b ∷ y) r s stops h in
      let ends = (end_line_ends label (b ∷ y) s there).line in
      rw (e, ends) (line_len label (b ∷ y) s there)

  next_line : (fresh : Bool) (b : ℕ) (y : List ℕ) → (fresh && ends_heredoc label (b ∷ y ++ r)) ≡ false
      → HasLine (b ∷ y) → body_len label (is_line_end b) (y ++ s) ≡ Some (length y)
      → body_len label fresh (b ∷ y ++ s) ≡ Some (suc (length y))
  next_line fresh b y e is ih =
      let out : (fresh && ends_heredoc label (b ∷ y ++ s)) ≡ false = ap (λ (t : Bool). fresh && t) (sym (line_apart label (b ∷ y) r s named is)) ∙ e in
      let one : 1 + length y ≡ suc (length y) = omega arith in
      rw (out, ih, one) refl

  body_by : (fresh : Bool) (b : ℕ) (y : List ℕ)
      → (is_body label (is_line_end b) y r ≡ true → body_len label (is_line_end b) (y ++ s) ≡ Some (length y))
      → (t : Bool) → (fresh && ends_heredoc label (b ∷ y ++ r)) ≡ t
      → cond t (is_end_line label (b ∷ y) r) (is_body label (is_line_end b) y r) ≡ true
      → body_len label fresh (b ∷ y ++ s) ≡ Some (suc (length y))
  body_by fresh b y ih true e h = last_line fresh b y (both fresh (ends_heredoc label (b ∷ y ++ r)) e) h
  body_by fresh b y ih false e h = next_line fresh b y e (has_by b y (λ f. has_line label y r (subst (λ (t : Bool). is_body label t y r ≡ true) f h)) (is_line_end b) refl) (ih h)

  pub body_over : (fresh : Bool) (y : List ℕ) → is_body label fresh y r ≡ true → body_len label fresh (y ++ s) ≡ Some (length y)
  body_over fresh [] h = absurd cc
  body_over fresh (b ∷ y) h = body_by fresh b y (body_over (is_line_end b) y) (fresh && ends_heredoc label (b ∷ y ++ r)) refl h

-- no byte of a label follows the body
end_by : (label : List ℕ) (fresh : Bool) (b : ℕ) (y r : List ℕ)
    → (is_body label (is_line_end b) y r ≡ true → no_label r ≡ true) → (t : Bool)
    → cond t (is_end_line label (b ∷ y) r) (is_body label (is_line_end b) y r) ≡ true → no_label r ≡ true
end_by label fresh b y r ih true h = (end_line_ends label (b ∷ y) r h).stops
end_by label fresh b y r ih false h = ih h

pub body_stops : (label : List ℕ) (fresh : Bool) (y r : List ℕ) → is_body label fresh y r ≡ true → no_label r ≡ true
body_stops label fresh [] r h = absurd cc
body_stops label fresh (b ∷ y) r h = end_by label fresh b y r (body_stops label (is_line_end b) y r) (fresh && ends_heredoc label (b ∷ y ++ r)) h
