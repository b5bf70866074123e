-- The end of a heredoc before other bytes, and the pieces before it.
use Rattle.std.proofs.Common.{
  ◌≡◌,
  ℕ,
  suc,
  ◌+◌,
  Bool,
  true,
  false,
  cond,
  ◌||◌,
  nat_eq,
  List,
  [],
  ◌∷◌,
  ◌++◌,
  length,
  Option,
  Some,
  None,
  refl,
  sym,
  ap,
  ◌∙◌,
  subst,
  append_assoc,
  arith,
}
use Rattle.std.proofs.lemmas.Bool.{and_parts, eqb-true}
use Rattle.std.proofs.lemmas.Bool.Decides.{nat_tests}
use Rattle.std.proofs.Math.Seq.{drop-append_seam}
use Rattle.php_tree.specs.declared.version.Version.{Version}
use Rattle.php_spellings.specs.declared.table.Kind.{Kind}
use Rattle.php_spellings.specs.declared.table.Kind.TheVariants.{QuotedEnd}
use Rattle.php_spellings.specs.declared.table.Mark.TheVariants.{Here}
use Rattle.php_spellings.specs.declared.table.State.{State}
use Rattle.php_spellings.specs.declared.table.State.TheVariants.{First}
use Rattle.php_spellings.specs.declared.table.Run.TheVariants.{Body}
use Rattle.php_spellings.specs.Bytes.{as_it_is, is_blank_byte, is_line_end, is_letter, is_empty, lower, starts}
use Rattle.php_lexer.specs.Heredocs.{led, no_more, no_label, begins_label, ends_heredoc, is_last_label, is_end_line}
use Rattle.php_lexer.specs.Tails.{begins_part, moved}
use Rattle.php_lexer.specs.RulesQuoted.{from_line}
use Rattle.php_lexer.specs.Modes.{quoted, IsLongest}
use Rattle.php_lexer.specs.Scan.{scan, end_line_len, last_label_len, add_to, longer}
use Rattle.php_relexing.specs.Labels.{all_label, is_label}
use Rattle.php_relexing.specs.HeredocEnds.{HeredocEndsStay, PiecesStayBeforeLabels}
use Rattle.php_relexing.proofs.HeredocFronts.{Ends, Stopper, ends_same, skip_by}
use Rattle.php_relexing.proofs.PieceRuns.{piece_len}
use Rattle.php_relexing.proofs.Pieces.{state_behind, piece_of, piece_is, SameEnds, LastFits, over}
use Rattle.php_relexing.proofs.PieceLaws.{in_by, label_ok}
use Rattle.php_relexing.proofs.Picked.{longest_meets}
use Rattle.php_relexing.proofs.Scanned.{found, longest_of}

-- ---- the text of a label

starts_self : (l s : List ℕ) → starts l (l ++ s) ≡ true
starts_self [] s = refl
starts_self (a ∷ l) s = let same : nat_eq a a ≡ true = grind (arith, nat_tests) in rw (same, starts_self l s) refl

empty_is : (t : List ℕ) → is_empty t ≡ true → t ≡ []
empty_is [] h = refl
empty_is (b ∷ t) h = absurd cc

led_same : (l t r : List ℕ) → led as_it_is l (no_more no_label) t r ≡ true → t ≡ l
led_same [] t r h = empty_is t (and_parts (is_empty t) (no_label r) h).0
led_same (a ∷ l) [] r h = absurd cc
led_same (a ∷ l) (b ∷ t) r h =
    let (here, more) = and_parts (nat_eq a b) (led as_it_is l (no_more no_label) t r) h in
    ap (λ (x : ℕ). x ∷ t) (sym (eqb-true a b here)) ∙ ap (λ (u : List ℕ). a ∷ u) (led_same l t r more)

-- the line that ends the heredoc, before other bytes
pub record EndLine (label t s : List ℕ) : Type 0 where
  pub len : end_line_len label (t ++ s) ≡ Some (length t)
  pub ends : ends_heredoc label (t ++ s) ≡ true

last_len : (a : ℕ) (l s : List ℕ) → no_label s ≡ true → last_label_len (a ∷ l) (a ∷ l ++ s) ≡ Some (suc (length l))
last_len a l s e =
    let same : nat_eq a a ≡ true = grind (arith, nat_tests) in
    let size : suc (length l) + 0 ≡ suc (length l) = omega arith in
    rw (same, starts_self l s, drop-append_seam l s, e, size) refl

label_begins : (a : ℕ) (l s : List ℕ) → no_label s ≡ true → begins_label (a ∷ l) (a ∷ l ++ s) ≡ true
label_begins a l s e =
    let same : nat_eq a a ≡ true = grind (arith, nat_tests) in
    rw (same, starts_self l s, drop-append_seam l s, e) refl

last_line : (a : ℕ) (l s : List ℕ) → no_label s ≡ true → is_blank_byte a ≡ false → EndLine (a ∷ l) (a ∷ l) s
last_line a l s e blank = record {
  len = rw blank (last_len a l s e);
  ends = ap (begins_label (a ∷ l)) (skip_by a (l ++ s) false blank) ∙ label_begins a l s e;
}

last_by : (label : List ℕ) (b : ℕ) (t r s : List ℕ) → no_label s ≡ true → is_blank_byte b ≡ false → is_last_label label (b ∷ t) r ≡ true → EndLine label (b ∷ t) s
last_by [] b t r s e blank h = absurd cc
last_by (a ∷ l) b t r s e blank h =
    let same = led_same (a ∷ l) (b ∷ t) r h in
    subst (λ (u : List ℕ). EndLine u (b ∷ t) s) same (last_line b t s e blank)

line_by : (label : List ℕ) (b : ℕ) (t r s : List ℕ) → no_label s ≡ true
    → (is_end_line label t r ≡ true → EndLine label t s) → (x : Bool) → is_blank_byte b ≡ x
    → cond x (is_end_line label t r) (is_last_label label (b ∷ t) r) ≡ true → EndLine label (b ∷ t) s
line_by label b t r s e ih true p h =
    let is = ih h in
    let one : 1 + length t ≡ suc (length t) = omega arith in
    record { len = rw (p, is.len, one) refl; ends = ap (begins_label label) (skip_by b (t ++ s) true p) ∙ is.ends }
line_by label b t r s e ih false p h = last_by label b t r s e p h

end_line : (label t r s : List ℕ) → no_label s ≡ true → is_end_line label t r ≡ true → EndLine label t s
end_line label [] r s e h = absurd cc
end_line label (b ∷ t) r s e h = line_by label b t r s e (end_line label t r s e) (is_blank_byte b) refl h

-- ---- the closing label

-- the first byte of the line begins no part
pub record NoPart (b : ℕ) : Type 0 where
  pub dollar : nat_eq 36 (lower b) ≡ false
  pub brace : nat_eq 123 (lower b) ≡ false

blank_apart : (b : ℕ) → is_blank_byte b ≡ true → NoPart b
blank_apart b h = record { dollar = grind (arith, nat_tests); brace = grind (arith, nat_tests) }

letter_apart : (b : ℕ) → is_letter b ≡ true → NoPart b
letter_apart b h = record { dollar = grind (arith, nat_tests); brace = grind (arith, nat_tests) }

label_apart : (label : List ℕ) (b : ℕ) (t r : List ℕ) → is_label label ≡ true → is_last_label label (b ∷ t) r ≡ true → NoPart b
label_apart [] b t r h e = absurd cc
label_apart (a ∷ l) b t r h e =
    let (letter, more) = and_parts (is_letter a) (all_label l) h in
    let (here, rest) = and_parts (nat_eq a b) (led as_it_is l (no_more no_label) t r) e in
    letter_apart b (ap is_letter (sym (eqb-true a b here)) ∙ letter)

first_by : (label : List ℕ) (b : ℕ) (t r : List ℕ) → is_label label ≡ true → (x : Bool) → is_blank_byte b ≡ x
    → cond x (is_end_line label t r) (is_last_label label (b ∷ t) r) ≡ true → NoPart b
first_by label b t r h true p e = blank_apart b p
first_by label b t r h false p e = label_apart label b t r h e

end_scan : (w : Version) (label : List ℕ) (b : ℕ) (bs : List ℕ) (n : ℕ) → NoPart b
    → ends_heredoc label (b ∷ bs) ≡ true → end_line_len label (b ∷ bs) ≡ Some n
    → scan w (quoted Here label true) (b ∷ bs) ≡ longer QuotedEnd (add_to 0 (end_line_len label (b ∷ bs))) None
end_scan w label b bs n apart ends len = rw (apart.dollar, apart.brace, ends) refl

end_row : (n : ℕ) → longer QuotedEnd (add_to 0 (Some n)) None ≡ found QuotedEnd n
end_row n = let same : 0 + n ≡ n = omega arith in rw same refl

abbrev is_end : Kind → Bool
is_end QuotedEnd = true
is_end _ = false

or_none : (x : Bool) → (x || false) ≡ true → x ≡ true
or_none true h = refl
or_none false h = absurd cc

end_is : (w : Version) (label t r s : List ℕ) → is_label label ≡ true → no_label s ≡ true
    → is_end_line label t r ≡ true → IsLongest w (quoted Here label true) (t ++ s) QuotedEnd (length t)
end_is w label [] r s h e k = absurd cc
end_is w label (b ∷ t) r s h e k =
    let is = end_line label (b ∷ t) r s e k in
    let apart = first_by label b t r h (is_blank_byte b) refl k in
    longest_of w (quoted Here label true) (b ∷ t ++ s) QuotedEnd (suc (length t))
    (end_scan w label b (t ++ s) (suc (length t)) apart is.ends is.len ∙ ap (λ (o : Option ℕ). longer QuotedEnd (add_to 0 o) None) is.len ∙ end_row (suc (length t)))

pub heredoc_ends_stay : HeredocEndsStay
heredoc_ends_stay v w label t r s h e l = end_is w label t r s h e (or_none _ (longest_meets is_end v (quoted Here label true) t r QuotedEnd refl l))

-- ---- pieces before it

line_stops : (e : ℕ) → is_line_end e ≡ true → Stopper e
line_stops e h = record { label = grind (arith, nat_tests); blank = grind (arith, nat_tests) }

line_part : (e : ℕ) (s : List ℕ) → is_line_end e ≡ true → begins_part e s ≡ false
line_part e s h =
    let dollar : nat_eq e 36 ≡ false = grind (arith, nat_tests) in
    let brace : nat_eq e 123 ≡ false = grind (arith, nat_tests) in
    rw (dollar, brace) refl

module _ (label : List ℕ) (e : ℕ) (r s : List ℕ) (labelled : is_label label ≡ true) (is_e : is_line_end e ≡ true) where
  line_same : (y : List ℕ) → SameEnds Here label r s (y ++ e ∷ [])
  line_same y =
      ap (ends_heredoc label) (append_assoc y (e ∷ []) r)
      ∙ ends_same e e r s (line_stops e is_e) (line_stops e is_e) label (label_ok label labelled) y
      ∙ sym (ap (ends_heredoc label) (append_assoc y (e ∷ []) s))

  all_ends : (x : List ℕ) → Ends (SameEnds Here label r s) (x ++ e ∷ [])
  all_ends [] = (line_same [], tt)
  all_ends (b ∷ x) = (line_same (b ∷ x), all_ends x)

  last_fits : (st : State) (x : List ℕ) → LastFits Here label st (x ++ e ∷ []) r s
  last_fits st [] = in_by Here label st e r s (line_same []) (λ p q. line_part e s is_e)
  last_fits st (b ∷ []) = last_fits (moved (Body Here) st b) []
  last_fits st (b ∷ c ∷ x) = last_fits (moved (Body Here) st b) (c ∷ x)

  line_first : (st : State) (x : List ℕ) → state_behind Here st (x ++ e ∷ []) ≡ First
  line_first st [] = rw is_e refl
  line_first st (b ∷ x) = line_first (moved (Body Here) st b) x

first_stops : (label s : List ℕ) → ends_heredoc label s ≡ true → piece_len Here label First s ≡ 0
first_stops label [] h = refl
first_stops label (c ∷ s) h = rw h refl

filled : (x : List ℕ) (e : ℕ) → is_empty (x ++ e ∷ []) ≡ false
filled [] e = refl
filled (b ∷ x) e = refl

pub pieces_stay_before_labels : PiecesStayBeforeLabels
pieces_stay_before_labels v w label fresh x e r s labelled is_e ends h =
    let is = piece_of v Here label fresh (x ++ e ∷ []) r h in
    piece_is w Here label fresh (x ++ e ∷ []) s (filled x e) (record {
      run = over Here label (from_line fresh) (x ++ e ∷ []) r s (all_ends label e r s labelled is_e x) (last_fits label e r s labelled is_e (from_line fresh) x) is.run;
      stops = ap (λ (st : State). piece_len Here label st s) (line_first label e r s labelled is_e (from_line fresh) x) ∙ first_stops label s ends;
    })
