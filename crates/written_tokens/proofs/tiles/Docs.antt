-- `<<` and the word `b`, before `<`: what goes on so makes no heredoc and no nowdoc of them.
use Rattle.std.proofs.Common.{◌≡◌, ℕ, ◌+◌, Bool, true, false, cond, not, ◌&&◌, nat_eq, nat_le, nat_lt, List, [], ◌∷◌, drop, Option, Some, None, refl, sym, ap, ◌∙◌, subst, arith}
use Rattle.std.proofs.lemmas.Bool.{eqb-true, not-true}
use Rattle.std.proofs.lemmas.Bool.Decides.{nat_tests}
use Rattle.php_tree.specs.declared.version.Version.TheVariants.{V74}
use Rattle.php_spellings.specs.declared.table.Kind.{Kind}
use Rattle.php_spellings.specs.declared.table.Kind.TheVariants.{Word, HeredocStart, Op}
use Rattle.php_spellings.specs.declared.table.Shape.TheVariants as shape
use Rattle.php_spellings.specs.declared.table.Spot.TheVariants.{Begin}
use Rattle.php_spellings.specs.Bytes.{is_letter, is_label_byte, lower, begins, begins_by}
use Rattle.php_lexer.specs.Heredocs.{begins_nowdoc}
use Rattle.php_lexer.specs.Letters.{letter_rows}
use Rattle.php_lexer.specs.Modes.{code, IsLongest}
use Rattle.php_lexer.specs.Scan.{scan, scan_by, shape_len, add_to, longer}
use Rattle.php_lexer.proofs.Dispatch.{other_head, letter_scan, older_scan}
use Rattle.php_relexing.specs.Angles.{less_ends}
use Rattle.php_relexing.proofs.Angles.{angles_stay}
use Rattle.php_relexing.proofs.Operators.{is_op}
use Rattle.php_relexing.proofs.Picked.{longest_meets}
use Rattle.php_relexing.proofs.Scanned.{found, scan_of, longest_of}
use Rattle.php_relexing.proofs.Words.{letter_hash}
use Rattle.written_tokens.proofs.tiles.Behind.{longer_in, or_none}
use Rattle.written_tokens.proofs.tiles.Onward.{Onward, NoDoc, is_some, no_doc, less_tail}

none_is : (o : Option ℕ) → is_some o ≡ false → o ≡ None
none_is None h = refl
none_is (Some n) h = absurd cc

-- ---- `<<`

doc_scan : (bs : List ℕ) → begins_nowdoc bs ≡ false → scan V74 code (60 ∷ 60 ∷ 60 ∷ bs) ≡ longer HeredocStart
    (add_to 3 (shape_len shape.HeredocLine Begin bs)) (longer Op (Some 1) (Some (Op, 2)))
doc_scan bs h = rw h refl

abbrev op_found : Option (Kind × ℕ) → Bool
op_found None = false
op_found (Some x) = is_op x.0

three_more : (n : ℕ) → nat_lt (3 + n) 2 ≡ false
three_more n = grind (arith, nat_tests)

start_found : (o : Option ℕ) → op_found (longer HeredocStart (add_to 3 o) (longer Op (Some 1) (Some (Op, 2)))) ≡ true → is_some o ≡ false
start_found None h = refl
start_found (Some n) h = absurd (let clash : false ≡ true = rw (three_more n) at h in cc)

shift_no_doc : (r : List ℕ) → IsLongest V74 code (60 ∷ 60 ∷ 60 ∷ r) Op 2 → NoDoc r
shift_no_doc r h =
    let one : not (begins_nowdoc r) ≡ true = or_none _ (longest_meets is_op V74 code (60 ∷ 60 ∷ []) (60 ∷ r) Op refl h) in
    let nowdoc = not-true (begins_nowdoc r) one in
    record {
      nowdoc = nowdoc;
      heredoc = start_found (shape_len shape.HeredocLine Begin r) (ap op_found (sym (doc_scan r nowdoc) ∙ scan_of V74 code (60 ∷ 60 ∷ 60 ∷ r) Op 2 h));
    }

shift_found : (bs : List ℕ) → NoDoc bs → scan V74 code (60 ∷ 60 ∷ 60 ∷ bs) ≡ found Op 2
shift_found bs h = doc_scan bs h.nowdoc ∙ rw (none_is (shape_len shape.HeredocLine Begin bs) h.heredoc) refl

-- bytes that begin with `<`
cut_less : (s : List ℕ) → begins_by 60 s ≡ true → s ≡ 60 ∷ drop 1 s
cut_less [] h = absurd cc
cut_less (c ∷ s) h = ap (λ (x : ℕ). x ∷ s) (eqb-true c 60 h)

shift_thrice : (r s : List ℕ) → Onward r s → begins_by 60 s ≡ true → IsLongest V74 code (60 ∷ 60 ∷ r) Op 2 → IsLongest V74 code (60 ∷ 60 ∷ s) Op 2
shift_thrice r s more e h =
    let (first, tail) = less_tail more e in
    let old : IsLongest V74 code (60 ∷ 60 ∷ 60 ∷ drop 1 r) Op 2 = subst (λ (x : List ℕ). IsLongest V74 code (60 ∷ 60 ∷ x) Op 2) (cut_less r first) h in
    let new = longest_of V74 code (60 ∷ 60 ∷ 60 ∷ drop 1 s) Op 2 (shift_found (drop 1 s) (no_doc tail (shift_no_doc (drop 1 r) old))) in
    subst (λ (x : List ℕ). IsLongest V74 code (60 ∷ 60 ∷ x) Op 2) (sym (cut_less s e)) new

shift_ends : (s : List ℕ) → begins_by 61 s ≡ false → begins_by 60 s ≡ false → less_ends (60 ∷ []) s ≡ true
shift_ends s e f = rw (e, f) refl

pub shift_stays : (r s : List ℕ) → Onward r s → begins_by 61 s ≡ false → IsLongest V74 code (60 ∷ 60 ∷ r) Op 2 → IsLongest V74 code (60 ∷ 60 ∷ s) Op 2
shift_stays r s more e h = by_less (begins_by 60 s) refl
  where
    by_less : (x : Bool) → begins_by 60 s ≡ x → IsLongest V74 code (60 ∷ 60 ∷ s) Op 2
    by_less true f = shift_thrice r s more f h
    by_less false f = angles_stay V74 V74 (60 ∷ []) r s (shift_ends s e f) h

-- ---- `b` alone

abbrev is_word : Kind → Bool
is_word Word = true
is_word _ = false

abbrev word_found : Option (Kind × ℕ) → Bool
word_found None = false
word_found (Some x) = is_word x.0

one_less : (n : ℕ) → nat_lt 1 (4 + n) ≡ true
one_less n = grind (arith, nat_tests)

doc_found : (o : Option ℕ) → word_found (longer Word (Some 1) (longer HeredocStart (add_to 4 o) None)) ≡ true → is_some o ≡ false
doc_found None h = refl
doc_found (Some n) h = absurd (let clash : false ≡ true = rw (one_less n) at h in cc)

-- the word `b`, in one case, before other bytes
pub record Alone (b : ℕ) : Type 0 where
  letter : is_letter b ≡ true
  end_ : scan_by [] letter_rows (b ∷ []) ≡ found Word 1
  other : (c : ℕ) (s : List ℕ) → is_label_byte c ≡ false → nat_eq c 39 ≡ false → nat_eq 39 (lower c) ≡ false
      → nat_eq 34 (lower c) ≡ false → nat_eq 60 (lower c) ≡ false → scan_by [] letter_rows (b ∷ c ∷ s) ≡ found Word 1
  less : (s : List ℕ) → begins_by 60 s ≡ false → scan_by [] letter_rows (b ∷ 60 ∷ s) ≡ found Word 1
  shift : (s : List ℕ) → begins_by 60 s ≡ false → scan_by [] letter_rows (b ∷ 60 ∷ 60 ∷ s) ≡ found Word 1
  doc : (s : List ℕ) → begins_nowdoc s ≡ false → shape_len shape.HeredocLine Begin s ≡ None → scan_by [] letter_rows (b ∷ 60 ∷ 60 ∷ 60 ∷ s) ≡ found Word 1
  row : (s : List ℕ) → begins_nowdoc s ≡ false → scan_by [] letter_rows (b ∷ 60 ∷ 60 ∷ 60 ∷ s) ≡ longer Word (Some 1)
      (longer HeredocStart (add_to 4 (shape_len shape.HeredocLine Begin s)) None)
  single : (r : List ℕ) → IsLongest V74 code (b ∷ 39 ∷ r) Word 1 → ⊥
  double : (r : List ℕ) → IsLongest V74 code (b ∷ 34 ∷ r) Word 1 → ⊥
  nowdoc : (r : List ℕ) → IsLongest V74 code (b ∷ 60 ∷ 60 ∷ 60 ∷ r) Word 1 → begins_nowdoc r ≡ false

-- ---- `b`

small_less : (s : List ℕ) → begins_by 60 s ≡ false → scan_by [] letter_rows (98 ∷ 60 ∷ s) ≡ found Word 1
small_less [] e = refl
small_less (c ∷ s) e = rw (other_head 60 c refl e) refl

small_shift : (s : List ℕ) → begins_by 60 s ≡ false → scan_by [] letter_rows (98 ∷ 60 ∷ 60 ∷ s) ≡ found Word 1
small_shift [] e = refl
small_shift (c ∷ s) e = rw (other_head 60 c refl e) refl

small_b : Alone 98
small_b = record {
  letter = refl;
  end_ = refl;
  other = λ c s k p q t u. rw (k, p, q, t, u) refl;
  less = small_less;
  shift = small_shift;
  doc = λ s n h. rw (n, h) refl;
  row = λ s n. rw n refl;
  single = λ r h. let e = longest_meets is_word V74 code (98 ∷ []) (39 ∷ r) Word refl h in cc;
  double = λ r h. let e = longer_in code 98 34 [] r Word h in cc;
  nowdoc = λ r h. not-true (begins_nowdoc r) (or_none _ (longest_meets is_word V74 code (98 ∷ []) (60 ∷ 60 ∷ 60 ∷ r) Word refl h));
}

-- ---- `B`

large_less : (s : List ℕ) → begins_by 60 s ≡ false → scan_by [] letter_rows (66 ∷ 60 ∷ s) ≡ found Word 1
large_less [] e = refl
large_less (c ∷ s) e = rw (other_head 60 c refl e) refl

large_shift : (s : List ℕ) → begins_by 60 s ≡ false → scan_by [] letter_rows (66 ∷ 60 ∷ 60 ∷ s) ≡ found Word 1
large_shift [] e = refl
large_shift (c ∷ s) e = rw (other_head 60 c refl e) refl

large_b : Alone 66
large_b = record {
  letter = refl;
  end_ = refl;
  other = λ c s k p q t u. rw (k, p, q, t, u) refl;
  less = large_less;
  shift = large_shift;
  doc = λ s n h. rw (n, h) refl;
  row = λ s n. rw n refl;
  single = λ r h. let e = longest_meets is_word V74 code (66 ∷ []) (39 ∷ r) Word refl h in cc;
  double = λ r h. let e = longer_in code 66 34 [] r Word h in cc;
  nowdoc = λ r h. not-true (begins_nowdoc r) (or_none _ (longest_meets is_word V74 code (66 ∷ []) (60 ∷ 60 ∷ 60 ∷ r) Word refl h));
}

-- ---- either

alone_by : (b : ℕ) (t : Bool) → (nat_le 65 b && nat_le b 90) ≡ t → cond t (b + 32) b ≡ 98 → Alone b
alone_by b true e h = subst Alone (sym (shifted b h)) large_b
  where
    shifted : (b : ℕ) → b + 32 ≡ 98 → b ≡ 66
    shifted b h = omega arith
alone_by b false e h = subst Alone (sym h) small_b

alone : (b : ℕ) → lower b ≡ 98 → Alone b
alone b h = alone_by b (nat_le 65 b && nat_le b 90) refl h

drop_two : (s : List ℕ) → drop 1 (drop 1 s) ≡ drop 2 s
drop_two [] = refl
drop_two (c ∷ []) = refl
drop_two (c ∷ d ∷ s) = refl

drop_three : (s : List ℕ) → drop 1 (drop 1 (drop 1 s)) ≡ drop 3 s
drop_three [] = refl
drop_three (c ∷ []) = refl
drop_three (c ∷ d ∷ []) = refl
drop_three (c ∷ d ∷ e ∷ s) = refl

module _ (b : ℕ) (is : Alone b) where
  b_second : (s : List ℕ) → (begins_by 60 s ≡ true → begins_by 60 (drop 1 s) ≡ true → NoDoc (drop 2 s)) → (x y : Bool)
      → begins_by 60 s ≡ x → begins_by 60 (drop 1 s) ≡ y → scan_by [] letter_rows (b ∷ 60 ∷ s) ≡ found Word 1
  b_second s f false y e g = is.less s e
  b_second s f true false e g = subst (λ (t : List ℕ). scan_by [] letter_rows (b ∷ 60 ∷ t) ≡ found Word 1) (sym (cut_less s e)) (is.shift (drop 1 s) g)
  b_second s f true true e g =
      let whole : s ≡ 60 ∷ 60 ∷ drop 1 (drop 1 s) = cut_less s e ∙ ap (λ (t : List ℕ). 60 ∷ t) (cut_less (drop 1 s) g) in
      let none : NoDoc (drop 1 (drop 1 s)) = subst NoDoc (sym (drop_two s)) (f e g) in
      subst (λ (t : List ℕ). scan_by [] letter_rows (b ∷ 60 ∷ t) ≡ found Word 1) (sym whole)
      (is.doc (drop 1 (drop 1 s)) none.nowdoc (none_is (shape_len shape.HeredocLine Begin (drop 1 (drop 1 s))) none.heredoc))

  b_first : (c : ℕ) (s : List ℕ) → is_label_byte c ≡ false → nat_eq c 39 ≡ false → nat_eq c 34 ≡ false
      → (nat_eq c 60 ≡ true → begins_by 60 s ≡ true → begins_by 60 (drop 1 s) ≡ true → NoDoc (drop 2 s)) → (x : Bool)
      → nat_eq c 60 ≡ x → scan_by [] letter_rows (b ∷ c ∷ s) ≡ found Word 1
  b_first c s k p q f false e = is.other c s k p (other_head 39 c refl p) (other_head 34 c refl q) (other_head 60 c refl e)
  b_first c s k p q f true e =
      subst (λ (x : ℕ). scan_by [] letter_rows (b ∷ x ∷ s) ≡ found Word 1) (sym (eqb-true c 60 e)) (b_second s (f e) (begins_by 60 s) (begins_by 60 (drop 1 s)) refl refl)

  b_found : (s : List ℕ) → begins is_label_byte s ≡ false → begins_by 39 s ≡ false → begins_by 34 s ≡ false
      → (begins_by 60 s ≡ true → begins_by 60 (drop 1 s) ≡ true → begins_by 60 (drop 2 s) ≡ true → NoDoc (drop 3 s))
      → scan_by [] letter_rows (b ∷ s) ≡ found Word 1
  b_found [] k p q f = is.end_
  b_found (c ∷ s) k p q f = b_first c s k p q f (nat_eq c 60) refl

  scan_b : (s : List ℕ) → scan V74 code (b ∷ s) ≡ scan_by [] letter_rows (b ∷ s)
  scan_b s = older_scan b s (letter_hash b is.letter) ∙ letter_scan b s is.letter

  source_doc : (r : List ℕ) → IsLongest V74 code (b ∷ 60 ∷ 60 ∷ 60 ∷ r) Word 1 → NoDoc r
  source_doc r h =
      let nowdoc = is.nowdoc r h in
      let scanned = sym (scan_b (60 ∷ 60 ∷ 60 ∷ r) ∙ is.row r nowdoc) ∙ scan_of V74 code (b ∷ 60 ∷ 60 ∷ 60 ∷ r) Word 1 h in
      record { nowdoc = nowdoc; heredoc = doc_found (shape_len shape.HeredocLine Begin r) (ap word_found scanned) }

  not_begun : (y : ℕ) (r : List ℕ) → ((t : List ℕ) → IsLongest V74 code (b ∷ y ∷ t) Word 1 → ⊥) → IsLongest V74 code (b ∷ r) Word 1 → begins_by y r ≡ false
  not_begun y [] f h = refl
  not_begun y (c ∷ r) f h = by_case (nat_eq c y) refl
    where
      by_case : (x : Bool) → nat_eq c y ≡ x → x ≡ false
      by_case false e = refl
      by_case true e = absurd (f r (subst (λ (x : ℕ). IsLongest V74 code (b ∷ x ∷ r) Word 1) (eqb-true c y e) h))

  pub single_behind : (r : List ℕ) → IsLongest V74 code (b ∷ r) Word 1 → begins_by 39 r ≡ false
  single_behind r h = not_begun 39 r is.single h

  pub double_behind : (r : List ℕ) → IsLongest V74 code (b ∷ r) Word 1 → begins_by 34 r ≡ false
  double_behind r h = not_begun 34 r is.double h

  -- where `<<<` follows what is written, it follows in the source
  doc_behind : (r s : List ℕ) → Onward r s → IsLongest V74 code (b ∷ r) Word 1 → begins_by 60 s ≡ true
      → begins_by 60 (drop 1 s) ≡ true → begins_by 60 (drop 2 s) ≡ true → NoDoc (drop 3 s)
  doc_behind r s more h e f g =
      let (one, tail) = less_tail more e in
      let (two, next) = less_tail tail f in
      let (three, last) = less_tail next (ap (begins_by 60) (drop_two s) ∙ g) in
      let whole : r ≡ 60 ∷ 60 ∷ 60 ∷ drop 1 (drop 1 (drop 1 r)) =
      cut_less r one ∙ ap (λ (t : List ℕ). 60 ∷ t) (cut_less (drop 1 r) two ∙ ap (λ (t : List ℕ). 60 ∷ t) (cut_less (drop 1 (drop 1 r)) three)) in
      let old = source_doc (drop 1 (drop 1 (drop 1 r))) (subst (λ (t : List ℕ). IsLongest V74 code (b ∷ t) Word 1) whole h) in
      subst NoDoc (drop_three s) (no_doc last old)

  stays_alone : (r s : List ℕ) → Onward r s → begins is_label_byte s ≡ false → begins_by 39 s ≡ false
      → begins_by 34 s ≡ false → IsLongest V74 code (b ∷ r) Word 1 → IsLongest V74 code (b ∷ s) Word 1
  stays_alone r s more k p q h =
      longest_of V74 code (b ∷ s) Word 1
      (scan_b s ∙ b_found s k p q (doc_behind r s more h))

pub b_behind : (b : ℕ) (r : List ℕ) → lower b ≡ 98 → IsLongest V74 code (b ∷ r) Word 1 → (begins_by 39 r ≡ false) × (begins_by 34 r ≡ false)
b_behind b r e h = (single_behind b (alone b e) r h, double_behind b (alone b e) r h)

-- A word `b` alone stays where neither a label nor a quote follows.
pub b_stays : (b : ℕ) (r s : List ℕ) → lower b ≡ 98 → Onward r s → begins is_label_byte s ≡ false
    → begins_by 39 s ≡ false → begins_by 34 s ≡ false → IsLongest V74 code (b ∷ r) Word 1
    → IsLongest V74 code (b ∷ s) Word 1
b_stays b r s e more k p q h = stays_alone b (alone b e) r s more k p q h
