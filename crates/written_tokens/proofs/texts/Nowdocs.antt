-- A nowdoc before other bytes.
use Rattle.std.proofs.Common.{
  ◌≡◌,
  ℕ,
  suc,
  ◌+◌,
  Bool,
  true,
  false,
  cond,
  ◌&&◌,
  ◌||◌,
  nat_eq,
  List,
  [],
  ◌∷◌,
  ◌++◌,
  length,
  drop,
  codes,
  Some,
  None,
  refl,
  sym,
  ap,
  ◌∙◌,
  subst,
  append_assoc,
  arith,
}
use Rattle.std.proofs.lemmas.Bool.{and_parts, eqb-true}
use Rattle.std.proofs.lemmas.List.{length-append}
use Rattle.std.proofs.Math.Seq.{drop-append_seam}
use Rattle.php_tree.specs.declared.version.Version.TheVariants.{V74}
use Rattle.php_spellings.specs.declared.table.Kind.{Kind}
use Rattle.php_spellings.specs.declared.table.Kind.TheVariants.{Text}
use Rattle.php_spellings.specs.declared.table.Shape.TheVariants as shape
use Rattle.php_spellings.specs.declared.table.Spot.TheVariants.{Begin}
use Rattle.php_spellings.specs.declared.table.Tail.{Tail}
use Rattle.php_spellings.specs.declared.table.Tail.TheVariants.{UpTo, NowdocRest}
use Rattle.php_spellings.specs.declared.table.Until.TheVariants.{Simple, Closed}
use Rattle.php_spellings.specs.Bytes.{is_blank_byte, is_line_end, begins, lower}
use Rattle.php_lexer.specs.Heredocs.{led, no_label, is_body, begins_nowdoc, nowdoc_label, nowdoc_head, is_nowdoc}
use Rattle.php_lexer.specs.Rules.{is_tail}
use Rattle.php_lexer.specs.Modes.{code, IsLongest}
use Rattle.php_lexer.specs.Scan.{scan, nowdoc_len, body_len, shape_len, add_to}
use Rattle.php_lexer.proofs.Dispatch.{letter_scan, older_scan}
use Rattle.php_relexing.specs.Closed.{is_quote}
use Rattle.php_relexing.proofs.Operators.{mark_same}
use Rattle.php_relexing.proofs.Picked.{longest_meets}
use Rattle.php_relexing.proofs.Scanned.{found, longest_of}
use Rattle.written_tokens.specs.tokens.Stays.{in_quotes}
use Rattle.written_tokens.specs.texts.Heredocs.{NowdocsStay}
use Rattle.written_tokens.proofs.texts.HeredocLines.{b_letter, b_hash}
use Rattle.written_tokens.proofs.texts.NowdocHeads.{all_blank, line, is_line, label_is, head_is, Opened, opened}
use Rattle.written_tokens.proofs.texts.NowdocBodies.{body_over, body_stops}

-- ---- what is scanned

blank_shape : (k u : List ℕ) → all_blank k ≡ true → shape_len shape.HeredocLine Begin (k ++ 39 ∷ u) ≡ None
blank_shape [] u h = refl
blank_shape (b ∷ k) u h =
    let (here, more) = and_parts (is_blank_byte b) (all_blank k) h in
    rw (here, blank_shape k u more) refl

plain_scan : (bs : List ℕ) (n : ℕ) → begins_nowdoc bs ≡ true → shape_len shape.HeredocLine Begin bs ≡ None
    → nowdoc_len bs ≡ Some n → scan V74 code (60 ∷ 60 ∷ 60 ∷ bs) ≡ found Text (3 + n)
plain_scan bs n h e k = rw (k, e, h) refl

binary_scan : (b : ℕ) (bs : List ℕ) (n : ℕ) → lower b ≡ 98 → begins_nowdoc bs ≡ true
    → shape_len shape.HeredocLine Begin bs ≡ None → nowdoc_len bs ≡ Some n
    → scan V74 code (b ∷ 60 ∷ 60 ∷ 60 ∷ bs) ≡ found Text (4 + n)
binary_scan b bs n is h e k =
    older_scan b (60 ∷ 60 ∷ 60 ∷ bs) (b_hash b is)
    ∙ letter_scan b (60 ∷ 60 ∷ 60 ∷ bs) (b_letter b is)
    ∙ rw (b_letter b is, is, k, e, h) refl

-- ---- a text that begins with the first line

-- what is counted of such a text
pub record Counted (bs : List ℕ) (n : ℕ) : Type 0 where
  pub begins_ : begins_nowdoc bs ≡ true
  pub shape_ : shape_len shape.HeredocLine Begin bs ≡ None
  pub len : nowdoc_len bs ≡ Some n

nowdoc_by : (bs : List ℕ) (h : ℕ) (l u : List ℕ) (n : ℕ) → begins_nowdoc bs ≡ true → nowdoc_head bs ≡ h
    → nowdoc_label bs ≡ l → drop h bs ≡ u → body_len l false u ≡ Some n → nowdoc_len bs ≡ Some (h + n)
nowdoc_by bs h l u n begin head label rest body =
    ap (λ (t : Bool). cond t (add_to (nowdoc_head bs) (body_len (nowdoc_label bs) false (drop (nowdoc_head bs) bs))) None) begin
    ∙ ap (λ (i : ℕ). add_to i (body_len (nowdoc_label bs) false (drop i bs))) head
    ∙ ap (λ (v : List ℕ). add_to h (body_len v false (drop h bs))) label
    ∙ ap (λ (v : List ℕ). add_to h (body_len l false v)) rest
    ∙ ap (add_to h) body

-- the first line up to the closing quote of its label
abbrev front : List ℕ → List ℕ → List ℕ
front k l = k ++ 39 ∷ (l ++ 39 ∷ [])

front_line : (k l w : List ℕ) → line k l w ≡ front k l ++ w
front_line k l w =
    ap (λ (u : List ℕ). k ++ 39 ∷ u) (sym (append_assoc l (39 ∷ []) w))
    ∙ sym (append_assoc k (39 ∷ (l ++ 39 ∷ [])) w)

front_len : (k l : List ℕ) → length (front k l) ≡ length k + length l + 2
front_len k l =
    let outer = length-append k (39 ∷ (l ++ 39 ∷ [])) in
    let inner = length-append l (39 ∷ []) in
    omega arith

cons_head : (b c : ℕ) (x y : List ℕ) → b ∷ x ≡ c ∷ y → b ≡ c
cons_head b c x y e = cc

cons_tail : (b c : ℕ) (x y : List ℕ) → b ∷ x ≡ c ∷ y → x ≡ y
cons_tail b c x y e = cc

abbrev is_some : List ℕ → Bool
is_some [] = false
is_some (b ∷ x) = true

-- a text longer than the front begins with it
begins_front : (f x r z : List ℕ) → x ++ r ≡ f ++ z → is_some (drop (length f) x) ≡ true → x ≡ f ++ drop (length f) x
begins_front [] x r z e h = refl
begins_front (c ∷ f) [] r z e h = absurd cc
begins_front (c ∷ f) (b ∷ x) r z e h =
    ap (λ (n : ℕ). n ∷ x) (cons_head b c (x ++ r) (f ++ z) e)
    ∙ ap (λ (u : List ℕ). c ∷ u) (begins_front f x r z (cons_tail b c (x ++ r) (f ++ z) e) h)

some_body : (label : List ℕ) (y r : List ℕ) → is_body label false y r ≡ true → is_some y ≡ true
some_body label [] r h = absurd cc
some_body label (b ∷ y) r h = refl

first_same : (p : ℕ → Bool) (y r s : List ℕ) → is_some y ≡ true → begins p (y ++ r) ≡ begins p (y ++ s)
first_same p [] r s h = absurd cc
first_same p (b ∷ y) r s h = refl

module _ (x r s : List ℕ) (nowdoc : is_nowdoc x r ≡ true) (stops : no_label s ≡ true) where
  begun : begins_nowdoc (x ++ r) ≡ true
  begun = (and_parts (begins_nowdoc (x ++ r)) (is_body (nowdoc_label (x ++ r)) false (drop (nowdoc_head (x ++ r)) x) r) nowdoc).0

  is : Opened (x ++ r)
  is = opened (x ++ r) begun

  head : nowdoc_head (x ++ r) ≡ length (front is.blanks is.label)
  head = ap nowdoc_head is.same ∙ head_is is.blanks is.label is.more is.blank is.named ∙ sym (front_len is.blanks is.label)

  name : nowdoc_label (x ++ r) ≡ is.label
  name = ap nowdoc_label is.same ∙ label_is is.blanks is.label is.more is.blank is.named

  body : List ℕ
  body = drop (length (front is.blanks is.label)) x

  is_body_of : is_body is.label false body r ≡ true
  unfolding body
  is_body_of =
      subst (λ (l : List ℕ). is_body l false (drop (length (front is.blanks is.label)) x) r ≡ true) name
      (subst (λ (n : ℕ). is_body (nowdoc_label (x ++ r)) false (drop n x) r ≡ true) head
      (and_parts (begins_nowdoc (x ++ r)) (is_body (nowdoc_label (x ++ r)) false (drop (nowdoc_head (x ++ r)) x) r) nowdoc).1)

  pub nowdoc_stops : no_label r ≡ true
  nowdoc_stops = body_stops is.label false body r is_body_of

  whole : x ≡ front is.blanks is.label ++ body
  unfolding body
  whole = begins_front (front is.blanks is.label) x r is.more (is.same ∙ front_line is.blanks is.label is.more)
      (some_body is.label (drop (length (front is.blanks is.label)) x) r is_body_of)

  over : (t : List ℕ) → x ++ t ≡ line is.blanks is.label (body ++ t)
  over t = ap (λ (u : List ℕ). u ++ t) whole ∙ append_assoc (front is.blanks is.label) body t ∙ sym (front_line is.blanks is.label (body ++ t))

  more_same : body ++ r ≡ is.more
  more_same =
      sym (drop-append_seam (front is.blanks is.label) (body ++ r))
      ∙ ap (drop (length (front is.blanks is.label)))
      (sym (append_assoc (front is.blanks is.label) body r) ∙ ap (λ (u : List ℕ). u ++ r) (sym whole) ∙ is.same
      ∙ front_line is.blanks is.label is.more)
      ∙ drop-append_seam (front is.blanks is.label) is.more

  ends : begins is_line_end (body ++ s) ≡ true
  ends =
      first_same is_line_end body s r (some_body is.label body r is_body_of)
      ∙ ap (begins is_line_end) more_same
      ∙ is.ends

  begins_there : begins_nowdoc (x ++ s) ≡ true
  begins_there = ap begins_nowdoc (over s) ∙ is_line is.blanks is.label (body ++ s) is.blank is.named ends

  size : length x ≡ length (front is.blanks is.label) + length body
  size = ap length whole ∙ length-append (front is.blanks is.label) body

  len_there : nowdoc_len (x ++ s) ≡ Some (length x)
  len_there =
      nowdoc_by (x ++ s) (length (front is.blanks is.label)) is.label (body ++ s) (length body) begins_there
      (ap nowdoc_head (over s) ∙ head_is is.blanks is.label (body ++ s) is.blank is.named ∙ sym (front_len is.blanks is.label))
      (ap nowdoc_label (over s) ∙ label_is is.blanks is.label (body ++ s) is.blank is.named)
      (ap (drop (length (front is.blanks is.label))) (over s ∙ front_line is.blanks is.label (body ++ s)) ∙ drop-append_seam (front is.blanks is.label) (body ++ s))
      (body_over is.label r s is.named stops false body is_body_of)
      ∙ ap (λ (n : ℕ). Some n) (sym size)

  pub counted : Counted (x ++ s) (length x)
  counted = record {
    begins_ = begins_there;
    shape_ = ap (shape_len shape.HeredocLine Begin) (over s) ∙ blank_shape is.blanks (is.label ++ 39 ∷ (body ++ s)) is.blank;
    len = len_there;
  }

-- ---- the text of a nowdoc

-- `<<<` and what follows it, maybe with `b` in front
pub data NowdocText : ℕ → List ℕ → List ℕ → Type 0 where
  plain : (x r : List ℕ) → is_nowdoc x r ≡ true → NowdocText 60 (60 ∷ 60 ∷ x) r
  binary : (b : ℕ) (x r : List ℕ) → lower b ≡ 98 → is_nowdoc x r ≡ true → NowdocText b (60 ∷ 60 ∷ 60 ∷ x) r

plain_text : (b c d : ℕ) (x r : List ℕ) → (nat_eq 60 (lower b) && (nat_eq 60 (lower c) && (nat_eq 60 (lower d) && is_nowdoc x r))) ≡ true → NowdocText b (c ∷ d ∷ x) r
plain_text b c d x r h =
    let (one, h2) = and_parts (nat_eq 60 (lower b)) (nat_eq 60 (lower c) && (nat_eq 60 (lower d) && is_nowdoc x r)) h in
    let (two, h3) = and_parts (nat_eq 60 (lower c)) (nat_eq 60 (lower d) && is_nowdoc x r) h2 in
    let (three, nowdoc) = and_parts (nat_eq 60 (lower d)) (is_nowdoc x r) h3 in
    subst (λ (n : ℕ). NowdocText n (c ∷ d ∷ x) r) (sym (mark_same 60 b refl one))
    (subst (λ (n : ℕ). NowdocText 60 (n ∷ d ∷ x) r) (sym (mark_same 60 c refl two))
    (subst (λ (n : ℕ). NowdocText 60 (60 ∷ n ∷ x) r) (sym (mark_same 60 d refl three)) (plain x r nowdoc)))

binary_text : (b c d e : ℕ) (x r : List ℕ) → (nat_eq 98 (lower b)
    && (nat_eq 60 (lower c) && (nat_eq 60 (lower d) && (nat_eq 60 (lower e) && is_nowdoc x r)))) ≡ true
    → NowdocText b (c ∷ d ∷ e ∷ x) r
binary_text b c d e x r h =
    let (first, h1) = and_parts (nat_eq 98 (lower b)) (nat_eq 60 (lower c) && (nat_eq 60 (lower d) && (nat_eq 60 (lower e) && is_nowdoc x r))) h in
    let (one, h2) = and_parts (nat_eq 60 (lower c)) (nat_eq 60 (lower d) && (nat_eq 60 (lower e) && is_nowdoc x r)) h1 in
    let (two, h3) = and_parts (nat_eq 60 (lower d)) (nat_eq 60 (lower e) && is_nowdoc x r) h2 in
    let (three, nowdoc) = and_parts (nat_eq 60 (lower e)) (is_nowdoc x r) h3 in
    subst (λ (n : ℕ). NowdocText b (n ∷ d ∷ e ∷ x) r) (sym (mark_same 60 c refl one))
    (subst (λ (n : ℕ). NowdocText b (60 ∷ n ∷ e ∷ x) r) (sym (mark_same 60 d refl two))
    (subst (λ (n : ℕ). NowdocText b (60 ∷ 60 ∷ n ∷ x) r) (sym (mark_same 60 e refl three)) (binary b x r (sym (eqb-true 98 (lower b) first)) nowdoc)))

abbrev Meets : List ℕ → Tail → ℕ → List ℕ → List ℕ → Bool
Meets w t b a r = led lower w (is_tail [] t) (b ∷ a) r

plain_case : (b : ℕ) (a r : List ℕ) → Meets (codes "<<<") NowdocRest b a r ≡ true → NowdocText b a r
plain_case b [] r h = let (one, none) = and_parts (nat_eq 60 (lower b)) false h in absurd cc
plain_case b (c ∷ []) r h =
    let (one, more) = and_parts (nat_eq 60 (lower b)) (nat_eq 60 (lower c) && false) h in
    let (two, none) = and_parts (nat_eq 60 (lower c)) false more in
    absurd cc
plain_case b (c ∷ d ∷ x) r h = plain_text b c d x r h

binary_case : (b : ℕ) (a r : List ℕ) → Meets (codes "b<<<") NowdocRest b a r ≡ true → NowdocText b a r
binary_case b [] r h = let (one, none) = and_parts (nat_eq 98 (lower b)) false h in absurd cc
binary_case b (c ∷ []) r h =
    let (one, more) = and_parts (nat_eq 98 (lower b)) (nat_eq 60 (lower c) && false) h in
    let (two, none) = and_parts (nat_eq 60 (lower c)) false more in
    absurd cc
binary_case b (c ∷ d ∷ []) r h =
    let (one, h1) = and_parts (nat_eq 98 (lower b)) (nat_eq 60 (lower c) && (nat_eq 60 (lower d) && false)) h in
    let (two, h2) = and_parts (nat_eq 60 (lower c)) (nat_eq 60 (lower d) && false) h1 in
    let (three, none) = and_parts (nat_eq 60 (lower d)) false h2 in
    absurd cc
binary_case b (c ∷ d ∷ e ∷ x) r h = binary_text b c d e x r h

-- a text in quotes is another one
simple_case : (b : ℕ) (a r : List ℕ) → in_quotes b a ≡ false → Meets (codes "'") (UpTo Simple) b a r ≡ true → ⊥
simple_case b a r e h =
    let first = (and_parts (nat_eq 39 (lower b)) _ h).0 in
    let clash : true ≡ false = subst (λ (n : ℕ). in_quotes n a ≡ false) (mark_same 39 b refl first) e in
    cc

double_case : (b : ℕ) (a r : List ℕ) → in_quotes b a ≡ false → Meets (codes "\"") (UpTo Closed) b a r ≡ true → ⊥
double_case b a r e h =
    let first = (and_parts (nat_eq 34 (lower b)) _ h).0 in
    let clash : true ≡ false = subst (λ (n : ℕ). in_quotes n a ≡ false) (mark_same 34 b refl first) e in
    cc

or_right : (x y : Bool) → (x || y) ≡ false → y ≡ false
or_right true y h = absurd cc
or_right false y h = h

quoted_b : (b q : ℕ) (a : List ℕ) → is_quote q ≡ true → nat_eq 98 (lower b) ≡ true → in_quotes b (q ∷ a) ≡ false → ⊥
quoted_b b q a quote first e =
    let same : lower b ≡ 98 = sym (eqb-true 98 (lower b) first) in
    let right : (nat_eq (lower b) 98 && is_quote q) ≡ false = or_right (is_quote b) (nat_eq (lower b) 98 && is_quote q) e in
    let clash : true ≡ false = sym quote ∙ sym (ap (λ (n : ℕ). nat_eq n 98 && is_quote q) same) ∙ right in
    cc

simple_b : (b : ℕ) (a r : List ℕ) → in_quotes b a ≡ false → Meets (codes "b'") (UpTo Simple) b a r ≡ true → ⊥
simple_b b [] r e h = let (one, none) = and_parts (nat_eq 98 (lower b)) false h in cc
simple_b b (c ∷ a) r e h =
    let (one, more) = and_parts (nat_eq 98 (lower b)) _ h in
    let two = (and_parts (nat_eq 39 (lower c)) _ more).0 in
    quoted_b b 39 a refl one (subst (λ (n : ℕ). in_quotes b (n ∷ a) ≡ false) (mark_same 39 c refl two) e)

double_b : (b : ℕ) (a r : List ℕ) → in_quotes b a ≡ false → Meets (codes "b\"") (UpTo Closed) b a r ≡ true → ⊥
double_b b [] r e h = let (one, none) = and_parts (nat_eq 98 (lower b)) false h in cc
double_b b (c ∷ a) r e h =
    let (one, more) = and_parts (nat_eq 98 (lower b)) _ h in
    let two = (and_parts (nat_eq 34 (lower c)) _ more).0 in
    quoted_b b 34 a refl one (subst (λ (n : ℕ). in_quotes b (n ∷ a) ≡ false) (mark_same 34 c refl two) e)

-- one of six rows, of which four are out
one_row : {A : Type 0} (s t u v w x : Bool) → (s ≡ true → ⊥) → (t ≡ true → ⊥) → (u ≡ true → ⊥) → (v ≡ true → ⊥)
    → (w ≡ true → A) → (x ≡ true → A) → (s || (t || (u || (v || (w || (x || false)))))) ≡ true → A
one_row true t u v w x f g i j k l h = absurd (f refl)
one_row false true u v w x f g i j k l h = absurd (g refl)
one_row false false true v w x f g i j k l h = absurd (i refl)
one_row false false false true w x f g i j k l h = absurd (j refl)
one_row false false false false true x f g i j k l h = k refl
one_row false false false false false true f g i j k l h = l refl
one_row false false false false false false f g i j k l h = absurd cc

abbrev is_text : Kind → Bool
is_text Text = true
is_text _ = false

pub nowdoc_text : (b : ℕ) (a r : List ℕ) → in_quotes b a ≡ false → IsLongest V74 code (b ∷ a ++ r) Text (suc (length a)) → NowdocText b a r
nowdoc_text b a r e h =
    one_row (Meets (codes "'") (UpTo Simple) b a r) (Meets (codes "b'") (UpTo Simple) b a r)
    (Meets (codes "\"") (UpTo Closed) b a r) (Meets (codes "b\"") (UpTo Closed) b a r)
    (Meets (codes "<<<") NowdocRest b a r) (Meets (codes "b<<<") NowdocRest b a r)
    (simple_case b a r e) (simple_b b a r e) (double_case b a r e) (double_b b a r e) (plain_case b a r) (binary_case b a r)
    (longest_meets is_text V74 code (b ∷ a) r Text refl h)

-- no byte of a label follows it
pub text_stops : {b : ℕ} {a r : List ℕ} → NowdocText b a r → no_label r ≡ true
text_stops (plain x r h) = nowdoc_stops x r [] h refl
text_stops (binary b x r low h) = nowdoc_stops x r [] h refl

text_stays : {b : ℕ} {a r : List ℕ} → NowdocText b a r → (s : List ℕ) → no_label s ≡ true → IsLongest V74 code (b ∷ a ++ s) Text (suc (length a))
text_stays (plain x r h) s stops =
    let is = counted x r s h stops in
    let size : 3 + length x ≡ suc (suc (suc (length x))) = omega arith in
    longest_of V74 code (60 ∷ 60 ∷ 60 ∷ x ++ s) Text (suc (suc (suc (length x)))) (plain_scan (x ++ s) (length x) is.begins_ is.shape_ is.len ∙ ap (found Text) size)
text_stays (binary b x r low h) s stops =
    let is = counted x r s h stops in
    let size : 4 + length x ≡ suc (suc (suc (suc (length x)))) = omega arith in
    longest_of V74 code (b ∷ 60 ∷ 60 ∷ 60 ∷ x ++ s) Text (suc (suc (suc (suc (length x)))))
    (binary_scan b (x ++ s) (length x) low is.begins_ is.shape_ is.len ∙ ap (found Text) size)

pub nowdocs_stay : NowdocsStay
nowdocs_stay b a r s e stops h = text_stays (nowdoc_text b a r e h) s stops
