-- Tokens and trivia of code before bytes that go on as those in the source.
use Rattle.std.proofs.Common.{◌≡◌, ℕ, suc, Bool, true, false, cond, not, ◌&&◌, ◌||◌, nat_eq, List, [], ◌∷◌, ◌++◌, length, drop, inl, inr, refl, sym, ap, ◌∙◌, subst, arith}
use Rattle.std.proofs.lemmas.Bool.{and_parts, eqb-true, not_from_false, and_from, or_left, or_right, not-true}
use Rattle.std.proofs.lemmas.Bool.Decides.{nat_tests}
use Rattle.php_tree.specs.declared.version.Version.TheVariants.{V74}
use Rattle.php_spellings.specs.declared.table.Kind.{Kind}
use Rattle.php_spellings.specs.declared.table.Kind.TheVariants.{
  Space,
  Comment,
  Tag,
  OpenEcho,
  InlineHtml,
  Variable,
  Word,
  Label,
  Keyword,
  Name,
  Decimal,
  Octal,
  Hexadecimal,
  Binary,
  Digits,
  Float,
  Text,
  Quote,
  Backtick,
  HeredocStart,
  Cast,
  Op,
  AttributeOpen,
  Semi,
  Close,
  Piece,
  CurlyOpen,
  DollarBrace,
  VarName,
  QuotedEnd,
}
use Rattle.php_spellings.specs.Bytes.{is_line_end, is_space, is_letter, is_label_byte, is_empty, lower, begins, begins_by}
use Rattle.php_lexer.specs.RulesCode.{code_rows}
use Rattle.php_lexer.specs.Modes.{code, IsLongest}
use Rattle.php_relexing.specs.Alike.{Alike, is_tight}
use Rattle.php_relexing.specs.Angles.{slash_ends, less_ends, close_ends}
use Rattle.php_relexing.specs.Comments.{stops_line}
use Rattle.php_relexing.specs.Labels.{all_label}
use Rattle.php_relexing.specs.Words.{begins_from, begins_cast}
use Rattle.php_relexing.proofs.Bools.{and_false}
use Rattle.php_relexing.proofs.Labels.{words_are_labels}
use Rattle.php_relexing.proofs.Openings.{openings_are_uncast}
use Rattle.php_relexing.proofs.Operators.{OneOf, one_of, is_op, is_close, mark_same}
use Rattle.php_relexing.proofs.Picked.{picked, longest_meets}
use Rattle.written_tokens.specs.tokens.Stays.{comment_stays, operator_stays, stays_before}
use Rattle.written_tokens.proofs.tokens.Stays.{code_stays}
use Rattle.written_tokens.specs.tiles.ContinuesAs.{is_trivia}
use Rattle.written_tokens.specs.tiles.Going.{puts_none}
use Rattle.written_tokens.specs.tiles.CodeTokens.{is_plain, is_opening}
use Rattle.written_tokens.proofs.tiles.Behind.{
  space_behind,
  word_behind,
  keyword_behind,
  line_behind,
  question_behind,
  slash_behind,
  less_one,
  shift_behind,
  most_behind,
  end_alone,
  end_return,
}
use Rattle.written_tokens.proofs.tiles.Docs.{shift_stays, b_behind, b_stays}
use Rattle.written_tokens.proofs.tiles.Onward.{Onward}
use Rattle.written_tokens.proofs.tiles.Yields.{word_from_stays}

cond_true : (x y z : Bool) → x ≡ true → y ≡ true → cond x y z ≡ true
cond_true true y z e h = h
cond_true false y z e h = absurd cc

-- the kinds of no token of code
abbrev no_code : Kind → Bool
no_code Tag = true
no_code OpenEcho = true
no_code InlineHtml = true
no_code Label = true
no_code Name = true
no_code Digits = true
no_code AttributeOpen = true
no_code Piece = true
no_code CurlyOpen = true
no_code DollarBrace = true
no_code VarName = true
no_code QuotedEnd = true
no_code _ = false

never : {A : Type 0} (kind : Kind) (b : ℕ) (a r : List ℕ) → no_code kind ≡ true → IsLongest V74 code (b ∷ a ++ r) kind (suc (length a)) → A
never kind b a r e l = absurd (let none = longest_meets no_code V74 code (b ∷ a) r kind e l in cc)

-- ---- bytes of a label behind `b`

not_label_byte : (y z : ℕ) → is_label_byte y ≡ false → is_label_byte z ≡ true → nat_eq z y ≡ false
not_label_byte y z e h = by_case (nat_eq z y) refl
  where
    by_case : (x : Bool) → nat_eq z y ≡ x → x ≡ false
    by_case false f = refl
    by_case true f = absurd (let clash : true ≡ false = sym h ∙ ap is_label_byte (eqb-true z y f) ∙ e in cc)

lower_mark : (y z : ℕ) → nat_eq z y ≡ false → (t : Bool) → nat_eq y (lower z) ≡ t → ((x : ℕ) → nat_eq y (lower x) ≡ true → x ≡ y) → t ≡ false
lower_mark y z e false f g = refl
lower_mark y z e true f g = absurd (let same_z : nat_eq z z ≡ false =
    subst (λ (w : ℕ). nat_eq z w ≡ false) (sym (g z f)) e in let own : nat_eq z z ≡ true = own_eq z
    in let clash : true ≡ false = sym own ∙ same_z in cc)
  where
    own_eq : (n : ℕ) → nat_eq n n ≡ true
    own_eq n = grind (arith, nat_tests)

no_mark : (y z : ℕ) → ((x : ℕ) → nat_eq y (lower x) ≡ true → x ≡ y) → is_label_byte y ≡ false → is_label_byte z ≡ true → nat_eq y (lower z) ≡ false
no_mark y z g e h = lower_mark y z (not_label_byte y z e h) (nat_eq y (lower z)) refl g

b_tight : (b z : ℕ) (bs : List ℕ) → is_letter b ≡ true → nat_eq (lower b) 98 ≡ true → is_label_byte z ≡ true → is_tight b (z ∷ bs) ≡ true
b_tight b z bs letter e h =
    let p = no_mark 39 z (λ x f. mark_same 39 x refl f) refl h in
    let q = no_mark 34 z (λ x f. mark_same 34 x refl f) refl h in
    let r = no_mark 60 z (λ x f. mark_same 60 x refl f) refl h in
    let bytes = b_plain b letter in
    rw (bytes.0, bytes.1.0, bytes.1.1, e, p, q, r) refl
  where
    b_plain : (b : ℕ) → is_letter b ≡ true → ((nat_eq b 39 || nat_eq b 34 || nat_eq b 47 || nat_eq b 40 || nat_eq b 60
        || nat_eq b 35) ≡ false) × ((is_space b ≡ false) × (nat_eq b 63 ≡ false))
    b_plain b h = (grind (arith, nat_tests), (grind (arith, nat_tests), grind (arith, nat_tests)))

-- ---- `?>`

module _ (r s : List ℕ) (alike : Alike r s) (first : (p : ℕ → Bool) → puts_none p ≡ true → p 32 ≡ false → begins p r ≡ false → begins p s ≡ false) where
  abbrev Closes : List ℕ → Type 0
  Closes [] = Unit {0}
  Closes (b ∷ a) = IsLongest V74 code (b ∷ a ++ r) Close (suc (length a)) → close_ends (drop 1 a) s ≡ true

  close_alone : (s : List ℕ) → begins is_line_end s ≡ false → close_ends [] s ≡ true
  close_alone s e = rw e refl

  close_return : (s : List ℕ) → begins_by 10 s ≡ false → close_ends (13 ∷ []) s ≡ true
  close_return s e = rw e refl

  closes_by : (t : List ℕ) → OneOf (picked is_close (code_rows V74)) t → Closes t
  closes_by t (inl e) = subst Closes (sym e) (λ l. close_alone s (first is_line_end refl refl (end_alone r l)))
  closes_by t (inr (inl e)) = subst Closes (sym e) (λ l. refl)
  closes_by t (inr (inr (inl e))) = subst Closes (sym e) (λ l. close_return s (first (λ (x : ℕ). nat_eq x 10) refl refl (end_return r l)))
  closes_by t (inr (inr (inr (inl e)))) = subst Closes (sym e) (λ l. refl)
  closes_by t (inr (inr (inr (inr e)))) = absurd e

  close_so : (b : ℕ) (a : List ℕ) → IsLongest V74 code (b ∷ a ++ r) Close (suc (length a)) → close_ends (drop 1 a) s ≡ true
  close_so b a l =
      closes_by (b ∷ a) (one_of (picked is_close (code_rows V74)) (b ∷ a) r refl (longest_meets is_close V74 code (b ∷ a) r Close refl l)) l

  pub close_kept : (b : ℕ) (a : List ℕ) → IsLongest V74 code (b ∷ a ++ r) Close (suc (length a)) → IsLongest V74 code (b ∷ a ++ s) Close (suc (length a))
  close_kept b a l = code_stays Close b a r s alike (close_so b a l) l

-- How the bytes behind a tile of code go on: where no `)` comes in, and directly behind trivia, more is known of them.
pub record GoesOn (tight gap : Bool) (r s : List ℕ) : Type 0 where
  pub alike : Alike r s
  pub on : Onward r s
  pub first : (p : ℕ → Bool) → puts_none p ≡ true → p 32 ≡ false → begins p r ≡ false → begins p s ≡ false
  pub spaces : gap ≡ true → begins is_space r ≡ false → begins is_space s ≡ false
  pub line : gap ≡ true → stops_line r ≡ true → stops_line s ≡ true
  pub from : begins_from r ≡ false → begins_from s ≡ false
  pub cast : tight ≡ true → begins_cast r ≡ false → begins_cast s ≡ false

module _ (tight gap : Bool) (r s : List ℕ) (on : GoesOn tight gap r s) where
  abbrev Old : Kind → ℕ → List ℕ → Type 0
  Old kind b a = IsLongest V74 code (b ∷ a ++ r) kind (suc (length a))

  abbrev New : Kind → ℕ → List ℕ → Type 0
  New kind b a = IsLongest V74 code (b ∷ a ++ s) kind (suc (length a))

  -- ---- words

  b_word : (b : ℕ) (a : List ℕ) → nat_eq (lower b) 98 ≡ true → Old Word b a → New Word b a
  b_word b [] e l =
      let (single, double) = b_behind b r (eqb-true (lower b) 98 e) l in
      b_stays b r s (eqb-true (lower b) 98 e) on.on
      (on.first is_label_byte refl refl (word_behind b [] r l))
      (on.first (λ (x : ℕ). nat_eq x 39) refl refl single)
      (on.first (λ (x : ℕ). nat_eq x 34) refl refl double) l
  b_word b (z ∷ a) e l =
      let (letter, more) = and_parts (is_letter b) (all_label (z ∷ a)) (words_are_labels V74 b (z ∷ a) r l) in
      let label = (and_parts (is_label_byte z) (all_label a) more).0 in
      let old = b_tight b z (a ++ r) letter e label in
      let new = b_tight b z (a ++ s) letter e label in
      code_stays Word b (z ∷ a) r s on.alike (tight_word e old new) l
    where
      tight_word : nat_eq (lower b) 98 ≡ true → is_tight b (z ∷ a ++ r) ≡ true → is_tight b (z ∷ a ++ s) ≡ true → stays_before Word b (z ∷ a) r s ≡ true
      tight_word e f h =
          cond_true (nat_eq (lower b) 98) (is_tight b (z ∷ a ++ r) && is_tight b (z ∷ a ++ s)) (not (begins is_label_byte s) && not (begins_from s)) e
          (and_from (is_tight b (z ∷ a ++ r)) (is_tight b (z ∷ a ++ s)) f h)

  other_word : (b : ℕ) (a : List ℕ) → nat_eq (lower b) 98 ≡ false → Old Word b a → (x : Bool) → begins_from r ≡ x → New Word b a
  other_word b a e l true f =
      let old = word_behind b a r l in
      word_from_stays b a r s e old (on.first is_label_byte refl refl old) f l
  other_word b a e l false f =
      let ends = on.first is_label_byte refl refl (word_behind b a r l) in
      let from = on.from f in
      code_stays Word b a r s on.alike (plain_word e ends from) l
    where
      plain_word : nat_eq (lower b) 98 ≡ false → begins is_label_byte s ≡ false → begins_from s ≡ false → stays_before Word b a r s ≡ true
      plain_word e f h = rw (e, f, h) refl

  word_by : (b : ℕ) (a : List ℕ) → Old Word b a → (x : Bool) → nat_eq (lower b) 98 ≡ x → New Word b a
  word_by b a l true e = b_word b a e l
  word_by b a l false e = other_word b a e l (begins_from r) refl

  -- ---- comments

  comment_by : gap ≡ true → (b : ℕ) (a : List ℕ) → Old Comment b a → (x : Bool) → (nat_eq b 47 && begins_by 42 a) ≡ x → comment_stays b a s ≡ true
  comment_by g b a l true e = or_left (nat_eq b 47 && begins_by 42 a) (stops_line s) e
  comment_by g b a l false e =
      or_right (nat_eq b 47 && begins_by 42 a) (stops_line s)
      (on.line g (line_behind b a r e l))

  -- ---- operators

  opening_cast : (a : List ℕ) → tight ≡ true → Old Op 40 a → begins_cast s ≡ false
  opening_cast [] t l = on.cast t (openings_are_uncast.none V74 r l)
  opening_cast (c ∷ a) t l = absurd (let none = longest_meets is_op V74 code (40 ∷ c ∷ a) r Op refl l in cc)

  not_first : (p : ℕ → Bool) (x : Bool) → (not (p 35 || p 40 || p 41 || p 91 || p 92 || p 93 || p 123 || p 125)) ≡
      true → p 32 ≡ false → (x || not (begins p r)) ≡ true → (x || not (begins p s)) ≡ true
  not_first p true out blank h = refl
  not_first p false out blank h = not_from_false (begins p s) (on.first p out blank (not-true (begins p r) h))

  slash_so : (a : List ℕ) → slash_ends a r ≡ true → slash_ends a s ≡ true
  slash_so a h = not_first (λ (c : ℕ). nat_eq c 42 || nat_eq c 47 || nat_eq c 61) (not (is_empty a)) refl refl h

  angle_so : (a : List ℕ) → less_ends a s ≡ true → Old Op 60 a → New Op 60 a
  angle_so a h l = code_stays Op 60 a r s on.alike h l

  two_ends : (c : ℕ) (s : List ℕ) → nat_eq 60 c ≡ false → nat_eq 61 c ≡ false → less_ends (c ∷ []) s ≡ true
  two_ends c s e f = rw (e, f) refl

  three_ends : (c d : ℕ) (a s : List ℕ) → less_ends (c ∷ d ∷ a) s ≡ true
  three_ends c d a s = rw (and_false (nat_eq 60 c), and_false (nat_eq 61 c)) refl

  most_ends : (s : List ℕ) → begins_by 62 s ≡ false → less_ends (61 ∷ []) s ≡ true
  most_ends s e = rw e refl

  less_second : (c : ℕ) → Old Op 60 (c ∷ []) → (x y : Bool) → nat_eq 60 c ≡ x → nat_eq 61 c ≡ y → New Op 60 (c ∷ [])
  less_second c l true y e f =
      let is : 60 ≡ c = eqb-true 60 c e in
      let old : Old Op 60 (60 ∷ []) = subst (λ (x : ℕ). Old Op 60 (x ∷ [])) (sym is) l in
      subst (λ (x : ℕ). New Op 60 (x ∷ [])) is
      (shift_stays r s on.on (on.first (λ (x : ℕ). nat_eq x 61) refl refl (shift_behind r old)) old)
  less_second c l false true e f =
      let is : 61 ≡ c = eqb-true 61 c f in
      let old : Old Op 60 (61 ∷ []) = subst (λ (x : ℕ). Old Op 60 (x ∷ [])) (sym is) l in
      subst (λ (x : ℕ). New Op 60 (x ∷ [])) is
      (angle_so (61 ∷ []) (most_ends s (on.first (λ (x : ℕ). nat_eq x 62) refl refl (most_behind r old))) old)
  less_second c l false false e f = angle_so (c ∷ []) (two_ends c s e f) l

  less_so : (a : List ℕ) → Old Op 60 a → New Op 60 a
  less_so [] l =
      angle_so [] (not_first (λ (c : ℕ). nat_eq c 60 || nat_eq c 61 || nat_eq c 62) false refl refl (less_one r l)) l
  less_so (c ∷ []) l = less_second c l (nat_eq 60 c) (nat_eq 61 c) refl refl
  less_so (c ∷ d ∷ a) l = angle_so (c ∷ d ∷ a) (three_ends c d a s) l

  question_by : (b : ℕ) (a : List ℕ) → Old Op b a → (x : Bool) → nat_eq b 63 ≡ x → not (x && (is_empty a && begins_by 62 s)) ≡ true
  question_by b a l false e = refl
  question_by b (c ∷ a) l true e = refl
  question_by b [] l true e =
      not_from_false (begins_by 62 s)
      (on.first (λ (x : ℕ). nat_eq x 62) refl refl (question_behind Op r (subst (λ (x : ℕ). Old Op x []) (eqb-true b 63 e) l)))

  op_by : (b : ℕ) (a : List ℕ) → (nat_eq b 40 ≡ true → tight ≡ true) → Old Op b a → (x y z : Bool) → nat_eq b 40 ≡ x → nat_eq b 47 ≡ y → nat_eq b 60 ≡ z → New Op b a
  op_by b a t l true y z e f h =
      let uncast = opening_cast a (t e) (subst (λ (x : ℕ). Old Op x a) (eqb-true b 40 e) l) in
      code_stays Op b a r s on.alike (by_cast e uncast) l
    where
      by_cast : nat_eq b 40 ≡ true → begins_cast s ≡ false → operator_stays b a s ≡ true
      by_cast e n = rw (e, n) refl
  op_by b a t l false true z e f h =
      let ends = slash_so a (slash_behind a r (subst (λ (x : ℕ). Old Op x a) (eqb-true b 47 f) l)) in
      code_stays Op b a r s on.alike (by_slash e f ends) l
    where
      by_slash : nat_eq b 40 ≡ false → nat_eq b 47 ≡ true → slash_ends a s ≡ true → operator_stays b a s ≡ true
      by_slash e f n = rw (e, f) n
  op_by b a t l false false true e f h =
      let is = eqb-true b 60 h in
      subst (λ (x : ℕ). New Op x a) (sym is) (less_so a (subst (λ (x : ℕ). Old Op x a) is l))
  op_by b a t l false false false e f h =
      code_stays Op b a r s on.alike (by_other e f h (question_by b a l (nat_eq b 63) refl)) l
    where
      by_other : nat_eq b 40 ≡ false → nat_eq b 47 ≡ false → nat_eq b 60 ≡ false → not (nat_eq b 63 && (is_empty a && begins_by 62 s)) ≡ true → operator_stays b a s ≡ true
      by_other e f h n = rw (e, f, h) n

  -- ---- all

  abbrev Kept : Kind → ℕ → List ℕ → Type 0
  Kept kind b a =
      is_plain kind b a ≡ true →
      (is_opening kind b ≡ true → tight ≡ true) →
      (is_trivia kind ≡ true → gap ≡ true) →
      Old kind b a →
      New kind b a

  pub kept : (kind : Kind) (b : ℕ) (a : List ℕ) → Kept kind b a
  kept Space b a h t g l =
      code_stays Space b a r s on.alike (not_from_false (begins is_space s) (on.spaces (g refl) (space_behind b a r l))) l
  kept Comment b a h t g l =
      code_stays Comment b a r s on.alike (comment_by (g refl) b a l (nat_eq b 47 && begins_by 42 a) refl) l
  kept Tag b a h t g l = never Tag b a r refl l
  kept OpenEcho b a h t g l = never OpenEcho b a r refl l
  kept InlineHtml b a h t g l = never InlineHtml b a r refl l
  kept Variable b a h t g l = code_stays Variable b a r s on.alike refl l
  kept Word b a h t g l = word_by b a l (nat_eq (lower b) 98) refl
  kept Label b a h t g l = never Label b a r refl l
  kept Keyword b a h t g l =
      code_stays Keyword b a r s on.alike (not_from_false (begins is_label_byte s) (on.first is_label_byte refl refl (keyword_behind b a r l))) l
  kept Name b a h t g l = never Name b a r refl l
  kept Decimal b a h t g l = code_stays Decimal b a r s on.alike refl l
  kept Octal b a h t g l = code_stays Octal b a r s on.alike refl l
  kept Hexadecimal b a h t g l = code_stays Hexadecimal b a r s on.alike refl l
  kept Binary b a h t g l = code_stays Binary b a r s on.alike refl l
  kept Digits b a h t g l = never Digits b a r refl l
  kept Float b a h t g l = code_stays Float b a r s on.alike refl l
  kept Text b a h t g l = code_stays Text b a r s on.alike h l
  kept Quote b a h t g l = absurd cc
  kept Backtick b a h t g l = absurd cc
  kept HeredocStart b a h t g l = absurd cc
  kept Cast b a h t g l = code_stays Cast b a r s on.alike refl l
  kept Op b a h t g l = op_by b a t l (nat_eq b 40) (nat_eq b 47) (nat_eq b 60) refl refl refl
  kept AttributeOpen b a h t g l = never AttributeOpen b a r refl l
  kept Semi b a h t g l = code_stays Semi b a r s on.alike refl l
  kept Close b a h t g l = close_kept r s on.alike on.first b a l
  kept Piece b a h t g l = never Piece b a r refl l
  kept CurlyOpen b a h t g l = never CurlyOpen b a r refl l
  kept DollarBrace b a h t g l = never DollarBrace b a r refl l
  kept VarName b a h t g l = never VarName b a r refl l
  kept QuotedEnd b a h t g l = never QuotedEnd b a r refl l
