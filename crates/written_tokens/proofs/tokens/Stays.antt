-- Each token and trivia of code before other bytes.
use Rattle.std.proofs.Common.{◌≡◌, ℕ, suc, ◌+◌, Bool, true, false, cond, not, ◌&&◌, ◌||◌, nat_eq, List, [], ◌∷◌, ◌++◌, length, drop, inl, inr, refl, sym, ap, ◌∙◌, subst, arith}
use Rattle.std.proofs.lemmas.Bool.{and_parts, eqb-true, not-true}
use Rattle.std.proofs.lemmas.Bool.Decides.{nat_tests}
use Rattle.php_tree.specs.declared.version.Version.TheVariants.{V74}
use Rattle.php_spellings.specs.declared.table.Kind.{Kind}
use Rattle.php_spellings.specs.declared.table.Kind.TheVariants.{
  Space,
  Comment,
  Tag,
  OpenEcho,
  InlineHtml,
  Variable,
  Word,
  Label,
  Keyword,
  Name,
  Decimal,
  Octal,
  Hexadecimal,
  Binary,
  Digits,
  Float,
  Text,
  Quote,
  Backtick,
  HeredocStart,
  Cast,
  Op,
  AttributeOpen,
  Semi,
  Close,
  Piece,
  CurlyOpen,
  DollarBrace,
  VarName,
  QuotedEnd,
}
use Rattle.php_spellings.specs.declared.table.State.TheVariants.{First}
use Rattle.php_spellings.specs.declared.table.Run.TheVariants.{Line}
use Rattle.php_spellings.specs.declared.table.Until.TheVariants.{Block}
use Rattle.php_spellings.specs.declared.table.Tail.TheVariants.{AnyRun, UpTo}
use Rattle.php_spellings.specs.Bytes.{is_space, is_label_byte, is_empty, lower, begins, begins_by}
use Rattle.php_lexer.specs.Heredocs.{led}
use Rattle.php_lexer.specs.Rules.{is_tail}
use Rattle.php_lexer.specs.Modes.{code, IsLongest}
use Rattle.php_lexer.specs.Scan.{scan, run_len}
use Rattle.php_relexing.specs.Alike.{Alike, is_tight}
use Rattle.php_relexing.specs.Angles.{is_text}
use Rattle.php_relexing.specs.Closed.{is_quote}
use Rattle.php_relexing.specs.Comments.{stops_line}
use Rattle.php_relexing.specs.HeredocEnds.{ends_feed}
use Rattle.php_relexing.specs.Pieces.{part_begins}
use Rattle.php_relexing.specs.Words.{begins_from}
use Rattle.php_relexing.proofs.Closed.{quoted_texts_stay, binary_texts_stay, block_comments_stay, casts_stay}
use Rattle.php_relexing.proofs.Comments.{line_stays, slash_comments_stay}
use Rattle.php_relexing.proofs.HeredocStarts.{heredoc_starts_stay}
use Rattle.php_relexing.proofs.Labels.{white_space_stays}
use Rattle.php_relexing.proofs.Operators.{or_case, is_mark, mark_same}
use Rattle.php_relexing.proofs.Quotes.{quotes_open, binary_quotes_open}
use Rattle.php_relexing.proofs.Picked.{longest_meets}
use Rattle.php_relexing.proofs.Scanned.{found, found_length, scan_of, longest_of}
use Rattle.php_relexing.proofs.Staying.{near_tokens_stay}
use Rattle.php_relexing.proofs.Words.{words_stay}
use Rattle.php_relexing.proofs.YieldFrom.{yield_from_stays}
use Rattle.written_tokens.specs.tokens.Stays.{comment_stays, in_quotes, quote_stays, heredoc_stays, CodeStays}
use Rattle.written_tokens.proofs.tokens.NearStays.{
  Stays,
  or_none,
  empty_is,
  first_byte,
  variable_stays,
  decimal_stays,
  octal_stays,
  hexadecimal_stays,
  binary_stays,
  float_stays,
  semi_stays,
  backtick_stays,
  close_stays,
  op_stays,
}

-- ---- casts and comments

abbrev is_cast : Kind → Bool
is_cast Cast = true
is_cast _ = false

abbrev is_comment : Kind → Bool
is_comment Comment = true
is_comment _ = false

cast_stays : (b : ℕ) (a r s : List ℕ) → Stays Cast b a r s
cast_stays b a r s h =
    let same : b ≡ 40 = mark_same 40 b refl (first_byte 40 b _ (longest_meets is_cast V74 code (b ∷ a) r Cast refl h)) in
    subst (λ (x : ℕ). Stays Cast x a r s) (sym same) (casts_stay V74 V74 a r s) h

hash_scan : (bs : List ℕ) → scan V74 code (35 ∷ bs) ≡ found Comment (1 + run_len Line [] First bs)
hash_scan bs = refl

hash_stays : (a r s : List ℕ) → stops_line s ≡ true → Stays Comment 35 a r s
hash_stays a r s stop h =
    let old : 1 + run_len Line [] First (a ++ r) ≡ suc (length a) =
    found_length Comment Comment (1 + run_len Line [] First (a ++ r)) (suc (length a))
    (sym (hash_scan (a ++ r)) ∙ scan_of V74 code (35 ∷ a ++ r) Comment (suc (length a)) h) in
    let new = line_stays a r s First stop (omega arith) in
    let size : 1 + run_len Line [] First (a ++ s) ≡ suc (length a) = omega arith in
    longest_of V74 code (35 ∷ a ++ s) Comment (suc (length a)) (hash_scan (a ++ s) ∙ ap (found Comment) size)

-- the second byte of a comment with `/`
second_is : (y : ℕ) (a r s : List ℕ) → ((x : List ℕ) → comment_stays 47 (y ∷ x) s ≡ true
    → Stays Comment 47 (y ∷ x) r s) → begins_by y a ≡ true → comment_stays 47 a s ≡ true → Stays Comment 47 a r s
second_is y [] r s stays e k = absurd cc
second_is y (c ∷ a) r s stays e k =
    let same : c ≡ y = eqb-true c y e in
    subst (λ (x : ℕ). comment_stays 47 (x ∷ a) s ≡ true → Stays Comment 47 (x ∷ a) r s) (sym same) (stays a) k

same_byte : (c y : ℕ) → c ≡ y → nat_eq c y ≡ true
same_byte c y e = grind (arith, nat_tests)

led_second : (y : ℕ) (p : List ℕ → List ℕ → Bool) (a r : List ℕ) → is_mark y ≡ true → led lower (y ∷ []) p a r ≡ true → begins_by y a ≡ true
led_second y p [] r mark h = absurd cc
led_second y p (c ∷ a) r mark h = same_byte c y (mark_same y c mark (and_parts (nat_eq y (lower c)) (led lower [] p a r) h).0)

comment_stays_so : (b : ℕ) (a r s : List ℕ) → comment_stays b a s ≡ true → Stays Comment b a r s
comment_stays_so b a r s k h =
    elim (or_case (led lower (35 ∷ []) (is_tail [] (AnyRun Line)) (b ∷ a) r) _ (longest_meets is_comment V74 code (b ∷ a) r Comment refl h)) [
      | inl hash ↦
          let same : b ≡ 35 = mark_same 35 b refl (and_parts (nat_eq 35 (lower b)) _ hash).0 in
          subst (λ (x : ℕ). comment_stays x a s ≡ true → Stays Comment x a r s) (sym same) (hash_stays a r s) k h
      | inr slash ↦ elim (or_case (led lower (47 ∷ 42 ∷ []) (is_tail [] (UpTo Block)) (b ∷ a) r) _ slash) [
        | inl block ↦
            let (first, more) = and_parts (nat_eq 47 (lower b)) (led lower (42 ∷ []) (is_tail [] (UpTo Block)) a r) block in
            let second = led_second 42 (is_tail [] (UpTo Block)) a r refl more in
            subst (λ (x : ℕ). comment_stays x a s ≡ true → Stays Comment x a r s) (sym (mark_same 47 b refl first))
            (second_is 42 a r s (λ x e. block_comments_stay V74 V74 x r s) second) k h
        | inr line ↦
            let (first, more) = and_parts (nat_eq 47 (lower b)) (led lower (47 ∷ []) (is_tail [] (AnyRun Line)) a r) (or_none _ line) in
            let second = led_second 47 (is_tail [] (AnyRun Line)) a r refl more in
            subst (λ (x : ℕ). comment_stays x a s ≡ true → Stays Comment x a r s) (sym (mark_same 47 b refl first))
            (second_is 47 a r s (λ x e. slash_comments_stay V74 V74 x r s e) second) k h
      ]
    ]

-- ---- words

word_by : (b : ℕ) (a r s : List ℕ) → Alike r s → (x : Bool) → nat_eq (lower b) 98 ≡ x
    → cond x (is_tight b (a ++ r) && is_tight b (a ++ s)) (not (begins is_label_byte s) && not (begins_from s)) ≡ true
    → Stays Word b a r s
word_by b a r s alike true e k =
    let (old, new) = and_parts (is_tight b (a ++ r)) (is_tight b (a ++ s)) k in
    near_tokens_stay Word b a r s alike old new
word_by b a r s alike false e k =
    let (label, from) = and_parts (not (begins is_label_byte s)) (not (begins_from s)) k in
    words_stay b a r s e (not-true (begins is_label_byte s) label) (not-true (begins_from s) from)

-- ---- texts

with_b : (b : ℕ) (a r s : List ℕ) → nat_eq (lower b) 98 ≡ true → begins is_quote a ≡ true → Stays Text b a r s
with_b b [] r s e f = absurd cc
with_b b (q ∷ a) r s e f = binary_texts_stay V74 V74 b q a r s (eqb-true (lower b) 98 e) f

text_stays : (b : ℕ) (a r s : List ℕ) → in_quotes b a ≡ true → Stays Text b a r s
text_stays b a r s k =
    elim (or_case (is_quote b) (nat_eq (lower b) 98 && begins is_quote a) k) [
      | inl plain ↦ quoted_texts_stay V74 V74 b a r s plain
      | inr binary ↦ with_b b a r s (and_parts (nat_eq (lower b) 98) (begins is_quote a) binary).0 (and_parts (nat_eq (lower b) 98) (begins is_quote a) binary).1
    ]

quote_alone : (b : ℕ) (a r s : List ℕ) → (nat_eq b 34 && is_empty a) ≡ true → part_begins s ≡ true → Stays Quote b a r s
quote_alone b [] r s e k h = subst (λ (x : ℕ). IsLongest V74 code (x ∷ s) Quote 1) (sym (eqb-true b 34 (and_parts (nat_eq b 34) true e).0)) (quotes_open.part V74 s k)
quote_alone b (c ∷ a) r s e k h = absurd (let none = (and_parts (nat_eq b 34) false e).1 in cc)

quote_with_b : (b : ℕ) (a r s : List ℕ) → nat_eq (lower b) 98 ≡ true → is_text (34 ∷ []) a ≡ true → part_begins s ≡ true → Stays Quote b a r s
quote_with_b b [] r s e f k h = absurd cc
quote_with_b b (c ∷ a) r s e f k h =
    let (first, last) = and_parts (nat_eq 34 c) (is_empty a) f in
    let tail : a ≡ [] = empty_is a last in
    subst (λ (x : List ℕ). IsLongest V74 code (b ∷ c ∷ x ++ s) Quote (suc (suc (length x)))) (sym tail)
    (subst (λ (x : ℕ). IsLongest V74 code (b ∷ x ∷ s) Quote 2) (eqb-true 34 c first) (binary_quotes_open.part V74 b s (eqb-true (lower b) 98 e) k))

quote_stays_so : (b : ℕ) (a r s : List ℕ) → quote_stays b a s ≡ true → Stays Quote b a r s
quote_stays_so b a r s k =
    let (opens, part) = and_parts (nat_eq b 34 && is_empty a || nat_eq (lower b) 98 && is_text (34 ∷ []) a) (part_begins s) k in
    elim (or_case (nat_eq b 34 && is_empty a) (nat_eq (lower b) 98 && is_text (34 ∷ []) a) opens) [
      | inl plain ↦ quote_alone b a r s plain part
      | inr binary ↦ quote_with_b b a r s (and_parts (nat_eq (lower b) 98) (is_text (34 ∷ []) a) binary).0 (and_parts (nat_eq (lower b) 98) (is_text (34 ∷ []) a) binary).1 part
    ]

heredoc_is : (a r s : List ℕ) → begins_by 60 a ≡ true → begins_by 60 (drop 1 a) ≡ true
    → not (not (ends_feed false (drop 2 a)) && begins_by 10 s) ≡ true → Stays HeredocStart 60 a r s
heredoc_is [] r s e f k h = absurd cc
heredoc_is (c ∷ []) r s e f k h = absurd cc
heredoc_is (c ∷ d ∷ a) r s e f k h =
    let one : c ≡ 60 = eqb-true c 60 e in
    let two : d ≡ 60 = eqb-true d 60 f in
    let old : IsLongest V74 code (60 ∷ 60 ∷ 60 ∷ a ++ r) HeredocStart (suc (suc (suc (length a)))) =
    subst (λ (y : ℕ). IsLongest V74 code (60 ∷ 60 ∷ y ∷ a ++ r) HeredocStart (suc (suc (suc (length a))))) two
    (subst (λ (x : ℕ). IsLongest V74 code (60 ∷ x ∷ d ∷ a ++ r) HeredocStart (suc (suc (suc (length a))))) one h) in
    let new = heredoc_starts_stay V74 V74 a r s (not-true (not (ends_feed false a) && begins_by 10 s) k) old in
    subst (λ (x : ℕ). IsLongest V74 code (60 ∷ x ∷ d ∷ a ++ s) HeredocStart (suc (suc (suc (length a))))) (sym one)
    (subst (λ (y : ℕ). IsLongest V74 code (60 ∷ 60 ∷ y ∷ a ++ s) HeredocStart (suc (suc (suc (length a))))) (sym two) new)

heredoc_stays_so : (b : ℕ) (a r s : List ℕ) → heredoc_stays b a s ≡ true → Stays HeredocStart b a r s
heredoc_stays_so b a r s k =
    let (front, line) = and_parts (nat_eq b 60 && (begins_by 60 a && begins_by 60 (drop 1 a))) (not (not (ends_feed false (drop 2 a)) && begins_by 10 s)) k in
    let (first, more) = and_parts (nat_eq b 60) (begins_by 60 a && begins_by 60 (drop 1 a)) front in
    let (second, third) = and_parts (begins_by 60 a) (begins_by 60 (drop 1 a)) more in
    subst (λ (x : ℕ). Stays HeredocStart x a r s) (sym (eqb-true b 60 first)) (heredoc_is a r s second third line)

-- ---- all

pub code_stays : CodeStays
code_stays Space b a r s alike k h = white_space_stays V74 V74 b a r s (not-true (begins is_space s) k) h
code_stays Comment b a r s alike k h = comment_stays_so b a r s k h
code_stays Tag b a r s alike k h = absurd cc
code_stays OpenEcho b a r s alike k h = absurd cc
code_stays InlineHtml b a r s alike k h = absurd cc
code_stays Variable b a r s alike k h = variable_stays b a r s alike h
code_stays Word b a r s alike k h = word_by b a r s alike (nat_eq (lower b) 98) refl k h
code_stays Label b a r s alike k h = absurd cc
code_stays Keyword b a r s alike k h = yield_from_stays b a r s (not-true (begins is_label_byte s) k) h
code_stays Name b a r s alike k h = absurd cc
code_stays Decimal b a r s alike k h = decimal_stays b a r s alike h
code_stays Octal b a r s alike k h = octal_stays b a r s alike h
code_stays Hexadecimal b a r s alike k h = hexadecimal_stays b a r s alike h
code_stays Binary b a r s alike k h = binary_stays b a r s alike h
code_stays Digits b a r s alike k h = absurd cc
code_stays Float b a r s alike k h = float_stays b a r s alike h
code_stays Text b a r s alike k h = text_stays b a r s k h
code_stays Quote b a r s alike k h = quote_stays_so b a r s k h
code_stays Backtick b a r s alike k h = backtick_stays b a r s alike h
code_stays HeredocStart b a r s alike k h = heredoc_stays_so b a r s k h
code_stays Cast b a r s alike k h = cast_stays b a r s h
code_stays Op b a r s alike k h = op_stays b a r s alike k h
code_stays AttributeOpen b a r s alike k h = absurd cc
code_stays Semi b a r s alike k h = semi_stays b a r s alike h
code_stays Close b a r s alike k h = close_stays b a r s k h
code_stays Piece b a r s alike k h = absurd cc
code_stays CurlyOpen b a r s alike k h = absurd cc
code_stays DollarBrace b a r s alike k h = absurd cc
code_stays VarName b a r s alike k h = absurd cc
code_stays QuotedEnd b a r s alike k h = absurd cc
