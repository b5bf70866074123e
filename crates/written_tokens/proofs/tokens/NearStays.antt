-- Tokens of code that look little ahead, before other bytes: variables, numbers, marks and operators.
use Rattle.std.proofs.Common.{◌≡◌, ℕ, suc, Bool, true, false, cond, not, ◌&&◌, ◌||◌, nat_eq, List, [], ◌∷◌, ◌++◌, length, drop, None, inl, inr, refl, sym, ap, ◌∙◌, subst, arith}
use Rattle.std.proofs.lemmas.Bool.{and_parts, eqb-true, and_left, not-true}
use Rattle.std.proofs.lemmas.Bool.Decides.{nat_tests}
use Rattle.php_tree.specs.declared.version.Version.TheVariants.{V74}
use Rattle.php_spellings.specs.declared.table.Kind.{Kind}
use Rattle.php_spellings.specs.declared.table.Kind.TheVariants.{Variable, Decimal, Octal, Hexadecimal, Binary, Float, Backtick, Op, Semi, Close}
use Rattle.php_spellings.specs.Bytes.{is_space, is_digit, is_empty, lower, begins_by}
use Rattle.php_lexer.specs.Rules.{Row, rule}
use Rattle.php_lexer.specs.RulesCode.{code_rows}
use Rattle.php_lexer.specs.Modes.{code, kind_of, IsLongest}
use Rattle.php_relexing.specs.Tiles.{is_far, begins_words}
use Rattle.php_relexing.specs.Alike.{Alike, is_tight}
use Rattle.php_relexing.specs.Angles.{slash_ends, less_ends, close_ends}
use Rattle.php_relexing.specs.Words.{begins_cast}
use Rattle.php_relexing.proofs.Angles.{slashes_stay, angles_stay, closing_tags_stay}
use Rattle.php_relexing.proofs.Openings.{openings_are_uncast}
use Rattle.php_relexing.proofs.Operators.{OneOf, one_of, all_words, mark_same, is_op, is_close}
use Rattle.php_relexing.proofs.Picked.{picked, meets, longest_meets}
use Rattle.php_relexing.proofs.Staying.{near_tokens_stay}
use Rattle.written_tokens.specs.tokens.Stays.{operator_stays}

-- A token with this text stays where these bytes follow it in place of those.
abbrev pub Stays : Kind → ℕ → List ℕ → List ℕ → List ℕ → Type 0
Stays kind b a r s = IsLongest V74 code (b ∷ a ++ r) kind (suc (length a)) → IsLongest V74 code (b ∷ a ++ s) kind (suc (length a))

pub or_none : (x : Bool) → (x || false) ≡ true → x ≡ true
or_none true h = refl
or_none false h = absurd cc

pub empty_is : (a : List ℕ) → is_empty a ≡ true → a ≡ []
empty_is [] h = refl
empty_is (b ∷ a) h = absurd cc

-- ---- tokens that look no further

-- neither white space nor a byte that may begin a token that looks ahead
abbrev pub is_solid : ℕ → Bool
is_solid b = not (is_far b) && (not (begins_words b) && not (is_space b))

solid_tight : (b : ℕ) (bs : List ℕ) → is_solid b ≡ true → (nat_eq b 63 && begins_by 62 bs) ≡ false → is_tight b bs ≡ true
solid_tight b bs h e =
    let (near, more) = and_parts (not (is_far b)) (not (begins_words b) && not (is_space b)) h in
    let (words, space) = and_parts (not (begins_words b)) (not (is_space b)) more in
    rw (not-true (is_far b) near, not-true (begins_words b) words, not-true (is_space b) space, e) refl

pub solid_stays : (kind : Kind) (b : ℕ) (a r s : List ℕ) → Alike r s → is_solid b ≡ true → nat_eq b 63 ≡ false → Stays kind b a r s
solid_stays kind b a r s alike h e =
    near_tokens_stay kind b a r s alike
    (solid_tight b (a ++ r) h (and_left (nat_eq b 63) (begins_by 62 (a ++ r)) e))
    (solid_tight b (a ++ s) h (and_left (nat_eq b 63) (begins_by 62 (a ++ s)) e))

-- ---- variables and numbers

abbrev is_variable : Kind → Bool
is_variable Variable = true
is_variable _ = false

pub first_byte : (x b : ℕ) (more : Bool) → ((nat_eq x (lower b) && more) || false) ≡ true → nat_eq x (lower b) ≡ true
first_byte x b more h = (and_parts (nat_eq x (lower b)) more (or_none (nat_eq x (lower b) && more) h)).0

pub variable_stays : (b : ℕ) (a r s : List ℕ) → Alike r s → Stays Variable b a r s
variable_stays b a r s alike h =
    let same : b ≡ 36 = mark_same 36 b refl (first_byte 36 b _ (longest_meets is_variable V74 code (b ∷ a) r Variable refl h)) in
    solid_stays Variable b a r s alike (rw same refl) (rw same refl) h

-- a digit or a point
abbrev pub is_numeral : ℕ → Bool
is_numeral b = is_digit b || nat_eq b 46

numeral_solid : (b : ℕ) → is_numeral b ≡ true → is_solid b ≡ true
numeral_solid b h = grind (arith, nat_tests)

numeral_plain : (b : ℕ) → is_numeral b ≡ true → nat_eq b 63 ≡ false
numeral_plain b h = grind (arith, nat_tests)

numeral_stays : (kind : Kind) (b : ℕ) (a r s : List ℕ) → Alike r s → is_numeral b ≡ true → Stays kind b a r s
numeral_stays kind b a r s alike h = solid_stays kind b a r s alike (numeral_solid b h) (numeral_plain b h)

abbrev pub is_decimal : Kind → Bool
is_decimal Decimal = true
is_decimal _ = false

abbrev pub is_octal : Kind → Bool
is_octal Octal = true
is_octal _ = false

abbrev pub is_hexadecimal : Kind → Bool
is_hexadecimal Hexadecimal = true
is_hexadecimal _ = false

abbrev pub is_binary : Kind → Bool
is_binary Binary = true
is_binary _ = false

abbrev pub is_float : Kind → Bool
is_float Float = true
is_float _ = false

abbrev pub is_semi : Kind → Bool
is_semi Semi = true
is_semi _ = false

abbrev pub is_backtick : Kind → Bool
is_backtick Backtick = true
is_backtick _ = false

zero_numeral : (b : ℕ) → nat_eq 48 (lower b) ≡ true → is_numeral b ≡ true
zero_numeral b h = rw (mark_same 48 b refl h) refl

decimal_first : (b : ℕ) (a r : List ℕ) (x : Bool) → is_digit b ≡ x → meets [] (picked is_decimal (code_rows V74)) (b ∷ a) r ≡ true → is_numeral b ≡ true
decimal_first b a r true e h = rw e refl
decimal_first b a r false e h = absurd (let clash = rw e at h in cc)

float_first : (b : ℕ) (a r : List ℕ) (x y : Bool) → is_digit b ≡ x → nat_eq b 46 ≡ y → meets [] (picked is_float (code_rows V74)) (b ∷ a) r ≡ true → is_numeral b ≡ true
float_first b a r true y e f h = rw e refl
float_first b a r false true e f h = rw (e, f) refl
float_first b a r false false e f h = absurd (let clash = rw (e, f) at h in cc)

pub decimal_stays : (b : ℕ) (a r s : List ℕ) → Alike r s → Stays Decimal b a r s
decimal_stays b a r s alike h = numeral_stays Decimal b a r s alike (decimal_first b a r (is_digit b) refl (longest_meets is_decimal V74 code (b ∷ a) r Decimal refl h)) h

pub octal_stays : (b : ℕ) (a r s : List ℕ) → Alike r s → Stays Octal b a r s
octal_stays b a r s alike h = numeral_stays Octal b a r s alike (zero_numeral b (first_byte 48 b _ (longest_meets is_octal V74 code (b ∷ a) r Octal refl h))) h

pub hexadecimal_stays : (b : ℕ) (a r s : List ℕ) → Alike r s → Stays Hexadecimal b a r s
hexadecimal_stays b a r s alike h = numeral_stays Hexadecimal b a r s alike
    (zero_numeral b (first_byte 48 b _ (longest_meets is_hexadecimal V74 code (b ∷ a) r Hexadecimal refl h))) h

pub binary_stays : (b : ℕ) (a r s : List ℕ) → Alike r s → Stays Binary b a r s
binary_stays b a r s alike h = numeral_stays Binary b a r s alike (zero_numeral b (first_byte 48 b _ (longest_meets is_binary V74 code (b ∷ a) r Binary refl h))) h

pub float_stays : (b : ℕ) (a r s : List ℕ) → Alike r s → Stays Float b a r s
float_stays b a r s alike h = numeral_stays Float b a r s alike (float_first b a r (is_digit b) (nat_eq b 46) refl refl (longest_meets is_float V74 code (b ∷ a) r Float refl h)) h

-- ---- tokens of some words of marks

abbrev pub all_pass : (List ℕ → Bool) → List Row → Bool
all_pass p [] = true
all_pass p (rule kind w tail ∷ rows) = p w && all_pass p rows

one_passes : (p : List ℕ → Bool) (rows : List Row) (t : List ℕ) → all_pass p rows ≡ true → OneOf rows t → p t ≡ true
one_passes p [] t h e = absurd e
one_passes p (rule kind w tail ∷ rows) t h (inl e) = ap p e ∙ (and_parts (p w) (all_pass p rows) h).0
one_passes p (rule kind w tail ∷ rows) t h (inr e) = one_passes p rows t (and_parts (p w) (all_pass p rows) h).1 e

passes : (is : Kind → Bool) (p : List ℕ → Bool) (kind : Kind) (b : ℕ) (a r : List ℕ) → is kind ≡ true
    → all_words (picked is (code_rows V74)) ≡ true → all_pass p (picked is (code_rows V74)) ≡ true
    → IsLongest V74 code (b ∷ a ++ r) kind (suc (length a)) → p (b ∷ a) ≡ true
passes is p kind b a r chosen words all h =
    one_passes p (picked is (code_rows V74)) (b ∷ a) all (one_of (picked is (code_rows V74)) (b ∷ a) r words (longest_meets is V74 code (b ∷ a) r kind chosen h))

abbrev pub solid_text : List ℕ → Bool
solid_text [] = false
solid_text (b ∷ a) = is_solid b && not (nat_eq b 63)

pub semi_stays : (b : ℕ) (a r s : List ℕ) → Alike r s → Stays Semi b a r s
semi_stays b a r s alike h =
    let (solid, plain) = and_parts (is_solid b) (not (nat_eq b 63)) (passes is_semi solid_text Semi b a r refl refl refl h) in
    solid_stays Semi b a r s alike solid (not-true (nat_eq b 63) plain) h

pub backtick_stays : (b : ℕ) (a r s : List ℕ) → Alike r s → Stays Backtick b a r s
backtick_stays b a r s alike h =
    let (solid, plain) = and_parts (is_solid b) (not (nat_eq b 63)) (passes is_backtick solid_text Backtick b a r refl refl refl h) in
    solid_stays Backtick b a r s alike solid (not-true (nat_eq b 63) plain) h

abbrev pub close_text : List ℕ → Bool
close_text [] = false
close_text (b ∷ a) = nat_eq b 63 && begins_by 62 a

close_is : (a r s : List ℕ) → begins_by 62 a ≡ true → close_ends (drop 1 a) s ≡ true → Stays Close 63 a r s
close_is [] r s e k h = absurd cc
close_is (c ∷ a) r s e k h =
    let same : c ≡ 62 = eqb-true c 62 e in
    subst (λ (x : ℕ). IsLongest V74 code (63 ∷ x ∷ a ++ s) Close (suc (suc (length a)))) (sym same)
    (closing_tags_stay V74 V74 a r s k (subst (λ (x : ℕ). IsLongest V74 code (63 ∷ x ∷ a ++ r) Close (suc (suc (length a)))) same h))

pub close_stays : (b : ℕ) (a r s : List ℕ) → close_ends (drop 1 a) s ≡ true → Stays Close b a r s
close_stays b a r s k h =
    let (first, second) = and_parts (nat_eq b 63) (begins_by 62 a) (passes is_close close_text Close b a r refl refl refl h) in
    subst (λ (x : ℕ). Stays Close x a r s) (sym (eqb-true b 63 first)) (close_is a r s second k) h

-- ---- operators

abbrev pub op_text : List ℕ → Bool
op_text [] = false
op_text (b ∷ a) = cond (nat_eq b 40) (is_empty a) (nat_eq b 47 || nat_eq b 60 || is_solid b && not (nat_eq b 63 && begins_by 62 a))

not_closing : (r : List ℕ) → begins_by 62 r ≡ true → IsLongest V74 code (63 ∷ r) Op 1 → ⊥
not_closing [] e h = cc
not_closing (c ∷ r) e h =
    let there = subst (λ (x : ℕ). IsLongest V74 code (63 ∷ x ∷ r) Op 1) (eqb-true c 62 e) h in
    let none : kind_of V74 code (63 ∷ 62 ∷ []) r ≡ None = there.longest 2 (omega arith) (omega arith) in cc

question_by : (b : ℕ) (r : List ℕ) (x y : Bool) → nat_eq b 63 ≡ x → begins_by 62 r ≡ y → IsLongest V74 code (b ∷ r) Op 1 → (x && y) ≡ false
question_by b r false y e f h = refl
question_by b r true false e f h = refl
question_by b r true true e f h = absurd (not_closing r f (subst (λ (x : ℕ). IsLongest V74 code (x ∷ r) Op 1) (eqb-true b 63 e) h))

solid_op : (b : ℕ) (a r s : List ℕ) → Alike r s → is_solid b ≡ true → (nat_eq b 63 && begins_by 62 a) ≡ false
    → (nat_eq b 63 && (is_empty a && begins_by 62 s)) ≡ false → Stays Op b a r s
solid_op b [] r s alike h e k l =
    near_tokens_stay Op b [] r s alike (solid_tight b r h (question_by b r (nat_eq b 63) (begins_by 62 r) refl refl l)) (solid_tight b s h k) l
solid_op b (z ∷ a) r s alike h e k l = near_tokens_stay Op b (z ∷ a) r s alike (solid_tight b (z ∷ a ++ r) h e) (solid_tight b (z ∷ a ++ s) h e) l

opening_is : (a r s : List ℕ) → is_empty a ≡ true → not (begins_cast s) ≡ true → Stays Op 40 a r s
opening_is [] r s e k h = openings_are_uncast.opens V74 s (not-true (begins_cast s) k)
opening_is (c ∷ a) r s e k h = absurd cc

op_by : (b : ℕ) (a r s : List ℕ) → Alike r s → (x y z : Bool) → nat_eq b 40 ≡ x → nat_eq b 47 ≡ y → nat_eq b 60 ≡ z
    → cond x (is_empty a) (y || z || is_solid b && not (nat_eq b 63 && begins_by 62 a)) ≡ true
    → cond x (not (begins_cast s)) (cond y (slash_ends a s) (cond z (less_ends a s)
    (not (nat_eq b 63 && (is_empty a && begins_by 62 s))))) ≡ true → Stays Op b a r s
op_by b a r s alike true y z e f g t k = subst (λ (x : ℕ). Stays Op x a r s) (sym (eqb-true b 40 e)) (opening_is a r s t k)
op_by b a r s alike false true z e f g t k = subst (λ (x : ℕ). Stays Op x a r s) (sym (eqb-true b 47 f)) (slashes_stay V74 V74 a r s k)
op_by b a r s alike false false true e f g t k = subst (λ (x : ℕ). Stays Op x a r s) (sym (eqb-true b 60 g)) (angles_stay V74 V74 a r s k)
op_by b a r s alike false false false e f g t k =
    let (solid, plain) = and_parts (is_solid b) (not (nat_eq b 63 && begins_by 62 a)) t in
    solid_op b a r s alike solid (not-true (nat_eq b 63 && begins_by 62 a) plain) (not-true (nat_eq b 63 && (is_empty a && begins_by 62 s)) k)

pub op_stays : (b : ℕ) (a r s : List ℕ) → Alike r s → operator_stays b a s ≡ true → Stays Op b a r s
op_stays b a r s alike k h = op_by b a r s alike (nat_eq b 40) (nat_eq b 47) (nat_eq b 60) refl refl refl (passes is_op op_text Op b a r refl refl refl h) k h
