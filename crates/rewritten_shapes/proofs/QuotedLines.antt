-- A backslash put in before the last `$` of a text leaves its lines indented.
use Rattle.std.proofs.Common.{◌≡◌, ℕ, suc, ◌+◌, ◌-◌, Bool, true, false, not, cond, ◌&&◌, ◌||◌, nat_eq, nat_lt, List, [], ◌∷◌, length, take, slice_index, refl, sym, ap, ◌∙◌, arith}
use Rattle.std.specs.List.{prefix_len}
use Rattle.std.specs.Char.{to_ascii_lowercase}
use Rattle.std.proofs.lemmas.Bool.{eqb-true, and_from}
use Rattle.std.proofs.lemmas.Bool.Decides.{nat_tests}
use Rattle.php_terminals.specs.Indents.{blank_len, ends_line, is_blank_byte, is_blank_line, is_indented, is_line_end, line_ends_at, line_fits, margin, starts}
use Rattle.php_terminals.specs.Words.{front, is_word}
use Rattle.tracked_changes.specs.Pieces.{after}
use Rattle.syntax_rules.specs.DollarBrace.{before_last, ends_bare}
use Rattle.rewritten_shapes.proofs.Sides.{and_left, and_right}

-- ---- indentations

-- whether bytes are blanks
abbrev pub are_blank : List ℕ → Bool
are_blank [] = true
are_blank (b ∷ bs) = is_blank_byte b && are_blank bs

one_more : (n : ℕ) → 1 + n ≡ suc n
one_more n = omega arith

prefix_on : (b : ℕ) (bs : List ℕ) → is_blank_byte b ≡ true → prefix_len is_blank_byte (b ∷ bs) ≡ suc (prefix_len is_blank_byte bs)
prefix_on b bs e = ap (λ (x : Bool). cond x (1 + prefix_len is_blank_byte bs) 0) e ∙ one_more (prefix_len is_blank_byte bs)

prefix_off : (b : ℕ) (bs : List ℕ) → is_blank_byte b ≡ false → prefix_len is_blank_byte (b ∷ bs) ≡ 0
prefix_off b bs e = ap (λ (x : Bool). cond x (1 + prefix_len is_blank_byte bs) 0) e

margin_step : (b : ℕ) (bs : List ℕ) (blank : Bool) → is_blank_byte b ≡ blank → are_blank (margin bs) ≡ true → are_blank (margin (b ∷ bs)) ≡ true
margin_step b bs true e h =
    ap (λ (n : ℕ). are_blank (front (length (take n (b ∷ bs))) (b ∷ bs))) (prefix_on b bs e)
    ∙ and_from (is_blank_byte b) (are_blank (margin bs)) e h
margin_step b bs false e h = ap (λ (n : ℕ). are_blank (front (length (take n (b ∷ bs))) (b ∷ bs))) (prefix_off b bs e)

pub margin_blank : (text : List ℕ) → are_blank (margin text) ≡ true
margin_blank [] = refl
margin_blank (b ∷ bs) = margin_step b bs (is_blank_byte b) refl (margin_blank bs)

-- ---- the text with the backslash

-- the new text
abbrev pub put : List ℕ → List ℕ
put text = after (before_last text)

last_is : (escaped : Bool) (b : ℕ) → ends_bare escaped (b ∷ []) ≡ true → b ≡ 36
last_is escaped b e = eqb-true b 36 (and_right (not escaped) (nat_eq b 36) e)

no_blank : (i b : ℕ) → is_blank_byte i ≡ true → b ≡ 36 → nat_eq i (to_ascii_lowercase b) ≡ true → false ≡ true
no_blank i b p e h =
    let same : i ≡ 36 = eqb-true i 36 (ap (λ (x : ℕ). nat_eq i (to_ascii_lowercase x)) (sym e) ∙ h) in
    ap is_blank_byte (sym same) ∙ p

starts_put : (escaped : Bool) (indent text : List ℕ) → are_blank indent ≡ true → ends_bare escaped text ≡ true → starts indent text ≡ true → starts indent (put text) ≡ true
starts_put escaped [] text p e h = refl
starts_put escaped (i ∷ is) [] p e h = absurd cc
starts_put escaped (i ∷ is) (b ∷ []) p e h =
    absurd (let z : false ≡ true = no_blank i b (and_left (is_blank_byte i) (are_blank is) p) (last_is escaped b e)
    (and_left (nat_eq i (to_ascii_lowercase b)) (is_word is (front (length is) [])) h) in cc)
starts_put escaped (i ∷ is) (b ∷ c ∷ bs) p e h =
    and_from (nat_eq i (to_ascii_lowercase b)) (starts is (put (c ∷ bs)))
    (and_left (nat_eq i (to_ascii_lowercase b)) (starts is (c ∷ bs)) h)
    (starts_put (not escaped && nat_eq b 92) is (c ∷ bs) (and_right (is_blank_byte i) (are_blank is) p) e (and_right (nat_eq i (to_ascii_lowercase b)) (starts is (c ∷ bs)) h))

lt_suc : (m n : ℕ) → nat_lt (suc m) (suc n) ≡ nat_lt m n
lt_suc m n = grind (arith, nat_tests)

zero_lt : (n : ℕ) → nat_lt 0 (suc n) ≡ true
zero_lt n = grind (arith, nat_tests)

blank_by : (b : ℕ) (bs : List ℕ) (blank : Bool) → is_blank_byte b ≡ blank → is_blank_line (b ∷ bs) ≡ cond blank (is_blank_line bs) (is_line_end b)
blank_by b bs true e =
    ap (λ (n : ℕ). line_ends_at (length (take n (b ∷ bs))) (b ∷ bs)) (prefix_on b bs e)
    ∙ ap (λ (x : Bool). cond x (is_line_end (slice_index bs (blank_len bs))) false) (lt_suc (blank_len bs) (length bs))
blank_by b bs false e =
    ap (λ (n : ℕ). line_ends_at (length (take n (b ∷ bs))) (b ∷ bs)) (prefix_off b bs e)
    ∙ ap (λ (x : Bool). cond x (is_line_end b) false) (zero_lt (length bs))

cond_map : (x a b c : Bool) → (a ≡ true → b ≡ true) → cond x a c ≡ true → cond x b c ≡ true
cond_map true a b c f h = f h
cond_map false a b c f h = h

blank_put : (escaped : Bool) (text : List ℕ) → ends_bare escaped text ≡ true → is_blank_line text ≡ true → is_blank_line (put text) ≡ true
blank_put escaped [] e h = absurd cc
blank_put escaped (b ∷ []) e h =
    absurd (let z : false ≡ true = ap (λ (x : ℕ). is_blank_line (x ∷ [])) (sym (last_is escaped b e)) ∙ h in cc)
blank_put escaped (b ∷ c ∷ bs) e h =
    blank_by b (put (c ∷ bs)) (is_blank_byte b) refl
    ∙ cond_map (is_blank_byte b) (is_blank_line (c ∷ bs)) (is_blank_line (put (c ∷ bs))) (is_line_end b)
    (blank_put (not escaped && nat_eq b 92) (c ∷ bs) e) (sym (blank_by b (c ∷ bs) (is_blank_byte b) refl) ∙ h)

or_map : (a b c d : Bool) → (a ≡ true → c ≡ true) → (b ≡ true → d ≡ true) → (a || b) ≡ true → (c || d) ≡ true
or_map a b true d f g e = refl
or_map true b false d f g e = absurd (let z : false ≡ true = f refl in cc)
or_map false b false d f g e = g e

line_put : (escaped : Bool) (indent text : List ℕ) → are_blank indent ≡ true → ends_bare escaped text ≡ true → line_fits indent text ≡ true → line_fits indent (put text) ≡ true
unfolding line_fits
line_put escaped indent text p e h =
    or_map (starts indent text) (is_blank_line text) (starts indent (put text)) (is_blank_line (put text)) (starts_put escaped indent text p e) (blank_put escaped text e) h

pub indented_put : (escaped : Bool) (indent : List ℕ) (fresh : Bool) (text : List ℕ) → are_blank indent ≡ true
    → ends_bare escaped text ≡ true → is_indented indent fresh text ≡ true
    → is_indented indent fresh (put text) ≡ true
indented_put escaped indent fresh [] p e h = absurd cc
indented_put escaped indent fresh (b ∷ []) p e h =
    and_from (not fresh || line_fits indent (put (b ∷ []))) true
    (or_map (not fresh) (line_fits indent (b ∷ [])) (not fresh) (line_fits indent (put (b ∷ []))) (λ z. z) (line_put escaped indent (b ∷ []) p e)
    (and_left (not fresh || line_fits indent (b ∷ [])) true h)) refl
indented_put escaped indent fresh (b ∷ c ∷ bs) p e h =
    and_from (not fresh || line_fits indent (put (b ∷ c ∷ bs))) (is_indented indent (is_line_end b) (put (c ∷ bs)))
    (or_map (not fresh) (line_fits indent (b ∷ c ∷ bs)) (not fresh) (line_fits indent (put (b ∷ c ∷ bs))) (λ z. z) (line_put escaped indent (b ∷ c ∷ bs) p e)
    (and_left (not fresh || line_fits indent (b ∷ c ∷ bs)) (is_indented indent (is_line_end b) (c ∷ bs)) h))
    (indented_put (not escaped && nat_eq b 92) indent (is_line_end b) (c ∷ bs) p e
    (and_right (not fresh || line_fits indent (b ∷ c ∷ bs)) (is_indented indent (is_line_end b) (c ∷ bs)) h))

-- ---- the end of the text

less_one : (n : ℕ) → suc n - 1 ≡ n
less_one n = omega arith

not_zero : (n : ℕ) → nat_eq (suc n) 0 ≡ false
not_zero n = grind (arith, nat_tests)

ends_some : (fresh : Bool) (b : ℕ) (bs : List ℕ) → ends_line fresh (b ∷ bs) ≡ is_line_end (slice_index (b ∷ bs) (length bs))
ends_some fresh b bs =
    ap (λ (x : Bool). cond x fresh (is_line_end (slice_index (b ∷ bs) (suc (length bs) - 1)))) (not_zero (length bs))
    ∙ ap (λ (n : ℕ). is_line_end (slice_index (b ∷ bs) n)) (less_one (length bs))

ends_step : (fresh : Bool) (b c : ℕ) (bs : List ℕ) → ends_line fresh (b ∷ c ∷ bs) ≡ ends_line (is_line_end b) (c ∷ bs)
ends_step fresh b c bs = ends_some fresh b (c ∷ bs) ∙ sym (ends_some (is_line_end b) c bs)

pub ends_bare_line : (escaped fresh : Bool) (text : List ℕ) → ends_bare escaped text ≡ true → ends_line fresh text ≡ false
ends_bare_line escaped fresh [] e = absurd cc
ends_bare_line escaped fresh (b ∷ []) e = ap is_line_end (last_is escaped b e)
ends_bare_line escaped fresh (b ∷ c ∷ bs) e = ends_step fresh b c bs ∙ ends_bare_line (not escaped && nat_eq b 92) (is_line_end b) (c ∷ bs) e

pub put_line : (escaped fresh : Bool) (text : List ℕ) → ends_bare escaped text ≡ true → ends_line fresh (put text) ≡ false
put_line escaped fresh [] e = absurd cc
put_line escaped fresh (b ∷ []) e = ap is_line_end (last_is escaped b e)
put_line escaped fresh (b ∷ c ∷ []) e =
    ends_step fresh b 92 (c ∷ []) ∙ put_line (not escaped && nat_eq b 92) (is_line_end b) (c ∷ []) e
put_line escaped fresh (b ∷ c ∷ d ∷ bs) e =
    ends_step fresh b c (put (d ∷ bs)) ∙ put_line (not escaped && nat_eq b 92) (is_line_end b) (c ∷ d ∷ bs) e
