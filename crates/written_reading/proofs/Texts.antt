-- The texts of labels, casts and `${`.
use Rattle.std.proofs.Common.{◌≡◌, ℕ, ◌+◌, Bool, true, false, cond, not, ◌&&◌, ◌||◌, nat_eq, nat_le, nat_lt, List, [], ◌∷◌, map, codes, refl, sym, ap, ◌∙◌, subst, arith}
use Rattle.std.specs.Str.{bytes_eq, str_to_ascii_lowercase}
use Rattle.std.specs.Char.{to_ascii_lowercase}
use Rattle.std.proofs.lemmas.Bool.{and_parts, eqb-true}
use Rattle.std.proofs.lemmas.Bool.Decides.{nat_tests}
use Rattle.std.proofs.lemmas.Slice.Eq.{bytes_eq-Decides}
use Rattle.php_spellings.specs.declared.table.State.{State}
use Rattle.php_spellings.specs.declared.table.State.TheVariants.{First, Plain, Escaped}
use Rattle.php_spellings.specs.declared.table.Run.TheVariants.{Labels}
use Rattle.php_spellings.specs.declared.table.Until.TheVariants.{CastWord}
use Rattle.php_spellings.specs.declared.table.Follow.TheVariants.{Anything}
use Rattle.php_spellings.specs.Bytes.{is_empty, is_letter, is_label_byte, is_blank_byte, lower}
use Rattle.php_spellings.specs.Words.{keywords, is_keyword}
use Rattle.php_lexer.specs.Heredocs.{led, no_more}
use Rattle.php_lexer.specs.Tails.{some_run, is_run, is_until}
use Rattle.php_lexer.specs.Rules.{follows}
use Rattle.php_relexing.proofs.LowerCase.{same_as_one, keyword_lower}
use Rattle.syntax_rules.specs.Casts.{bare}
use Rattle.rewritten_shapes.specs.Laws.{has_no_root}

-- ---- lower case

lower_by : (b : ℕ) (t u w : Bool) → nat_lt b 65 ≡ t → nat_lt b 91 ≡ u → (nat_le 65 b && nat_le b 90) ≡ w → cond t b (cond u (b + 32) b) ≡ cond w (b + 32) b
lower_by b true u true p q r = absurd (let clash : true ≡ false = grind (arith, nat_tests) in cc)
lower_by b true u false p q r = refl
lower_by b false true true p q r = refl
lower_by b false true false p q r = absurd (let clash : true ≡ false = grind (arith, nat_tests) in cc)
lower_by b false false true p q r = absurd (let clash : true ≡ false = grind (arith, nat_tests) in cc)
lower_by b false false false p q r = refl

pub lower_is : (b : ℕ) → to_ascii_lowercase b ≡ lower b
lower_is b = lower_by b (nat_lt b 65) (nat_lt b 91) (nat_le 65 b && nat_le b 90) refl refl refl

lowers_are : (bs : List ℕ) → map lower bs ≡ str_to_ascii_lowercase bs
lowers_are [] = refl
lowers_are (b ∷ bs) = rw (lower_is b, lowers_are bs) refl

-- whether a byte has no letter of another case
abbrev pub is_caseless : ℕ → Bool
is_caseless a = nat_le a 96 && not (nat_le 65 a && nat_le a 90) || nat_le 123 a

by_case : (a b : ℕ) (u w : Bool) → (nat_le 65 b && nat_le b 90) ≡ u → is_caseless a ≡ true → nat_eq a (cond u (b + 32) b) ≡ true → b ≡ a
by_case a b true w p c h = absurd (let e : a ≡ b + 32 = eqb-true a (b + 32) h in let clash : true ≡ false = grind (arith, nat_tests) in cc)
by_case a b false w p c h = sym (eqb-true a b h)

pub caseless : (a b : ℕ) → is_caseless a ≡ true → nat_eq a (lower b) ≡ true → b ≡ a
caseless a b c h = by_case a b (nat_le 65 b && nat_le b 90) true refl c h

-- ---- labels

not_root_by : (b : ℕ) (t : Bool) → nat_eq b 92 ≡ t → is_label_byte b ≡ true → not t ≡ true
not_root_by b true e h = let g : is_label_byte 92 ≡ true = subst (λ (x : ℕ). is_label_byte x ≡ true) (eqb-true b 92 e) h in absurd cc
not_root_by b false e h = refl

not_root : (b : ℕ) → is_label_byte b ≡ true → not (nat_eq b 92) ≡ true
not_root b h = not_root_by b (nat_eq b 92) refl h

pub letter_label : (b : ℕ) → is_letter b ≡ true → is_label_byte b ≡ true
letter_label b h = rw h refl

pub both : {x y : Bool} → x ≡ true → y ≡ true → (x && y) ≡ true
both p q = rw (p, q) refl

run_rootless : (label : List ℕ) (s : State) (text rest : List ℕ) → is_run Labels label s text rest ≡ true → has_no_root text ≡ true
run_rootless label s [] rest h = refl
run_rootless label First (b ∷ bs) rest h =
    let p = and_parts (is_letter b) (is_run Labels label Plain bs rest) h in
    both (not_root b (letter_label b p.0)) (run_rootless label Plain bs rest p.1)
run_rootless label Plain (b ∷ bs) rest h =
    let p = and_parts (is_label_byte b) (is_run Labels label Plain bs rest) h in
    both (not_root b p.0) (run_rootless label Plain bs rest p.1)
run_rootless label Escaped (b ∷ bs) rest h =
    let p = and_parts (is_label_byte b) (is_run Labels label Plain bs rest) h in
    both (not_root b p.0) (run_rootless label Plain bs rest p.1)

-- a label has some bytes, none of them `\`
pub label_text : (label text rest : List ℕ) → some_run Labels label First text rest ≡ true → (not (is_empty text) && has_no_root text) ≡ true
label_text label text rest h =
    let p = and_parts (not (is_empty text)) (is_run Labels label First text rest) h in
    both p.0 (run_rootless label First text rest p.1)

keyword_by : (text : List ℕ) (t : Bool) → bytes_eq (str_to_ascii_lowercase text) (codes "namespace") ≡ t → is_keyword text ≡ false → t ≡ false
keyword_by text true e h =
    let low : map lower text ≡ codes "namespace" = lowers_are text ∙ (bytes_eq-Decides (str_to_ascii_lowercase text) (codes "namespace")).0 e in
    let word : is_keyword text ≡ true = keyword_lower text ∙ ap (same_as_one keywords) low in
    absurd cc
keyword_by text false e h = refl

-- a word that is no keyword is not `namespace`
pub no_namespace : (text : List ℕ) → is_keyword text ≡ false → bytes_eq (str_to_ascii_lowercase text) (codes "namespace") ≡ false
no_namespace text h = keyword_by text (bytes_eq (str_to_ascii_lowercase text) (codes "namespace")) refl h

-- ---- `${`

pub nothing : (bs : List ℕ) → is_empty bs ≡ true → bs ≡ []
nothing [] h = refl
nothing (b ∷ bs) h = absurd cc

pub dollar_brace : (text rest : List ℕ) → led lower (codes "${") (no_more (follows Anything)) text rest ≡ true → bytes_eq text (codes "${") ≡ true
dollar_brace [] rest h = absurd cc
dollar_brace (b ∷ []) rest h = absurd (let p = and_parts (nat_eq 36 (lower b)) false h in let e = p.1 in cc)
dollar_brace (b ∷ c ∷ bs) rest h =
    let p = and_parts (nat_eq 36 (lower b)) (nat_eq 123 (lower c) && (is_empty bs && true)) h in
    let q = and_parts (nat_eq 123 (lower c)) (is_empty bs && true) p.1 in
    let r = and_parts (is_empty bs) true q.1 in
    subst (λ (x : ℕ). bytes_eq (x ∷ c ∷ bs) (codes "${") ≡ true) (sym (caseless 36 b refl p.0))
    (subst (λ (x : ℕ). bytes_eq (36 ∷ x ∷ bs) (codes "${") ≡ true) (sym (caseless 123 c refl q.0))
    (subst (λ (x : List ℕ). bytes_eq (36 ∷ 123 ∷ x) (codes "${") ≡ true) (sym (nothing bs r.0)) refl))

-- ---- casts

pub bare_blank : (b : ℕ) (bs : List ℕ) → is_blank_byte b ≡ true → bare (b ∷ bs) ≡ bare bs
bare_blank b bs h = rw h refl

pub bare_kept : (b : ℕ) (bs : List ℕ) → is_blank_byte b ≡ false → bare (b ∷ bs) ≡ to_ascii_lowercase b ∷ bare bs
bare_kept b bs h = rw h refl

-- behind the word stand blanks and `)`
escaped_by : (b : ℕ) (bs rest : List ℕ) (t u : Bool) → is_blank_byte b ≡ t → nat_eq b 41 ≡ u
    → (is_until CastWord Escaped bs rest ≡ true → bare bs ≡ 41 ∷ [])
    → (not (not (t || u)) && cond u (is_empty bs) (is_until CastWord Escaped bs rest)) ≡ true → bare (b ∷ bs) ≡ 41
    ∷ []
escaped_by b bs rest true true e f ih h = absurd (let g : is_blank_byte 41 ≡ true = subst (λ (x : ℕ). is_blank_byte x ≡ true) (eqb-true b 41 f) e in cc)
escaped_by b bs rest true false e f ih h = bare_blank b bs e ∙ ih h
escaped_by b bs rest false true e f ih h =
    bare_kept b bs e ∙ ap (λ (x : ℕ). to_ascii_lowercase x ∷ bare bs) (eqb-true b 41 f) ∙ ap (λ (x : List ℕ). 41 ∷ bare x) (nothing bs h)
escaped_by b bs rest false false e f ih h = absurd cc

pub escaped_bare : (text rest : List ℕ) → is_until CastWord Escaped text rest ≡ true → bare text ≡ 41 ∷ []
escaped_bare [] rest h = absurd cc
escaped_bare (b ∷ bs) rest h = escaped_by b bs rest (is_blank_byte b) (nat_eq b 41) refl refl (escaped_bare bs rest) h
