-- What is counted is within the bytes.
use Rattle.std.proofs.Common.{
  ◌≡◌,
  ℕ,
  zero,
  suc,
  ◌+◌,
  ◌≤◌,
  ◌<◌,
  nat_eq,
  ◌∙◌,
  Bool,
  true,
  false,
  ◌&&◌,
  List,
  [],
  ◌∷◌,
  length,
  drop,
  Option,
  Some,
  None,
  refl,
  sym,
  subst,
  arith,
  length-drop,
}
use Rattle.std.specs.Prelude.{IfSome}
use Rattle.php_spellings.specs.declared.table.Tail.{Tail}
use Rattle.std.proofs.lemmas.List.Folds.{length-prefix_len}
use Rattle.php_spellings.specs.Bytes.{is_letter, is_label_byte, is_line_end, begins, begins_by, blanks_len, skip_blanks, label_len}
use Rattle.php_lexer.specs.Heredocs.{is_body, begins_nowdoc, behind_quote, nowdoc_label, nowdoc_head}
use Rattle.php_lexer.specs.Rules.{is_tail}
use Rattle.php_lexer.specs.Scan.{body_len, tail_len}
use Rattle.php_lexer.proofs.Counts.{Describes}
use Rattle.php_lexer.proofs.HeredocCounts.{describes_body}
use Rattle.php_lexer.proofs.TailCounts.{describes_tail}

within : (is : List ℕ → List ℕ → Bool) (bs : List ℕ) (o : Option ℕ) → Describes is bs o → IfSome o (λ n. n ≤ length bs)
within is bs None d = tt
within is bs (Some n) d = d.0

pub tail_within : (label : List ℕ) (tail : Tail) (bs : List ℕ) (o : Option ℕ) → o ≡ tail_len label tail bs → IfSome o (λ n. n ≤ length bs)
tail_within label tail bs o e = subst (λ (x : Option ℕ). IfSome x (λ n. n ≤ length bs)) (sym e)
    (within (is_tail label tail) bs (tail_len label tail bs) (describes_tail label tail bs))

pub body_within : (label : List ℕ) (bs : List ℕ) (o : Option ℕ) → o ≡ body_len label false bs → IfSome o (λ n. n ≤ length bs)
body_within label bs o e = subst (λ (x : Option ℕ). IfSome x (λ n. n ≤ length bs)) (sym e)
    (within (is_body label false) bs (body_len label false bs) (describes_body label false bs))

-- ---- the first line of a nowdoc

begins_at : (p : ℕ → Bool) (k : ℕ) (bs : List ℕ) → begins p (drop k bs) ≡ true → k < length bs
begins_at p zero [] e = absurd cc
begins_at p zero (b ∷ bs) e = omega arith
begins_at p (suc k) [] e = absurd cc
begins_at p (suc k) (b ∷ bs) e = let lt = begins_at p k bs e in omega arith

and_first : (x y : Bool) → (x && y) ≡ true → x ≡ true
and_first true y e = refl
and_first false y e = absurd cc

and_second : (x y : Bool) → (x && y) ≡ true → y ≡ true
and_second true y e = e
and_second false y e = absurd cc

label_size : (bs : List ℕ) → length (nowdoc_label bs) ≡ label_len (behind_quote bs)
label_size bs = length-prefix_len is_label_byte (behind_quote bs)

head_by : (bs : List ℕ) (p q r s : Bool) → begins_by 39 (skip_blanks bs) ≡ p
    → begins_by 39 (drop (label_len (behind_quote bs)) (behind_quote bs)) ≡ r → (((p && q) && r) && s) ≡ true
    → nowdoc_head bs ≤ length bs
head_by bs p q r s ep er e =
    let first = and_first ((p && q) && r) s e in
    let quote = ep ∙ and_first p q (and_first (p && q) r first) in
    let close = er ∙ and_second (p && q) r first in
    let one = begins_at (λ b. nat_eq b 39) (blanks_len bs) bs quote in
    let two = begins_at (λ b. nat_eq b 39) (label_len (behind_quote bs)) (behind_quote bs) close in
    let size = length-drop 1 (skip_blanks bs) in
    let more = length-drop (blanks_len bs) bs in
    omega arith

pub head_within : (bs : List ℕ) → begins_nowdoc bs ≡ true → blanks_len bs + length (nowdoc_label bs) + 2 ≤ length bs
head_within bs e =
    let le = head_by bs _ (begins is_letter (behind_quote bs)) _ (begins is_line_end (drop (label_len (behind_quote bs) + 1) (behind_quote bs))) refl refl e in
    let same = label_size bs in
    omega arith
