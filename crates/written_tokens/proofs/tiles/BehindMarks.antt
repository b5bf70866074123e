-- What the source's comments of one line and its marks say of the bytes behind them.
use Rattle.std.proofs.Common.{
  ◌≡◌,
  ℕ,
  suc,
  ◌+◌,
  Bool,
  true,
  false,
  cond,
  not,
  ◌&&◌,
  ◌||◌,
  nat_eq,
  nat_le,
  nat_lt,
  List,
  [],
  ◌∷◌,
  ◌++◌,
  length,
  drop,
  Some,
  None,
  inl,
  inr,
  refl,
  sym,
  ◌∙◌,
  subst,
  arith,
}
use Rattle.std.proofs.lemmas.Bool.{and_parts, eqb-true, and_from}
use Rattle.std.proofs.lemmas.Bool.Decides.{nat_tests}
use Rattle.php_tree.specs.declared.version.Version.TheVariants.{V74}
use Rattle.php_spellings.specs.declared.table.Kind.{Kind}
use Rattle.php_spellings.specs.declared.table.Kind.TheVariants.{Comment, Op, Close}
use Rattle.php_spellings.specs.declared.table.State.{State}
use Rattle.php_spellings.specs.declared.table.State.TheVariants.{First, Plain}
use Rattle.php_spellings.specs.declared.table.Run.TheVariants.{Line}
use Rattle.php_spellings.specs.declared.table.Until.TheVariants.{Block}
use Rattle.php_spellings.specs.declared.table.Tail.TheVariants.{AnyRun, UpTo}
use Rattle.php_spellings.specs.Bytes.{is_line_end, lower, begins, begins_by, starts_word}
use Rattle.php_lexer.specs.Heredocs.{led, begins_nowdoc}
use Rattle.php_lexer.specs.Tails.{in_line}
use Rattle.php_lexer.specs.Rules.{is_tail}
use Rattle.php_lexer.specs.Scan.{scan, run_len}
use Rattle.php_lexer.specs.Modes.{code, kind_of, IsLongest}
use Rattle.php_relexing.specs.Angles.{slash_ends, less_ends}
use Rattle.php_relexing.specs.Comments.{stops_line}
use Rattle.php_relexing.proofs.Operators.{or_case, mark_same, is_op}
use Rattle.php_relexing.proofs.Picked.{longest_meets}
use Rattle.php_relexing.proofs.Scanned.{found, found_length, scan_of}
use Rattle.written_tokens.proofs.tiles.Longer.{longer_none, or_none, opposite}

-- ---- comments of one line

abbrev is_comment : Kind → Bool
is_comment Comment = true
is_comment _ = false

no_or : (x y : Bool) → (not x && not y) ≡ false → (x || y) ≡ true
no_or true y h = refl
no_or false true h = refl
no_or false false h = absurd cc

step_by : (x : Bool) (n m : ℕ) → cond x (1 + n) 0 ≡ suc m → (x ≡ true) × (n ≡ m)
step_by true n m e = (refl, omega arith)
step_by false n m e = absurd (omega arith)

zero_by : (x : Bool) (n : ℕ) → cond x (1 + n) 0 ≡ 0 → x ≡ false
zero_by true n e = absurd (omega arith)
zero_by false n e = refl

line_ends : (st : State) (a r : List ℕ) → run_len Line [] st (a ++ r) ≡ length a → stops_line r ≡ true
line_ends st [] [] h = refl
line_ends st [] (c ∷ r) h = no_or (is_line_end c) (nat_eq c 63 && begins_by 62 r) (zero_by (in_line c r) (run_len Line [] Plain r) h)
line_ends st (b ∷ a) r h = line_ends Plain a r (step_by (in_line b (a ++ r)) (run_len Line [] Plain (a ++ r)) (length a) h).1

hash_ends : (a r : List ℕ) → IsLongest V74 code (35 ∷ a ++ r) Comment (suc (length a)) → stops_line r ≡ true
hash_ends a r h =
    let size : 1 + run_len Line [] First (a ++ r) ≡ suc (length a) =
    found_length Comment Comment (1 + run_len Line [] First (a ++ r)) (suc (length a))
    (scan_of V74 code (35 ∷ a ++ r) Comment (suc (length a)) h) in
    line_ends First a r (omega arith)

not_less : (n : ℕ) → nat_lt (2 + n) 1 ≡ false
not_less n = grind (arith, nat_tests)

slash_scan : (bs : List ℕ) → scan V74 code (47 ∷ 47 ∷ bs) ≡ found Comment (2 + run_len Line [] First bs)
slash_scan bs = rw (not_less (run_len Line [] First bs)) refl

slash_line : (a r : List ℕ) → IsLongest V74 code (47 ∷ 47 ∷ a ++ r) Comment (suc (suc (length a))) → stops_line r ≡ true
slash_line a r h =
    let size : 2 + run_len Line [] First (a ++ r) ≡ suc (suc (length a)) =
    found_length Comment Comment (2 + run_len Line [] First (a ++ r)) (suc (suc (length a)))
    (sym (slash_scan (a ++ r)) ∙ scan_of V74 code (47 ∷ 47 ∷ a ++ r) Comment (suc (suc (length a))) h) in
    line_ends First a r (omega arith)

same_byte : (c y : ℕ) → c ≡ y → nat_eq c y ≡ true
same_byte c y e = grind (arith, nat_tests)

led_second : (y : ℕ) (p : List ℕ → List ℕ → Bool) (a r : List ℕ) → (not (nat_le 97 y && nat_le y 122)) ≡ true → led lower (y ∷ []) p a r ≡ true → begins_by y a ≡ true
led_second y p [] r mark h = absurd cc
led_second y p (c ∷ a) r mark h = same_byte c y (mark_same y c mark (and_parts (nat_eq y (lower c)) (led lower [] p a r) h).0)

second_line : (a r : List ℕ) → begins_by 47 a ≡ true → IsLongest V74 code (47 ∷ a ++ r) Comment (suc (length a)) → stops_line r ≡ true
second_line [] r e h = absurd cc
second_line (c ∷ a) r e h = slash_line a r (subst (λ (x : ℕ). IsLongest V74 code (47 ∷ x ∷ a ++ r) Comment (suc (suc (length a)))) (eqb-true c 47 e) h)

-- behind a comment that isn't between `/*` and `*/`
pub line_behind : (b : ℕ) (a r : List ℕ) → (nat_eq b 47 && begins_by 42 a) ≡ false → IsLongest V74 code (b ∷ a ++ r) Comment (suc (length a)) → stops_line r ≡ true
line_behind b a r plain h =
    elim (or_case (led lower (35 ∷ []) (is_tail [] (AnyRun Line)) (b ∷ a) r) _ (longest_meets is_comment V74 code (b ∷ a) r Comment refl h)) [
      | inl hash ↦
          let same : b ≡ 35 = mark_same 35 b refl (and_parts (nat_eq 35 (lower b)) _ hash).0 in
          hash_ends a r (subst (λ (x : ℕ). IsLongest V74 code (x ∷ a ++ r) Comment (suc (length a))) same h)
      | inr slash ↦ elim (or_case (led lower (47 ∷ 42 ∷ []) (is_tail [] (UpTo Block)) (b ∷ a) r) _ slash) [
        | inl block ↦
            let (first, more) = and_parts (nat_eq 47 (lower b)) (led lower (42 ∷ []) (is_tail [] (UpTo Block)) a r) block in
            let second = led_second 42 (is_tail [] (UpTo Block)) a r refl more in
            let same : b ≡ 47 = mark_same 47 b refl first in
            opposite (nat_eq b 47 && begins_by 42 a) (and_from (nat_eq b 47) (begins_by 42 a) (same_byte b 47 same) second) plain
        | inr line ↦
            let (first, more) = and_parts (nat_eq 47 (lower b)) (led lower (47 ∷ []) (is_tail [] (AnyRun Line)) a r) (or_none _ line) in
            let second = led_second 47 (is_tail [] (AnyRun Line)) a r refl more in
            let same : b ≡ 47 = mark_same 47 b refl first in
            second_line a r second (subst (λ (x : ℕ). IsLongest V74 code (x ∷ a ++ r) Comment (suc (length a))) same h)
      ]
    ]

-- ---- `?`, `?>`, `/` and `<`

pub question_behind : (kind : Kind) (r : List ℕ) → IsLongest V74 code (63 ∷ r) kind 1 → begins_by 62 r ≡ false
question_behind kind [] h = refl
question_behind kind (c ∷ r) h = by_case (nat_eq c 62) refl
  where
    by_case : (x : Bool) → nat_eq c 62 ≡ x → x ≡ false
    by_case false e = refl
    by_case true e =
        let there = subst (λ (x : ℕ). IsLongest V74 code (63 ∷ x ∷ r) kind 1) (eqb-true c 62 e) h in
        absurd (let none : kind_of V74 code (63 ∷ 62 ∷ []) r ≡ None = longer_none 63 62 [] r kind there in cc)

-- the byte behind isn't this one
not_next : (y b c : ℕ) (a r : List ℕ) (kind : Kind) → (IsLongest V74 code (b ∷ a ++ y ∷ r) kind (suc (length a)) → ⊥)
    → IsLongest V74 code (b ∷ a ++ c ∷ r) kind (suc (length a)) → nat_eq c y ≡ false
not_next y b c a r kind f h = by_case (nat_eq c y) refl
  where
    by_case : (x : Bool) → nat_eq c y ≡ x → x ≡ false
    by_case false e = refl
    by_case true e = absurd (f (subst (λ (x : ℕ). IsLongest V74 code (b ∷ a ++ x ∷ r) kind (suc (length a))) (eqb-true c y e) h))

none_3 : (x y z : Bool) → x ≡ false → y ≡ false → z ≡ false → not (x || y || z) ≡ true
none_3 x y z e f g = rw (e, f, g) refl

star_behind : (r : List ℕ) → IsLongest V74 code (47 ∷ 42 ∷ r) Op 1 → ⊥
star_behind r h = let some : kind_of V74 code (47 ∷ []) (42 ∷ r) ≡ Some Op = h.is in cc

pub slash_behind : (a r : List ℕ) → IsLongest V74 code (47 ∷ a ++ r) Op (suc (length a)) → slash_ends a r ≡ true
slash_behind (b ∷ a) r h = refl
slash_behind [] [] h = refl
slash_behind [] (c ∷ r) h =
    none_3 (nat_eq c 42) (nat_eq c 47) (nat_eq c 61)
    (not_next 42 47 c [] r Op (star_behind r) h)
    (not_next 47 47 c [] r Op (λ k. let none = longer_none 47 47 [] r Op k in cc) h)
    (not_next 61 47 c [] r Op (λ k. let none = longer_none 47 61 [] r Op k in cc) h)

two_no : (x : Bool) → not x ≡ true → cond (not x) (Some Op) None ≡ None → ⊥
two_no true h e = cc
two_no false h e = cc

less_two : (r : List ℕ) → IsLongest V74 code (60 ∷ 60 ∷ r) Op 1 → ⊥
less_two r h =
    let one : not (starts_word (60 ∷ []) r && begins_nowdoc (drop 1 r)) ≡ true = or_none _ (longest_meets is_op V74 code (60 ∷ []) (60 ∷ r) Op refl h) in
    two_no (starts_word (60 ∷ []) r && begins_nowdoc (drop 1 r)) one (longer_none 60 60 [] r Op h)

pub less_one : (r : List ℕ) → IsLongest V74 code (60 ∷ r) Op 1 → less_ends [] r ≡ true
less_one [] h = refl
less_one (c ∷ r) h =
    none_3 (nat_eq c 60) (nat_eq c 61) (nat_eq c 62)
    (not_next 60 60 c [] r Op (less_two r) h)
    (not_next 61 60 c [] r Op (λ k. let none = longer_none 60 61 [] r Op k in cc) h)
    (not_next 62 60 c [] r Op (λ k. let none = longer_none 60 62 [] r Op k in cc) h)

pub shift_behind : (r : List ℕ) → IsLongest V74 code (60 ∷ 60 ∷ r) Op 2 → begins_by 61 r ≡ false
shift_behind [] h = refl
shift_behind (c ∷ r) h = not_next 61 60 c (60 ∷ []) r Op (λ k. let none = longer_none 60 61 (60 ∷ []) r Op k in cc) h

pub most_behind : (r : List ℕ) → IsLongest V74 code (60 ∷ 61 ∷ r) Op 2 → begins_by 62 r ≡ false
most_behind [] h = refl
most_behind (c ∷ r) h = not_next 62 60 c (61 ∷ []) r Op (λ k. let none = longer_none 60 62 (61 ∷ []) r Op k in cc) h

pub end_alone : (r : List ℕ) → IsLongest V74 code (63 ∷ 62 ∷ r) Close 2 → begins is_line_end r ≡ false
end_alone [] h = refl
end_alone (c ∷ r) h =
    none_2 (nat_eq c 10) (nat_eq c 13)
    (not_next 10 63 c (62 ∷ []) r Close (λ k. let none = longer_none 63 10 (62 ∷ []) r Close k in cc) h)
    (not_next 13 63 c (62 ∷ []) r Close (λ k. let none = longer_none 63 13 (62 ∷ []) r Close k in cc) h)
  where
    none_2 : (x y : Bool) → x ≡ false → y ≡ false → (x || y) ≡ false
    none_2 x y e f = rw (e, f) refl

pub end_return : (r : List ℕ) → IsLongest V74 code (63 ∷ 62 ∷ 13 ∷ r) Close 3 → begins_by 10 r ≡ false
end_return [] h = refl
end_return (c ∷ r) h = not_next 10 63 c (62 ∷ 13 ∷ []) r Close (λ k. let none = longer_none 63 10 (62 ∷ 13 ∷ []) r Close k in cc) h
