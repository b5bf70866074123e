-- What is counted of words and of names behind `${` is the longest.
use Rattle.std.proofs.Common.{
  ◌≡◌,
  ℕ,
  zero,
  suc,
  ◌+◌,
  ◌<◌,
  ◌≤◌,
  Bool,
  true,
  false,
  not,
  cond,
  ◌&&◌,
  ◌||◌,
  nat_eq,
  List,
  [],
  ◌∷◌,
  length,
  take,
  drop,
  ◌⊎◌,
  inl,
  inr,
  Option,
  Some,
  None,
  refl,
  subst,
  arith,
}
use Rattle.std.proofs.lemmas.Bool.{eqb-true, cases_lt}
use Rattle.std.proofs.lemmas.List.{length-take-le}
use Rattle.php_spellings.specs.declared.table.State.{State}
use Rattle.php_spellings.specs.declared.table.State.TheVariants.{First, Plain, Escaped}
use Rattle.php_spellings.specs.declared.table.Run.TheVariants.{Labels}
use Rattle.php_spellings.specs.Bytes.{is_empty, begins, lower}
use Rattle.php_lexer.specs.Tails.{goes, moved, some_run}
use Rattle.php_lexer.specs.Rules.{is_b, begins_text, is_any_word, is_braced_name}
use Rattle.php_lexer.specs.Scan.{run_len, some_len, some_run_len, word_len, name_len}
use Rattle.php_lexer.proofs.Counts.{Describes, and_false, run_within, run_more, describes_some_run, some_eq}

filtered : (is p : List ℕ → List ℕ → Bool) (bs : List ℕ) (o : Option ℕ) → Describes is bs o
    → ((k : ℕ) → o ≡ Some k → p (take k bs) (drop k bs) ≡ true) → Describes (λ t rest. is t rest && p t rest) bs o
filtered is p bs None d h = λ m le. rw (d m le) refl
filtered is p bs (Some k) d h = (d.0, rw (d.1, h k refl) refl, λ m lt le. rw (d.2 m lt le) refl)

abbrev some_n : ℕ → Option ℕ
some_n n = Some n

some_len_is : (n : ℕ) (t : Bool) → nat_eq n 0 ≡ t → (k : ℕ) → cond t None (some_n n) ≡ Some k → n ≡ k
some_len_is n true e k h = absurd cc
some_len_is n false e k h = some_eq n k h

abbrev closer : ℕ → Bool
closer c = nat_eq c 91 || nat_eq c 125

not_label : (s : State) (b : ℕ) (bs : List ℕ) → b ≡ 91 ⊎ b ≡ 125 → goes Labels [] s b bs ≡ false
not_label First b bs (inl e) = rw e refl
not_label First b bs (inr e) = rw e refl
not_label Plain b bs (inl e) = rw e refl
not_label Plain b bs (inr e) = rw e refl
not_label Escaped b bs (inl e) = rw e refl
not_label Escaped b bs (inr e) = rw e refl

which : (b : ℕ) (x y : Bool) → nat_eq b 91 ≡ x → nat_eq b 125 ≡ y → (x || y) ≡ true → b ≡ 91 ⊎ b ≡ 125
which b true y p q h = inl (eqb-true b 91 p)
which b false true p q h = inr (eqb-true b 125 q)
which b false false p q h = absurd cc

not_closer : (s : State) (b : ℕ) (bs : List ℕ) (n : ℕ) (t : Bool) → closer b ≡ t → 0 < cond (goes Labels [] s b bs) (1 + n) 0 → closer b ≡ false
not_closer s b bs n false e lt = e
not_closer s b bs n true e lt =
    let stop = not_label s b bs (which b _ _ refl refl e) in
    let none : 0 < 0 = subst (λ (x : Bool). 0 < cond x (1 + n) 0) stop lt in
    absurd (omega arith)

inner : (x : Bool) (n m : ℕ) → suc m < cond x (1 + n) 0 → m < n
inner true n m lt = omega arith
inner false n m lt = absurd (omega arith)

-- inside a label no byte is one that follows a name
name_stop : (s : State) (bs : List ℕ) (m : ℕ) → m < run_len Labels [] s bs → begins closer (drop m bs) ≡ false
name_stop s [] m lt = absurd (omega arith)
name_stop s (b ∷ bs) zero lt = not_closer s b bs (run_len Labels [] (moved Labels s b) bs) (closer b) refl lt
name_stop s (b ∷ bs) (suc m) lt = name_stop (moved Labels s b) bs m (inner (goes Labels [] s b bs) (run_len Labels [] (moved Labels s b) bs) m lt)

-- a test fails at each length
module _ (p : List ℕ → List ℕ → Bool) (bs : List ℕ) (n : ℕ) (e : p (take n bs) (drop n bs) ≡ false) where
  none_at : (m : ℕ) → m ≡ n ⊎ n < m → m ≤ length bs → n ≡ run_len Labels [] First bs → (some_run Labels [] First (take m bs) (drop m bs) && p (take m bs) (drop m bs)) ≡ false
  none_at m (inl same) le r = rw (same, e) (and_false (some_run Labels [] First (take n bs) (drop n bs)))
  none_at m (inr up) le r = rw (run_more Labels [] First bs m (let lt : run_len Labels [] First bs < m = omega arith in lt) le) (rw (and_false (not (is_empty (take m bs)))) refl)

up_from : (m n : ℕ) → n ≤ m → m ≡ n ⊎ n < m
up_from m n ge = elim (cases_lt n m) [ inl up ↦ inr up | inr eq ↦ inl (omega arith) ]

pub describes_name : (bs : List ℕ) → Describes is_braced_name bs (name_len bs)
describes_name bs = by_test (begins closer (drop n bs)) refl
  where
    n : ℕ
    n = run_len Labels [] First bs

    closed : List ℕ → List ℕ → Bool
    closed t rest = begins closer rest

    none : begins closer (drop n bs) ≡ false → (m : ℕ) → m < n ⊎ n ≤ m → m ≤ length bs → (some_run Labels [] First (take m bs) (drop m bs) && begins closer (drop m bs)) ≡ false
    none e m (inl lt) le = rw (name_stop First bs m lt) (and_false (some_run Labels [] First (take m bs) (drop m bs)))
    none e m (inr ge) le = none_at (λ t rest. begins closer rest) bs n e m (up_from m n ge) le refl

    by_test : (t : Bool) → begins closer (drop n bs) ≡ t → Describes is_braced_name bs (cond t (some_len n) None)
    by_test true e = filtered (some_run Labels [] First) (λ t rest. begins closer rest) bs
        (some_run_len Labels [] First bs) (describes_some_run Labels [] First bs)
        (λ k h. subst (λ (i : ℕ). begins closer (drop i bs) ≡ true) (some_len_is n (nat_eq n 0) refl k h) e)
    by_test false e = λ m le. none e m (cases_lt m n) le

-- ---- words

empty_length : (bs : List ℕ) → is_empty bs ≡ true → length bs ≡ 0
empty_length [] e = refl
empty_length (b ∷ bs) e = absurd cc

and_second : (x y : Bool) → (x && y) ≡ true → y ≡ true
and_second true y e = e
and_second false y e = absurd cc

and_first : (x y : Bool) → (x && y) ≡ true → x ≡ true
and_first true y e = refl
and_first false y e = absurd cc

one_byte : (bs : List ℕ) → is_b bs ≡ true → length bs ≡ 1
one_byte [] e = absurd cc
one_byte (b ∷ bs) e = let z = empty_length bs (and_second (nat_eq (lower b) 98) (is_empty bs) e) in omega arith

abbrev owned : List ℕ → List ℕ → Bool
owned t rest = is_b t && begins_text rest

not_of : (b x : Bool) → b ≡ x → not b ≡ not x
not_of b x e = rw e refl

pub describes_word : (bs : List ℕ) → Describes is_any_word bs (word_len bs)
describes_word bs = by_test (owned (take n bs) (drop n bs)) refl
  where
    n : ℕ
    n = run_len Labels [] First bs

    size : owned (take n bs) (drop n bs) ≡ true → n ≡ 1
    size e =
        let one = one_byte (take n bs) (and_first (is_b (take n bs)) (begins_text (drop n bs)) e) in
        let le = run_within Labels [] First bs in
        let same : length (take n bs) ≡ n = length-take-le n bs le in
        omega arith

    none : owned (take n bs) (drop n bs) ≡ true → (m : ℕ) → m < n ⊎ n ≤ m → m ≤ length bs → is_any_word (take m bs) (drop m bs) ≡ false
    none e zero (inl lt) le = refl
    none e (suc m) (inl lt) le = let one = size e in absurd (omega arith)
    none e m (inr ge) le = none_at (λ t rest. not (owned t rest)) bs n (rw e refl) m (up_from m n ge) le refl

    by_test : (t : Bool) → owned (take n bs) (drop n bs) ≡ t → Describes is_any_word bs (cond t None (some_len n))
    by_test true e = λ m le. none e m (cases_lt m n) le
    by_test false e = filtered (some_run Labels [] First) (λ t rest. not (owned t rest)) bs
        (some_run_len Labels [] First bs) (describes_some_run Labels [] First bs)
        (λ k h. subst (λ (i : ℕ). not (owned (take i bs) (drop i bs)) ≡ true) (some_len_is n (nat_eq n 0) refl k h)
        (rw e refl))
