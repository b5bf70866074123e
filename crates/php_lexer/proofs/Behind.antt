-- What is counted behind a word is the longest.
use Rattle.std.proofs.Common.{
  ◌≡◌,
  ℕ,
  zero,
  suc,
  ◌+◌,
  ◌<◌,
  ◌≤◌,
  Bool,
  true,
  false,
  cond,
  ◌&&◌,
  nat_eq,
  List,
  [],
  ◌∷◌,
  length,
  take,
  drop,
  Option,
  Some,
  None,
  refl,
  ap,
  subst,
  arith,
}
use Rattle.php_spellings.specs.Bytes.{is_empty, starts_by}
use Rattle.php_lexer.specs.Heredocs.{led, no_more}
use Rattle.php_lexer.specs.Scan.{add_to, here_len, nothing_if, behind}
use Rattle.php_lexer.proofs.Counts.{Describes, some_take}

pub describes_nothing : (p : List ℕ → Bool) (bs : List ℕ) → Describes (no_more p) bs (nothing_if p bs)
describes_nothing p bs = by_test (p bs) refl
  where
    longer_not : (m : ℕ) → 0 < m → m ≤ length bs → (is_empty (take m bs) && p (drop m bs)) ≡ false
    longer_not m lt le = rw (some_take bs m lt le) refl

    none : (m : ℕ) → p bs ≡ false → m ≤ length bs → (is_empty (take m bs) && p (drop m bs)) ≡ false
    none zero e le = e
    none (suc m) e le = longer_not (suc m) (omega arith) le

    by_test : (b : Bool) → p bs ≡ b → Describes (no_more p) bs (here_len b)
    by_test true e = (omega arith, e, longer_not)
    by_test false e = λ m le. none m e le

add_step : (b : Bool) (n : ℕ) (o : Option ℕ) → add_to 1 (cond b (add_to n o) None) ≡ cond b (add_to (suc n) o) None
add_step true n None = refl
add_step true n (Some m) = ap Some (omega arith)
add_step false n o = refl

led_shift : (f : ℕ → ℕ) (a b : ℕ) (w : List ℕ) (is : List ℕ → List ℕ → Bool) (bs : List ℕ) (o : Option ℕ)
    → nat_eq a (f b) ≡ true → Describes (led f w is) bs o → Describes (led f (a ∷ w) is) (b ∷ bs) (add_to 1 o)
led_shift f a b w is bs None e d = none
  where
    none : (m : ℕ) → m ≤ length (b ∷ bs) → led f (a ∷ w) is (take m (b ∷ bs)) (drop m (b ∷ bs)) ≡ false
    none zero le = refl
    none (suc m) le = rw (e, d m (omega arith)) refl
led_shift f a b w is bs (Some n) e d = (let le = d.0 in omega arith, first (1 + n) (omega arith), more)
  where
    first : (k : ℕ) → k ≡ suc n → led f (a ∷ w) is (take k (b ∷ bs)) (drop k (b ∷ bs)) ≡ true
    first k p = rw p (rw (e, d.1) refl)

    more : (m : ℕ) → 1 + n < m → m ≤ length (b ∷ bs) → led f (a ∷ w) is (take m (b ∷ bs)) (drop m (b ∷ bs)) ≡ false
    more zero lt le = absurd (omega arith)
    more (suc m) lt le = rw (e, d.2 m (omega arith) (omega arith)) refl

led_no : (f : ℕ → ℕ) (a b : ℕ) (w : List ℕ) (is : List ℕ → List ℕ → Bool) (bs : List ℕ) → nat_eq a (f b) ≡ false
    → (m : ℕ) → m ≤ length (b ∷ bs) → led f (a ∷ w) is (take m (b ∷ bs)) (drop m (b ∷ bs)) ≡ false
led_no f a b w is bs e zero le = refl
led_no f a b w is bs e (suc m) le = rw e refl

no_front : (f : ℕ → ℕ) (a : ℕ) (w : List ℕ) (is : List ℕ → List ℕ → Bool) (m : ℕ) → m ≤ 0 → led f (a ∷ w) is (take m []) (drop m []) ≡ false
no_front f a w is zero le = refl
no_front f a w is (suc m) le = refl

add_zero : (o : Option ℕ) → o ≡ add_to 0 o
add_zero None = refl
add_zero (Some n) = ap Some (omega arith)

behind_step : (f : ℕ → ℕ) (a b : ℕ) (w : List ℕ) (is : List ℕ → List ℕ → Bool) (len : List ℕ → Option ℕ) (bs : List ℕ)
    → Describes (led f w is) bs (behind f w len bs) → (t : Bool) → nat_eq a (f b) ≡ t
    → Describes (led f (a ∷ w) is) (b ∷ bs) (cond (t && starts_by f w bs)
    (add_to (suc (length w)) (len (drop (length w) bs))) None)
behind_step f a b w is len bs d true e = subst (λ (o : Option ℕ). Describes (led f (a ∷ w) is) (b ∷ bs) o)
    (add_step (starts_by f w bs) (length w) (len (drop (length w) bs)))
    (led_shift f a b w is bs (behind f w len bs) e d)
behind_step f a b w is len bs d false e = led_no f a b w is bs e

pub describes_behind : (f : ℕ → ℕ) (w : List ℕ) (is : List ℕ → List ℕ → Bool) (len : List ℕ → Option ℕ)
    → ((bs : List ℕ) → Describes is bs (len bs)) → (bs : List ℕ) → Describes (led f w is) bs (behind f w len bs)
describes_behind f [] is len d bs = subst (λ (o : Option ℕ). Describes is bs o) (add_zero (len bs)) (d bs)
describes_behind f (a ∷ w) is len d [] = no_front f a w is
describes_behind f (a ∷ w) is len d (b ∷ bs) = behind_step f a b w is len bs (describes_behind f w is len d bs) (nat_eq a (f b)) refl
