-- What is counted is the longest: rows, runs, and texts with a closing byte.
use Rattle.std.proofs.Common.{
  ◌≡◌,
  ℕ,
  zero,
  suc,
  ◌+◌,
  ◌<◌,
  ◌≤◌,
  Bool,
  true,
  false,
  not,
  cond,
  ◌&&◌,
  nat_eq,
  nat_lt,
  List,
  [],
  ◌∷◌,
  length,
  take,
  drop,
  Option,
  Some,
  None,
  refl,
  sym,
  ap,
  ◌∙◌,
  subst,
  arith,
}
use Rattle.std.proofs.lemmas.List.{take-append-drop}
use Rattle.std.proofs.lemmas.Bool.{ltb-true, ltb-false, eqb-true}
use Rattle.php_spellings.specs.declared.table.Kind.{Kind}
use Rattle.php_spellings.specs.declared.table.State.{State}
use Rattle.php_spellings.specs.declared.table.Run.{Run}
use Rattle.php_spellings.specs.declared.table.Until.{Until}
use Rattle.php_spellings.specs.Bytes.{is_empty}
use Rattle.php_lexer.specs.Tails.{goes, moved, closes, bars, stepped, is_run, is_until, some_run}
use Rattle.php_lexer.specs.Scan.{add_to, run_len, until_len, some_len, some_run_len, longer}

-- the number is that of the longest front that is such
abbrev pub Describes : (List ℕ → List ℕ → Bool) → List ℕ → Option ℕ → Type 0
Describes is bs None = (m : ℕ) → m ≤ length bs → is (take m bs) (drop m bs) ≡ false
Describes is bs (Some n) = (n ≤ length bs) × (is (take n bs) (drop n bs) ≡ true) × ((m : ℕ) → n < m → m ≤ length bs → is (take m bs) (drop m bs) ≡ false)

abbrev pub Sorts : (List ℕ → List ℕ → Option Kind) → List ℕ → Option (Kind × ℕ) → Type 0
Sorts of bs None = (m : ℕ) → m ≤ length bs → of (take m bs) (drop m bs) ≡ None
Sorts of bs (Some x) = (x.1 ≤ length bs) × (of (take x.1 bs) (drop x.1 bs) ≡ Some x.0) × ((m : ℕ) → x.1 < m → m ≤ length bs → of (take m bs) (drop m bs) ≡ None)

-- ---- rows

both : (kind : Kind) (is : List ℕ → List ℕ → Bool) (of : List ℕ → List ℕ → Option Kind) (bs : List ℕ) (n : ℕ)
    (x : Kind × ℕ) → Describes is bs (Some n) → Sorts of bs (Some x) → (b : Bool) → nat_lt n x.1 ≡ b
    → Sorts (λ t r. cond (is t r) (Some kind) (of t r)) bs (cond b (Some x) (Some (kind, n)))
both kind is of bs n x d s true e =
    let lt : n < x.1 = ltb-true n x.1 e in
    (s.0, rw (d.2 x.1 lt s.0) s.1, λ m lt2 le. let up : n < m = omega arith in rw (d.2 m up le) (s.2 m lt2 le))
both kind is of bs n x d s false e =
    let ge : x.1 ≤ n = ltb-false n x.1 e in
    (d.0, rw d.1 refl, λ m lt2 le. let up : x.1 < m = omega arith in rw (d.2 m lt2 le) (s.2 m up le))

pub sorts_row : (kind : Kind) (is : List ℕ → List ℕ → Bool) (of : List ℕ → List ℕ → Option Kind) (bs : List ℕ)
    (o : Option ℕ) (x : Option (Kind × ℕ)) → Describes is bs o → Sorts of bs x
    → Sorts (λ t r. cond (is t r) (Some kind) (of t r)) bs (longer kind o x)
sorts_row kind is of bs None None d s = λ m le. rw (d m le) (s m le)
sorts_row kind is of bs None (Some x) d s = (s.0, rw (d x.1 s.0) s.1, λ m lt le. rw (d m le) (s.2 m lt le))
sorts_row kind is of bs (Some n) None d s = (d.0, rw d.1 refl, λ m lt le. rw (d.2 m lt le) (s m le))
sorts_row kind is of bs (Some n) (Some x) d s = both kind is of bs n x d s (nat_lt n x.1) refl

-- ---- runs

within_step : (x : Bool) (n l : ℕ) → n ≤ l → cond x (1 + n) 0 ≤ suc l
within_step true n l le = omega arith
within_step false n l le = omega arith

pub run_within : (r : Run) (label : List ℕ) (s : State) (bs : List ℕ) → run_len r label s bs ≤ length bs
run_within r label s [] = omega arith
run_within r label s (b ∷ bs) = within_step (goes r label s b bs) (run_len r label (moved r s b) bs) (length bs) (run_within r label (moved r s b) bs)

all_step : (x go : Bool) → go ≡ x → (n m : ℕ) (rest : Bool) → suc m ≤ cond go (1 + n) 0 → (m ≤ n → rest ≡ true) → (go && rest) ≡ true
all_step true go e n m rest le ih = let le2 : suc m ≤ 1 + n = subst (λ (x : Bool). suc m ≤ cond x (1 + n) 0) e le in rw (e, ih (omega arith)) refl
all_step false go e n m rest le ih = let le2 : suc m ≤ 0 = subst (λ (x : Bool). suc m ≤ cond x (1 + n) 0) e le in absurd (omega arith)

run_all : (r : Run) (label : List ℕ) (s : State) (bs : List ℕ) (m : ℕ) → m ≤ run_len r label s bs → is_run r label s (take m bs) (drop m bs) ≡ true
run_all r label s [] zero le = refl
run_all r label s [] (suc m) le = refl
run_all r label s (b ∷ bs) zero le = refl
run_all r label s (b ∷ bs) (suc m) le =
    rw (take-append-drop m bs) (all_step (goes r label s b bs) (goes r label s b bs) refl
    (run_len r label (moved r s b) bs) m (is_run r label (moved r s b) (take m bs) (drop m bs)) le
    (run_all r label (moved r s b) bs m))

more_step : (x go : Bool) → go ≡ x → (n m : ℕ) (rest : Bool) → cond go (1 + n) 0 < suc m → (n < m → rest ≡ false) → (go && rest) ≡ false
more_step true go e n m rest lt ih = let lt2 : 1 + n < suc m = subst (λ (x : Bool). cond x (1 + n) 0 < suc m) e lt in rw (e, ih (omega arith)) refl
more_step false go e n m rest lt ih = rw e refl

pub run_more : (r : Run) (label : List ℕ) (s : State) (bs : List ℕ) (m : ℕ) → run_len r label s bs < m → m ≤ length bs → is_run r label s (take m bs) (drop m bs) ≡ false
run_more r label s [] m lt le = absurd (omega arith)
run_more r label s (b ∷ bs) zero lt le = absurd (omega arith)
run_more r label s (b ∷ bs) (suc m) lt le =
    rw (take-append-drop m bs) (more_step (goes r label s b bs) (goes r label s b bs) refl
    (run_len r label (moved r s b) bs) m (is_run r label (moved r s b) (take m bs) (drop m bs)) lt
    (λ h. run_more r label (moved r s b) bs m h (omega arith)))

pub describes_run : (r : Run) (label : List ℕ) (s : State) (bs : List ℕ) → Describes (is_run r label s) bs (Some (run_len r label s bs))
describes_run r label s bs = (run_within r label s bs, run_all r label s bs (run_len r label s bs) (omega arith), run_more r label s bs)

pub some_take : (bs : List ℕ) (m : ℕ) → 0 < m → m ≤ length bs → is_empty (take m bs) ≡ false
some_take bs zero lt le = absurd (omega arith)
some_take [] (suc m) lt le = absurd (omega arith)
some_take (b ∷ bs) (suc m) lt le = refl

positive : (n : ℕ) → nat_eq n 0 ≡ false → 0 < n
positive zero e = absurd cc
positive (suc n) e = omega arith

pub and_false : (b : Bool) → (b && false) ≡ false
and_false true = refl
and_false false = refl

pub describes_some : (is : List ℕ → List ℕ → Bool) (bs : List ℕ) (n : ℕ) → Describes is bs (Some n) → Describes (λ t rest. not (is_empty t) && is t rest) bs (some_len n)
describes_some is bs n d = by_test (nat_eq n 0) refl
  where
    none : (m : ℕ) → n ≡ 0 → m ≤ length bs → (not (is_empty (take m bs)) && is (take m bs) (drop m bs)) ≡ false
    none zero z le = refl
    none (suc m) z le = rw (d.2 (suc m) (omega arith) le) (and_false (not (is_empty (take (suc m) bs))))

    by_test : (t : Bool) → nat_eq n 0 ≡ t → Describes (λ t rest. not (is_empty t) && is t rest) bs (cond t None (Some n))
    by_test true e = λ m le. none m (eqb-true n 0 e) le
    by_test false e = (d.0, rw (some_take bs n (positive n e) d.0, d.1) refl, λ m lt le. rw (d.2 m lt le) (and_false (not (is_empty (take m bs)))))

pub describes_some_run : (r : Run) (label : List ℕ) (s : State) (bs : List ℕ) → Describes (some_run r label s) bs (some_run_len r label s bs)
describes_some_run r label s bs = describes_some (is_run r label s) bs (run_len r label s bs) (describes_run r label s bs)

-- ---- texts with a closing byte

abbrev some_n : ℕ → Option ℕ
some_n n = Some n

pub some_eq : (m n : ℕ) → some_n m ≡ some_n n → m ≡ n
some_eq m n e = cc

empty_zero : (bs : List ℕ) (m : ℕ) → m ≤ length bs → is_empty (take m bs) ≡ true → m ≡ 0
empty_zero bs zero le e = refl
empty_zero [] (suc m) le e = absurd (omega arith)
empty_zero (b ∷ bs) (suc m) le e = absurd cc

only_step : (bar close : Bool) (u : List ℕ) (in_rest : Bool) (len : Option ℕ) (m : ℕ) → (is_empty u ≡ true → m ≡ 0)
    → (in_rest ≡ true → len ≡ Some m) → (not bar && cond close (is_empty u) in_rest) ≡ true
    → cond bar None (cond close (Some 1) (add_to 1 len)) ≡ Some (suc m)
only_step true close u in_rest len m zero_if ih h = absurd cc
only_step false true u in_rest len m zero_if ih h = let z = zero_if h in ap Some (omega arith)
only_step false false u in_rest len m zero_if ih h = rw (ih h) (ap Some (omega arith))

until_only : (u : Until) (s : State) (bs : List ℕ) (m : ℕ) → m ≤ length bs → is_until u s (take m bs) (drop m bs) ≡ true → until_len u s bs ≡ Some m
until_only u s [] zero le e = absurd cc
until_only u s [] (suc m) le e = absurd (omega arith)
until_only u s (b ∷ bs) zero le e = absurd cc
until_only u s (b ∷ bs) (suc m) le e =
    let e2 = subst (λ (v : List ℕ). (not (bars u s b v) && cond (closes u s b) (is_empty (take m bs))
    (is_until u (stepped u s b) (take m bs) (drop m bs))) ≡ true) (take-append-drop m bs) e in
    only_step (bars u s b bs) (closes u s b) (take m bs) (is_until u (stepped u s b) (take m bs) (drop m bs))
    (until_len u (stepped u s b) bs) m (empty_zero bs m (omega arith))
    (until_only u (stepped u s b) bs m (omega arith)) e2

is_step : (bar close : Bool) (bs : List ℕ) (in_rest : ℕ → Bool) (len : Option ℕ) (n : ℕ)
    → ((k : ℕ) → len ≡ Some k → (k ≤ length bs) × (in_rest k ≡ true))
    → cond bar None (cond close (Some 1) (add_to 1 len)) ≡ Some n → (m : ℕ) × (n ≡ suc m) × (m ≤ length bs)
    × ((not bar && cond close (is_empty (take m bs)) (in_rest m)) ≡ true)
is_step true close bs in_rest len n ih h = absurd cc
is_step false true bs in_rest len n ih h = let one = some_eq 1 n h in (0, omega arith, omega arith, refl)
is_step false false bs in_rest None n ih h = absurd cc
is_step false false bs in_rest (Some k) n ih h =
    let more = some_eq (1 + k) n h in
    let r = ih k refl in
    (k, omega arith, r.0, r.1)

until_is : (u : Until) (s : State) (bs : List ℕ) (n : ℕ) → until_len u s bs ≡ Some n → (n ≤ length bs) × (is_until u s (take n bs) (drop n bs) ≡ true)
until_is u s [] n e = absurd cc
until_is u s (b ∷ bs) n e =
    let r = is_step (bars u s b bs) (closes u s b) bs (λ k. is_until u (stepped u s b) (take k bs) (drop k bs)) (until_len u (stepped u s b) bs) n (until_is u (stepped u s b) bs) e in
    rw r.1 (omega (arith, r.2), rw (take-append-drop r.0 bs) r.3)

not_true : (b : Bool) → (b ≡ true → ⊥) → b ≡ false
not_true true h = absurd (h refl)
not_true false h = refl

describes_len : (u : Until) (s : State) (bs : List ℕ) (len : Option ℕ) → until_len u s bs ≡ len → Describes (is_until u s) bs len
describes_len u s bs None e = λ m le. not_true (is_until u s (take m bs) (drop m bs)) (λ h. let c = sym e ∙ until_only u s bs m le h in absurd cc)
describes_len u s bs (Some n) e =
    let r = until_is u s bs n e in
    (r.0, r.1, λ m lt le. not_true (is_until u s (take m bs) (drop m bs)) (λ h. let same = some_eq n m (sym e ∙ until_only u s bs m le h) in omega arith))

pub describes_until : (u : Until) (s : State) (bs : List ℕ) → Describes (is_until u s) bs (until_len u s bs)
describes_until u s bs = describes_len u s bs (until_len u s bs) refl
