-- A text with a closing byte goes as far whatever follows it.
use Rattle.std.proofs.Common.{◌≡◌, ℕ, suc, ◌+◌, ◌≤◌, Bool, true, false, cond, not, ◌&&◌, ◌||◌, nat_eq, List, [], ◌∷◌, ◌++◌, length, drop, Option, Some, None, refl, sym, ◌∙◌, arith}
use Rattle.std.proofs.lemmas.Bool.{and_parts, eqb-true, not-true}
use Rattle.php_spellings.specs.declared.table.State.{State}
use Rattle.php_spellings.specs.declared.table.State.TheVariants.{First, Plain, Escaped}
use Rattle.php_spellings.specs.declared.table.Until.{Until}
use Rattle.php_spellings.specs.declared.table.Until.TheVariants.{Simple, Closed, Block, CastWord}
use Rattle.php_spellings.specs.Bytes.{lower, starts_word}
use Rattle.php_lexer.specs.Heredocs.{no_label}
use Rattle.php_lexer.specs.Tails.{begins_part, bars, closes, stepped, word_alone, begins_word, begins_type, cast_words}
use Rattle.php_lexer.specs.Scan.{until_len, add_to}
use Rattle.php_lexer.proofs.Counts.{some_eq}
use Rattle.php_relexing.proofs.Near.{has}

-- ---- one step

-- the length behind a byte that doesn't close the text
onward : (bar close : Bool) (x : Option ℕ) (n : ℕ) → cond bar None (cond close (Some 1) (add_to 1 x)) ≡ Some n
    → (bar ≡ false) × ((close ≡ false) → (k : ℕ) × (x ≡ Some k) × (n ≡ suc k))
onward true close x n e = absurd cc
onward false true x n e = (refl, λ p. absurd cc)
onward false false None n e = absurd cc
onward false false (Some k) n e = let size = some_eq (1 + k) n e in (refl, λ p. (k, refl, omega arith))

not_empty : (u : Until) (s : State) (bs : List ℕ) (n : ℕ) → until_len u s bs ≡ Some n → n ≡ 0 → ⊥
not_empty u s [] n e z = cc
not_empty u s (b ∷ bs) n e z = by_byte (bars u s b bs) (closes u s b) (until_len u (stepped u s b) bs) e
  where
    by_byte : (bar close : Bool) (x : Option ℕ) → cond bar None (cond close (Some 1) (add_to 1 x)) ≡ Some n → ⊥
    by_byte true close x f = cc
    by_byte false true x f = let one = some_eq 1 n f in omega arith
    by_byte false false None f = cc
    by_byte false false (Some k) f = let one = some_eq (1 + k) n f in omega arith

-- Neither what follows a byte within the text nor what follows the closing byte is asked.
pub record Blind (u : Until) : Type 0 where
  pub within : (s : State) (b : ℕ) (a v w : List ℕ) (k : ℕ) → until_len u (stepped u s b) (a ++ v) ≡ Some k → k ≤ length a → bars u s b (a ++ v) ≡ bars u s b (a ++ w)
  pub last : (s : State) (b : ℕ) (v w : List ℕ) → closes u s b ≡ true → bars u s b v ≡ bars u s b w

module _ (u : Until) (blind : Blind u) where
  step_by : (s : State) (b : ℕ) (a v w : List ℕ) (n : ℕ) (close : Bool) → closes u s b ≡ close
      → ((k : ℕ) → until_len u (stepped u s b) (a ++ v) ≡ Some k → k ≤ length a
      → until_len u (stepped u s b) (a ++ w) ≡ Some k) → cond (bars u s b (a ++ v)) None
      (cond close (Some 1) (add_to 1 (until_len u (stepped u s b) (a ++ v)))) ≡ Some n → n ≤ suc (length a)
      → cond (bars u s b (a ++ w)) None (cond close (Some 1) (add_to 1 (until_len u (stepped u s b) (a ++ w)))) ≡ Some
      n
  step_by s b a v w n true p ih e le =
      let o = onward (bars u s b (a ++ v)) true (until_len u (stepped u s b) (a ++ v)) n e in
      let bar : bars u s b (a ++ w) ≡ false = sym (blind.last s b (a ++ v) (a ++ w) p) ∙ o.0 in
      rw bar (rw o.0 at e)
  step_by s b a v w n false p ih e le =
      let o = onward (bars u s b (a ++ v)) false (until_len u (stepped u s b) (a ++ v)) n e in
      let (k, is, size) = o.1 refl in
      let bar : bars u s b (a ++ w) ≡ false = sym (blind.within s b a v w k is (omega arith)) ∙ o.0 in
      let more = ih k is (omega arith) in
      let one : 1 + k ≡ n = omega arith in
      rw (bar, more, one) refl

  pub until_stays : (s : State) (a v w : List ℕ) (n : ℕ) → until_len u s (a ++ v) ≡ Some n → n ≤ length a → until_len u s (a ++ w) ≡ Some n
  until_stays s [] v w n e le = absurd (not_empty u s v n e (omega arith))
  until_stays s (b ∷ a) v w n e le = step_by s b a v w n (closes u s b) refl (until_stays (stepped u s b) a v w) e le

-- ---- texts in quotes, and comments

pub simple_blind : Blind Simple
simple_blind = record { within = λ s b a v w k e le. refl; last = λ s b v w h. refl }

pub block_blind : Blind Block
block_blind = record { within = λ s b a v w k e le. refl; last = λ s b v w h. refl }

closed_within : (s : State) (b : ℕ) (a v w : List ℕ) (k : ℕ) → until_len Closed (stepped Closed s b) (a ++ v) ≡ Some k
    → k ≤ length a → bars Closed s b (a ++ v) ≡ bars Closed s b (a ++ w)
closed_within s b [] v w k e le = absurd (not_empty Closed (stepped Closed s b) v k e (omega arith))
closed_within First b (c ∷ a) v w k e le = refl
closed_within Plain b (c ∷ a) v w k e le = refl
closed_within Escaped b (c ∷ a) v w k e le = refl

no_part : (b : ℕ) (v : List ℕ) → nat_eq b 34 ≡ true → begins_part b v ≡ false
no_part b v h = let same = eqb-true b 34 h in rw same refl

closed_last : (s : State) (b : ℕ) (v w : List ℕ) → closes Closed s b ≡ true → bars Closed s b v ≡ bars Closed s b w
closed_last First b v w h = no_part b v h ∙ sym (no_part b w h)
closed_last Plain b v w h = no_part b v h ∙ sym (no_part b w h)
closed_last Escaped b v w h = absurd cc

pub closed_blind : Blind Closed
closed_blind = record { within = closed_within; last = closed_last }

-- ---- casts

or_true : (x : Bool) → (x || true) ≡ true
or_true true = refl
or_true false = refl

close_by : (b : ℕ) (a v : List ℕ) (k : ℕ) (bar close : Bool) → (close ≡ true → nat_eq b 41 ≡ true) → (x : Option ℕ)
    → ((j : ℕ) → x ≡ Some j → j ≤ length a → has 41 a ≡ true)
    → cond bar None (cond close (Some 1) (add_to 1 x)) ≡ Some k → k ≤ suc (length a)
    → (nat_eq b 41 || has 41 a) ≡ true
close_by b a v k true close c x ih e le = absurd cc
close_by b a v k false true c x ih e le = rw (c refl) refl
close_by b a v k false false c None ih e le = absurd cc
close_by b a v k false false c (Some j) ih e le =
    let size = some_eq (1 + j) k e in
    rw (ih j refl (omega arith)) (or_true (nat_eq b 41))

bracket_closes : (s : State) (b : ℕ) → closes CastWord s b ≡ true → nat_eq b 41 ≡ true
bracket_closes First b h = absurd cc
bracket_closes Plain b h = h
bracket_closes Escaped b h = h

-- a cast has its closing bracket
cast_closes : (s : State) (a v : List ℕ) (k : ℕ) → until_len CastWord s (a ++ v) ≡ Some k → k ≤ length a → has 41 a ≡ true
cast_closes s [] v k e le = absurd (not_empty CastWord s v k e (omega arith))
cast_closes s (b ∷ a) v k e le =
    close_by b a v k (bars CastWord s b (a ++ v)) (closes CastWord s b) (bracket_closes s b)
    (until_len CastWord (stepped CastWord s b) (a ++ v)) (cast_closes (stepped CastWord s b) a v) e le

abbrev no_bracket : List ℕ → Bool
no_bracket [] = true
no_bracket (c ∷ w) = not (nat_eq c 41) && no_bracket w

-- a word without brackets is sought no further than the closing bracket
alone_by : (c : ℕ) (w : List ℕ) (x : ℕ) (a v v' : List ℕ) → nat_eq c 41 ≡ false
    → (has 41 a ≡ true → word_alone w (a ++ v) ≡ word_alone w (a ++ v')) → (t : Bool) → nat_eq x 41 ≡ t
    → (t || has 41 a) ≡ true → word_alone (c ∷ w) (x ∷ a ++ v) ≡ word_alone (c ∷ w) (x ∷ a ++ v')
alone_by c w x a v v' h ih true p q = let same = eqb-true x 41 p in rw (same, h) refl
alone_by c w x a v v' h ih false p q = by_first (nat_eq c (lower x))
  where
    by_first : (t : Bool) → ((t && starts_word w (a ++ v)) && no_label (drop (length w) (a ++ v))) ≡ ((t && starts_word w (a ++ v')) && no_label (drop (length w) (a ++ v')))
    by_first true = ih q
    by_first false = refl

alone_same : (w : List ℕ) → no_bracket w ≡ true → (a v v' : List ℕ) → has 41 a ≡ true → word_alone w (a ++ v) ≡ word_alone w (a ++ v')
alone_same w h [] v v' e = absurd cc
alone_same [] h (x ∷ a) v v' e = refl
alone_same (c ∷ w) h (x ∷ a) v v' e =
    let (first, more) = and_parts (not (nat_eq c 41)) (no_bracket w) h in
    alone_by c w x a v v' (not-true (nat_eq c 41) first) (alone_same w more a v v') (nat_eq x 41) refl e

abbrev all_without : List (List ℕ) → Bool
all_without [] = true
all_without (w ∷ ws) = no_bracket w && all_without ws

words_same : (ws : List (List ℕ)) → all_without ws ≡ true → (a v w : List ℕ) → has 41 a ≡ true → begins_word ws (a ++ v) ≡ begins_word ws (a ++ w)
words_same [] h a v w e = refl
words_same (x ∷ ws) h a v w e =
    let (first, more) = and_parts (no_bracket x) (all_without ws) h in
    rw (alone_same x first a v w e, words_same ws more a v w e) refl

type_same : (b : ℕ) (a v w : List ℕ) → has 41 a ≡ true → begins_type (b ∷ a ++ v) ≡ begins_type (b ∷ a ++ w)
type_same b a v w e = words_same cast_words refl (b ∷ a) v w (rw e (or_true (nat_eq b 41)))

cast_within : (s : State) (b : ℕ) (a v w : List ℕ) (k : ℕ) → until_len CastWord (stepped CastWord s b) (a ++ v) ≡ Some
    k → k ≤ length a → bars CastWord s b (a ++ v) ≡ bars CastWord s b (a ++ w)
cast_within First b a v w k e le = rw (type_same b a v w (cast_closes (stepped CastWord First b) a v k e le)) refl
cast_within Plain b a v w k e le = refl
cast_within Escaped b a v w k e le = refl

cast_last : (s : State) (b : ℕ) (v w : List ℕ) → closes CastWord s b ≡ true → bars CastWord s b v ≡ bars CastWord s b w
cast_last First b v w h = absurd cc
cast_last Plain b v w h = refl
cast_last Escaped b v w h = refl

pub cast_blind : Blind CastWord
cast_blind = record { within = cast_within; last = cast_last }
