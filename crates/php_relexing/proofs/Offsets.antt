-- The token of a simple offset stays before its `]`.
use Rattle.std.proofs.Common.{
  ◌≡◌,
  ℕ,
  zero,
  suc,
  ◌+◌,
  ◌-◌,
  ◌<◌,
  ◌≤◌,
  Bool,
  true,
  false,
  not,
  ◌&&◌,
  nat_eq,
  List,
  [],
  ◌∷◌,
  ◌++◌,
  length,
  take,
  drop,
  ◌⊎◌,
  inl,
  inr,
  None,
  refl,
  sym,
  ap,
  ◌∙◌,
  subst,
  arith,
}
use Rattle.std.proofs.lemmas.Bool.{cases_lt, and_parts, not-true}
use Rattle.std.proofs.lemmas.List.{take-append-le, length-append}
use Rattle.std.proofs.Math.Seq.{take-append-add}
use Rattle.php_tree.specs.declared.version.Version.{Version}
use Rattle.php_spellings.specs.declared.table.Kind.{Kind}
use Rattle.php_spellings.specs.declared.table.Tail.{Tail}
use Rattle.php_spellings.specs.Bytes.{lower}
use Rattle.php_lexer.specs.Heredocs.{led}
use Rattle.php_lexer.specs.Rules.{Row, rule, is_tail, kind_by}
use Rattle.php_lexer.specs.RulesQuoted.{offset_rows}
use Rattle.php_lexer.specs.Modes.{offset, kind_of, IsLongest}
use Rattle.php_relexing.specs.Offsets.{OffsetsStay}
use Rattle.php_relexing.proofs.Bools.{and_false}
use Rattle.php_relexing.proofs.Near.{has, stops_tail, is_word_tail, tail_cross, led_cross, led_blind}

-- rows that neither go over `]` behind their first byte nor ask what follows
abbrev fits : Row → Bool
fits (rule kind [] tail) = stops_tail tail && not (is_word_tail tail)
fits (rule kind (x ∷ w) tail) = not (has 93 w) && (stops_tail tail && not (is_word_tail tail))

abbrev all_fit : List Row → Bool
all_fit [] = true
all_fit (row ∷ rows) = fits row && all_fit rows

row_blind : (kind : Kind) (w : List ℕ) (tail : Tail) → fits (rule kind w tail) ≡ true → (text u v : List ℕ)
    → led lower w (is_tail [] tail) text u ≡ led lower w (is_tail [] tail) text v
row_blind kind [] tail h text u v =
    let (stops, plain) = and_parts (stops_tail tail) (not (is_word_tail tail)) h in
    led_blind [] tail stops (not-true (is_word_tail tail) plain) [] text u v
row_blind kind (x ∷ w) tail h text u v =
    let (out, more) = and_parts (not (has 93 w)) (stops_tail tail && not (is_word_tail tail)) h in
    let (stops, plain) = and_parts (stops_tail tail) (not (is_word_tail tail)) more in
    led_blind [] tail stops (not-true (is_word_tail tail) plain) (x ∷ w) text u v

rows_blind : (rows : List Row) → all_fit rows ≡ true → (text u v : List ℕ) → kind_by [] rows text u ≡ kind_by [] rows text v
rows_blind [] h text u v = refl
rows_blind (rule kind w tail ∷ rows) h text u v =
    let (first, more) = and_parts (fits (rule kind w tail)) (all_fit rows) h in
    rw (row_blind kind w tail first text u v, rows_blind rows more text u v) refl

row_cross : (kind : Kind) (w : List ℕ) (tail : Tail) → fits (rule kind w tail) ≡ true → (b : ℕ) (a more rest : List ℕ)
    → led lower w (is_tail [] tail) (b ∷ a ++ 93 ∷ more) rest ≡ false
row_cross kind [] tail h b a more rest =
    let (stops, plain) = and_parts (stops_tail tail) (not (is_word_tail tail)) h in
    tail_cross [] 93 tail refl stops (b ∷ a) more rest
row_cross kind (x ∷ w) tail h b a more rest =
    let (out, others) = and_parts (not (has 93 w)) (stops_tail tail && not (is_word_tail tail)) h in
    let (stops, plain) = and_parts (stops_tail tail) (not (is_word_tail tail)) others in
    rw (led_cross [] 93 tail refl stops w (not-true (has 93 w) out) a more rest) (and_false (nat_eq x (lower b)))

rows_cross : (rows : List Row) → all_fit rows ≡ true → (b : ℕ) (a more rest : List ℕ) → kind_by [] rows (b ∷ a ++ 93 ∷ more) rest ≡ None
rows_cross [] h b a more rest = refl
rows_cross (rule kind w tail ∷ rows) h b a more rest =
    let (first, others) = and_parts (fits (rule kind w tail)) (all_fit rows) h in
    rw (row_cross kind w tail first b a more rest) (rows_cross rows others b a more rest)

module _ (v w : Version) (kind : Kind) (b : ℕ) (a r s : List ℕ) (h : IsLongest v offset (b ∷ a ++ 93 ∷ r) kind (suc (length a))) where
  -- a front of the text is the same token before other bytes
  same : (k : ℕ) → k ≤ length a → kind_of v offset (b ∷ take k (a ++ 93 ∷ r)) (drop k (a ++ 93 ∷ r)) ≡ kind_of w offset (b ∷ take k (a ++ 93 ∷ s)) (drop k (a ++ 93 ∷ s))
  same k le =
      let text : take k (a ++ 93 ∷ r) ≡ take k (a ++ 93 ∷ s) = take-append-le k a (93 ∷ r) le ∙ sym (take-append-le k a (93 ∷ s) le) in
      rows_blind offset_rows refl (b ∷ take k (a ++ 93 ∷ r)) (drop k (a ++ 93 ∷ r)) (drop k (a ++ 93 ∷ s))
      ∙ ap (λ (t : List ℕ). kind_of w offset (b ∷ t) (drop k (a ++ 93 ∷ s))) text

  past : (j : ℕ) → length a < j → kind_of w offset (b ∷ take j (a ++ 93 ∷ s)) (drop j (a ++ 93 ∷ s)) ≡ None
  past j lt =
      let k = j - length a - 1 in
      let size : j ≡ length a + suc k = omega arith in
      let front : take j (a ++ 93 ∷ s) ≡ a ++ 93 ∷ take k s = ap (λ (i : ℕ). take i (a ++ 93 ∷ s)) size ∙ take-append-add a (93 ∷ s) (suc k) in
      subst (λ (t : List ℕ). kind_of w offset (b ∷ t) (drop j (a ++ 93 ∷ s)) ≡ None) (sym front) (rows_cross offset_rows refl b a (take k s) (drop j (a ++ 93 ∷ s)))

  longer_by : (j : ℕ) → suc (length a) < suc j → length a < j ⊎ j ≤ length a → kind_of w offset (b ∷ take j (a ++ 93 ∷ s)) (drop j (a ++ 93 ∷ s)) ≡ None
  longer_by j lt (inl far) = past j far
  longer_by j lt (inr le) = absurd (omega arith)

  longer : (m : ℕ) → suc (length a) < m → m ≤ length (b ∷ a ++ 93 ∷ s) → kind_of w offset (take m (b ∷ a ++ 93 ∷ s)) (drop m (b ∷ a ++ 93 ∷ s)) ≡ None
  longer zero lt le = absurd (omega arith)
  longer (suc j) lt le = longer_by j lt (cases_lt (length a) j)

  stays : IsLongest w offset (b ∷ a ++ 93 ∷ s) kind (suc (length a))
  stays = record {
    within = let l = length-append a (93 ∷ s) in omega arith;
    is = sym (same (length a) (omega arith)) ∙ h.is;
    longest = longer;
  }

pub offsets_stay : OffsetsStay
offsets_stay v w kind b a r s h = stays v w kind b a r s h
