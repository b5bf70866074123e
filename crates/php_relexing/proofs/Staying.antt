-- A near token of 7.4 stays where the bytes behind it go on alike.
use Rattle.std.proofs.Common.{
  ◌≡◌,
  ℕ,
  zero,
  suc,
  ◌+◌,
  ◌-◌,
  ◌<◌,
  ◌≤◌,
  Bool,
  true,
  false,
  not,
  ◌||◌,
  List,
  [],
  ◌∷◌,
  ◌++◌,
  length,
  take,
  drop,
  ◌⊎◌,
  inl,
  inr,
  None,
  refl,
  sym,
  ap,
  ◌∙◌,
  subst,
  append_assoc,
  append-nil,
  arith,
}
use Rattle.std.proofs.lemmas.Bool.{cases_lt, and_parts, not-true}
use Rattle.std.proofs.lemmas.List.{take-append-le, length-append}
use Rattle.std.proofs.Math.Seq.{take-append-add}
use Rattle.php_tree.specs.declared.version.Version.TheVariants.{V74}
use Rattle.php_spellings.specs.declared.table.Kind.{Kind}
use Rattle.php_spellings.specs.Bytes.{begins}
use Rattle.php_lexer.specs.RulesCode.{code_rows}
use Rattle.php_lexer.specs.Modes.{code, kind_of, IsLongest}
use Rattle.php_relexing.specs.Tiles.{is_far, begins_words, leaves_words, is_near}
use Rattle.php_relexing.specs.Alike.{is_break, Alike, ended, broken, same, is_tight, NearTokensStay}
use Rattle.php_relexing.proofs.Near.{GoesOn, rows_blind}
use Rattle.php_relexing.proofs.Crossing.{IsTight, tight_is, code_cross, same_start}

words_or : (b z : ℕ) (t : Bool) → begins_words b ≡ t → (not t || leaves_words b z) ≡ true → (begins_words b ≡ false) ⊎ (leaves_words b z ≡ true)
words_or b z true p q = inr q
words_or b z false p q = inl p

no_words : (b : ℕ) (t : Bool) → begins_words b ≡ t → (not t || false) ≡ true → begins_words b ≡ false
no_words b true p q = absurd cc
no_words b false p q = p

near_words : (b : ℕ) (bs : List ℕ) → is_near b bs ≡ true → (not (begins_words b) || begins (leaves_words b) bs) ≡ true
near_words b bs h = (and_parts (not (is_far b)) (not (begins_words b) || begins (leaves_words b) bs) h).1

near_far : (b : ℕ) (bs : List ℕ) → is_near b bs ≡ true → is_far b ≡ false
near_far b bs h = not-true (is_far b) (and_parts (not (is_far b)) (not (begins_words b) || begins (leaves_words b) bs) h).0

-- the text of the first bytes goes on as the whole does
goes_on : (b : ℕ) (bs : List ℕ) (k : ℕ) → is_near b bs ≡ true → GoesOn b (take k bs) (drop k bs)
goes_on b [] zero near = inl (no_words b (begins_words b) refl (near_words b [] near))
goes_on b [] (suc k) near = inl (no_words b (begins_words b) refl (near_words b [] near))
goes_on b (z ∷ bs) zero near = words_or b z (begins_words b) refl (near_words b (z ∷ bs) near)
goes_on b (z ∷ bs) (suc k) near = words_or b z (begins_words b) refl (near_words b (z ∷ bs) near)

module _ (b : ℕ) (s r w : List ℕ) (old_near : is_near b (s ++ r) ≡ true) (new : IsTight b (s ++ w)) where
  same_front : (k : ℕ) → k ≤ length s → kind_of V74 code (b ∷ take k (s ++ r)) (drop k (s ++ r)) ≡ kind_of V74 code (b ∷ take k (s ++ w)) (drop k (s ++ w))
  same_front k le =
      let old = goes_on b (s ++ r) k old_near in
      let other = goes_on b (s ++ w) k new.near in
      let text : take k (s ++ r) ≡ take k (s ++ w) = take-append-le k s r le ∙ sym (take-append-le k s w le) in
      let moved : GoesOn b (take k (s ++ r)) (drop k (s ++ w)) = subst (λ (t : List ℕ). GoesOn b t (drop k (s ++ w))) (sym text) other in
      rows_blind [] 40 (code_rows V74) refl b (near_far b (s ++ w) new.near) (take k (s ++ r)) (drop k (s ++ r)) (drop k (s ++ w)) old moved
      ∙ ap (λ (t : List ℕ). kind_of V74 code (b ∷ t) (drop k (s ++ w))) text

  module _ (kind : Kind) (n : ℕ) (le : n ≤ length s) (h : IsLongest V74 code (b ∷ s ++ r) kind (suc n)) where
    -- no text past those bytes is a token
    abbrev NoneBehind : Type 0
    NoneBehind = (j : ℕ) → length s < j → j ≤ length (s ++ w) → kind_of V74 code (b ∷ take j (s ++ w)) (drop j (s ++ w)) ≡ None

    longer_by : NoneBehind → (j : ℕ) → suc n < suc j → j ≤ length (s ++ w) → length s < j ⊎ j ≤ length s → kind_of V74 code (b ∷ take j (s ++ w)) (drop j (s ++ w)) ≡ None
    longer_by none j lt within (inl far) = none j far within
    longer_by none j lt within (inr le2) = sym (same_front j le2) ∙ h.longest (suc j) lt (let l = length-append s r in omega arith)

    longer : NoneBehind → (m : ℕ) → suc n < m → m ≤ length (b ∷ s ++ w) → kind_of V74 code (take m (b ∷ s ++ w)) (drop m (b ∷ s ++ w)) ≡ None
    longer none zero lt le2 = absurd (omega arith)
    longer none (suc j) lt le2 = longer_by none j lt (omega arith) (cases_lt (length s) j)

    pub stays : NoneBehind → IsLongest V74 code (b ∷ s ++ w) kind (suc n)
    stays none = record {
      within = let l = length-append s w in omega arith;
      is = sym (same_front n le) ∙ h.is;
      longest = longer none;
    }

-- ---- at a break, and at the end

crossed : (b : ℕ) (s : List ℕ) (c : ℕ) (w : List ℕ) → is_break c ≡ true → IsTight b (s ++ c ∷ w)
    → (k : ℕ) (rest : List ℕ) → rest ≡ drop (length s + suc k) (s ++ c ∷ w)
    → kind_of V74 code (b ∷ take (length s + suc k) (s ++ c ∷ w)) rest ≡ None
crossed b s c w e tight k rest is =
    let front : take (length s + suc k) (s ++ c ∷ w) ≡ s ++ c ∷ take k w = take-append-add s (c ∷ w) (suc k) in
    let goes = goes_on b (s ++ c ∷ w) (length s + suc k) tight.near in
    let there : GoesOn b (s ++ c ∷ take k w) rest = subst (λ (t : List ℕ). GoesOn b t rest) front
    (subst (λ (u : List ℕ). GoesOn b (take (length s + suc k) (s ++ c ∷ w)) u) (sym is) goes) in
    subst (λ (t : List ℕ). kind_of V74 code (b ∷ t) rest ≡ None) (sym front)
    (code_cross c e b s (take k w) rest (record {
      far = near_far b (s ++ c ∷ w) tight.near;
      solid =
          tight.solid;
      off = same_start b s c w (take k w) tight.open_;
      goes = there;
    }))

none_past : (b : ℕ) (s : List ℕ) (c : ℕ) (w : List ℕ) → is_break c ≡ true → IsTight b (s ++ c ∷ w) → (j : ℕ)
    → length s < j → kind_of V74 code (b ∷ take j (s ++ c ∷ w)) (drop j (s ++ c ∷ w)) ≡ None
none_past b s c w e tight j lt =
    let k = j - length s - 1 in
    let size : j ≡ length s + suc k = omega arith in
    subst (λ (i : ℕ). kind_of V74 code (b ∷ take i (s ++ c ∷ w)) (drop i (s ++ c ∷ w)) ≡ None) (sym size) (crossed b s c w e tight k (drop (length s + suc k) (s ++ c ∷ w)) refl)

at_break : (kind : Kind) (n b : ℕ) (s r : List ℕ) (c : ℕ) (w : List ℕ) → is_break c ≡ true → n ≤ length s
    → is_tight b (s ++ r) ≡ true → is_tight b (s ++ c ∷ w) ≡ true → IsLongest V74 code (b ∷ s ++ r) kind (suc n)
    → IsLongest V74 code (b ∷ s ++ c ∷ w) kind (suc n)
at_break kind n b s r c w e le old new h =
    stays b s r (c ∷ w) (tight_is b (s ++ r) old).near (tight_is b (s ++ c ∷ w) new) kind n le h (λ j lt within. none_past b s c w e (tight_is b (s ++ c ∷ w) new) j lt)

at_end : (kind : Kind) (n b : ℕ) (s r : List ℕ) → n ≤ length s → is_tight b (s ++ r) ≡ true
    → is_tight b (s ++ []) ≡ true → IsLongest V74 code (b ∷ s ++ r) kind (suc n)
    → IsLongest V74 code (b ∷ s ++ []) kind (suc n)
at_end kind n b s r le old new h =
    stays b s r [] (tight_is b (s ++ r) old).near (tight_is b (s ++ []) new) kind n le h
    (λ j lt within. absurd (let l : length (s ++ []) ≡ length s = ap length (append-nil s) in omega arith))

-- ---- bytes that go on alike

front_of : (s r : List ℕ) (x : ℕ) → s ++ x ∷ r ≡ (s ++ x ∷ []) ++ r
front_of s r x = sym (append_assoc s (x ∷ []) r)

alike_by : {r w : List ℕ} → Alike r w → (kind : Kind) (n b : ℕ) (s : List ℕ) → n ≤ length s
    → is_tight b (s ++ r) ≡ true → is_tight b (s ++ w) ≡ true → IsLongest V74 code (b ∷ s ++ r) kind (suc n)
    → IsLongest V74 code (b ∷ s ++ w) kind (suc n)
alike_by (ended {r = r}) kind n b s le old new h = at_end kind n b s r le old new h
alike_by (broken {r = r} {s = w} c e) kind n b s le old new h = at_break kind n b s r c w e le old new h
alike_by (same {r = r} {s = w} x alike) kind n b s le old new h =
    let size = length-append s (x ∷ []) in
    subst (λ (t : List ℕ). IsLongest V74 code (b ∷ t) kind (suc n)) (sym (front_of s w x))
    (alike_by alike kind n b (s ++ x ∷ []) (omega arith)
    (subst (λ (t : List ℕ). is_tight b t ≡ true) (front_of s r x) old)
    (subst (λ (t : List ℕ). is_tight b t ≡ true) (front_of s w x) new)
    (subst (λ (t : List ℕ). IsLongest V74 code (b ∷ t) kind (suc n)) (front_of s r x) h))

pub near_tokens_stay : NearTokensStay
near_tokens_stay kind b a r s alike old new h = alike_by alike kind (length a) b a (omega arith) old new h
