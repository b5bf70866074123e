-- A bracket between two tokens of code leaves all tokens before it the longest.
use Rattle.std.proofs.Common.{
  ◌≡◌,
  ℕ,
  zero,
  suc,
  ◌+◌,
  ◌-◌,
  ◌<◌,
  ◌≤◌,
  Bool,
  true,
  false,
  not,
  nat_eq,
  ◌&&◌,
  ◌||◌,
  List,
  [],
  ◌∷◌,
  ◌++◌,
  length,
  take,
  drop,
  ◌⊎◌,
  inl,
  inr,
  None,
  refl,
  sym,
  ap,
  ◌∙◌,
  subst,
  append_assoc,
  arith,
}
use Rattle.std.proofs.lemmas.Bool.{cases_lt, eqb-true, not-true}
use Rattle.std.proofs.lemmas.List.{take-append-le, length-append}
use Rattle.std.proofs.Math.Seq.{take-append-add}
use Rattle.php_tree.specs.declared.version.Version.{Version}
use Rattle.php_tree.specs.declared.version.Version.TheVariants.{V74, V83}
use Rattle.php_spellings.specs.declared.table.Kind.{Kind}
use Rattle.php_spellings.specs.Bytes.{begins}
use Rattle.php_lexer.specs.RulesCode.{code_rows}
use Rattle.php_lexer.specs.Modes.{code, kind_of, IsLongest}
use Rattle.php_relexing.specs.Tiles.{Tile, tile, joined, Tiled, is_bracket, is_far, begins_words, leaves_words, is_near, AllNear, BracketComesIn}
use Rattle.php_relexing.proofs.Near.{GoesOn, stops_rows, rows_cross, rows_blind}

-- ---- the rows of code

bracket_is : (c : ℕ) (w x y z : Bool) → nat_eq c 40 ≡ w → nat_eq c 41 ≡ x → nat_eq c 91 ≡ y → nat_eq c 93 ≡ z
    → (w || x || y || z) ≡ true → ((c ≡ 40) ⊎ (c ≡ 41)) ⊎ ((c ≡ 91) ⊎ (c ≡ 93))
bracket_is c true x y z p q r s h = inl (inl (eqb-true c 40 p))
bracket_is c false true y z p q r s h = inl (inr (eqb-true c 41 q))
bracket_is c false false true z p q r s h = inr (inl (eqb-true c 91 r))
bracket_is c false false false true p q r s h = inr (inr (eqb-true c 93 s))
bracket_is c false false false false p q r s h = absurd cc

stops_by : (v : Version) (c : ℕ) → ((c ≡ 40) ⊎ (c ≡ 41)) ⊎ ((c ≡ 91) ⊎ (c ≡ 93)) → stops_rows c (code_rows v) ≡ true
stops_by V74 c (inl (inl e)) = rw e refl
stops_by V74 c (inl (inr e)) = rw e refl
stops_by V74 c (inr (inl e)) = rw e refl
stops_by V74 c (inr (inr e)) = rw e refl
stops_by V83 c (inl (inl e)) = rw e refl
stops_by V83 c (inl (inr e)) = rw e refl
stops_by V83 c (inr (inl e)) = rw e refl
stops_by V83 c (inr (inr e)) = rw e refl

code_stops : (v : Version) (c : ℕ) → is_bracket c ≡ true → stops_rows c (code_rows v) ≡ true
code_stops v c h = stops_by v c (bracket_is c (nat_eq c 40) (nat_eq c 41) (nat_eq c 91) (nat_eq c 93) refl refl refl refl h)

-- ---- a token stays where a bracket comes in further on

fst : (x y : Bool) → (x && y) ≡ true → x ≡ true
fst true y e = refl
fst false y e = absurd cc

snd : (x y : Bool) → (x && y) ≡ true → y ≡ true
snd true y e = e
snd false y e = absurd cc

near_not_far : (b : ℕ) (s : List ℕ) → is_near b s ≡ true → is_far b ≡ false
near_not_far b s h = not-true (is_far b) (fst (not (is_far b)) (not (begins_words b) || begins (leaves_words b) s) h)

-- the text of the first bytes goes on as the whole does
goes_on : (b : ℕ) (s r : List ℕ) (k : ℕ) → is_near b s ≡ true → k ≤ length s → GoesOn b (take k (s ++ r)) (drop k (s ++ r))
goes_on b [] r zero near le = inl (words (begins_words b) refl (snd (not (is_far b)) (not (begins_words b) || false) near))
  where
    words : (t : Bool) → begins_words b ≡ t → (not t || false) ≡ true → t ≡ false
    words true p q = absurd cc
    words false p q = refl
goes_on b [] r (suc k) near le = absurd (omega arith)
goes_on b (z ∷ s) r zero near le = words (begins_words b) refl (snd (not (is_far b)) (not (begins_words b) || leaves_words b z) near)
  where
    words : (t : Bool) → begins_words b ≡ t → (not t || leaves_words b z) ≡ true → (begins_words b ≡ false) ⊎ (leaves_words b z ≡ true)
    words true p q = inr q
    words false p q = inl p
goes_on b (z ∷ s) r (suc k) near le = words (begins_words b) refl (snd (not (is_far b)) (not (begins_words b) || leaves_words b z) near)
  where
    words : (t : Bool) → begins_words b ≡ t → (not t || leaves_words b z) ≡ true → (begins_words b ≡ false) ⊎ (leaves_words b z ≡ true)
    words true p q = inr q
    words false p q = inl p

module _ (v : Version) (c : ℕ) (bracket : is_bracket c ≡ true) (b : ℕ) (s : List ℕ) (near : is_near b s ≡ true) where
  rows : stops_rows c (code_rows v) ≡ true
  rows = code_stops v c bracket

  same_front : (k : ℕ) (r2 new : List ℕ) → k ≤ length s → kind_of v code (b ∷ take k (s ++ r2)) (drop k (s ++ r2)) ≡
      kind_of v code (b ∷ take k (s ++ c ∷ new)) (drop k (s ++ c ∷ new))
  same_front k r2 new le =
      let old = goes_on b s r2 k near le in
      let other = goes_on b s (c ∷ new) k near le in
      let text : take k (s ++ r2) ≡ take k (s ++ c ∷ new) = take-append-le k s r2 le ∙ sym (take-append-le k s (c ∷ new) le) in
      let moved : GoesOn b (take k (s ++ r2)) (drop k (s ++ c ∷ new)) = subst (λ (t : List ℕ). GoesOn b t (drop k (s ++ c ∷ new))) (sym text) other in
      rows_blind [] c (code_rows v) rows b (near_not_far b s near) (take k (s ++ r2)) (drop k (s ++ r2)) (drop k (s ++ c ∷ new)) old moved
      ∙ ap (λ (t : List ℕ). kind_of v code (b ∷ t) (drop k (s ++ c ∷ new))) text

  crossed : (k : ℕ) (new rest : List ℕ) → kind_of v code (b ∷ take (length s + suc k) (s ++ c ∷ new)) rest ≡ None
  crossed k new rest = rw (take-append-add s (c ∷ new) (suc k)) (rows_cross [] c (code_rows v) bracket rows b s near (take k new) rest)

  longer_by : (kind : Kind) (n : ℕ) (r2 new : List ℕ) → IsLongest v code (b ∷ s ++ r2) kind (suc n) → (j : ℕ)
      → suc n < suc j → length s < j ⊎ j ≤ length s → kind_of v code (b ∷ take j (s ++ c ∷ new))
      (drop j (s ++ c ∷ new)) ≡ None
  longer_by kind n r2 new h j lt (inl far) =
      let k = j - length s - 1 in
      let e : j ≡ length s + suc k = omega arith in
      subst (λ (i : ℕ). kind_of v code (b ∷ take i (s ++ c ∷ new)) (drop j (s ++ c ∷ new)) ≡ None) (sym e) (crossed k new (drop j (s ++ c ∷ new)))
  longer_by kind n r2 new h j lt (inr le2) = sym (same_front j r2 new le2) ∙ h.longest (suc j) lt (let l = length-append s r2 in omega arith)

  longer : (kind : Kind) (n : ℕ) (r2 new : List ℕ) → IsLongest v code (b ∷ s ++ r2) kind (suc n) → (m : ℕ) → suc n < m
      → m ≤ length (b ∷ s ++ c ∷ new) → kind_of v code (take m (b ∷ s ++ c ∷ new)) (drop m (b ∷ s ++ c ∷ new)) ≡ None
  longer kind n r2 new h zero lt le2 = absurd (omega arith)
  longer kind n r2 new h (suc j) lt le2 = longer_by kind n r2 new h j lt (cases_lt (length s) j)

  pub stays : (kind : Kind) (n : ℕ) (r2 new : List ℕ) → suc n ≤ suc (length s) → IsLongest v code (b ∷ s ++ r2) kind (suc n) → IsLongest v code (b ∷ s ++ c ∷ new) kind (suc n)
  stays kind n r2 new le h = record {
    within = let l = length-append s (c ∷ new) in omega arith;
    is = sym (same_front n r2 new (omega arith)) ∙ h.is;
    longest = longer kind n r2 new h;
  }

-- ---- whole rows of tiles

joined_append : (ts us : List Tile) → joined (ts ++ us) ≡ joined ts ++ joined us
joined_append [] us = refl
joined_append (tile kind b a ∷ ts) us = ap (λ (u : List ℕ). b ∷ u) (ap (λ (u : List ℕ). a ++ u) (joined_append ts us) ∙ sym (append_assoc a (joined ts) (joined us)))

-- more bytes behind a near token keep it near
or_more : (x y z : Bool) → (y ≡ true → z ≡ true) → (x || y) ≡ true → (x || z) ≡ true
or_more true y z f h = refl
or_more false y z f h = f h

begins_more : (p : ℕ → Bool) (a more : List ℕ) → begins p a ≡ true → begins p (a ++ more) ≡ true
begins_more p [] more h = absurd cc
begins_more p (z ∷ a) more h = h

near_more : (b : ℕ) (a more : List ℕ) → is_near b a ≡ true → is_near b (a ++ more) ≡ true
near_more b a more h =
    let far = fst (not (is_far b)) (not (begins_words b) || begins (leaves_words b) a) h in
    let words = or_more (not (begins_words b)) (begins (leaves_words b) a) (begins (leaves_words b) (a ++ more))
    (begins_more (leaves_words b) a more)
    (snd (not (is_far b)) (not (begins_words b) || begins (leaves_words b) a) h) in
    rw (far, words) refl

inserted : (v : Version) (c : ℕ) → is_bracket c ≡ true → (kind : Kind) (u : List ℕ) (ts us : List Tile) → AllNear ts
    → Tiled v (ts ++ us) → IsLongest v code (c ∷ u ++ joined us) kind (suc (length u))
    → Tiled v (ts ++ tile kind c u ∷ us)
inserted v c bracket kind u [] us near t h = (h, t)
inserted v c bracket kind u (tile k b a ∷ ts) us near t h = (
  first,
  inserted v c bracket kind u ts us near.1 t.1 h,
)
  where
    whole : (vs : List Tile) → a ++ joined (ts ++ vs) ≡ (a ++ joined ts) ++ joined vs
    whole vs = ap (λ (x : List ℕ). a ++ x) (joined_append ts vs) ∙ sym (append_assoc a (joined ts) (joined vs))

    first : IsLongest v code (b ∷ a ++ joined (ts ++ tile kind c u ∷ us)) k (suc (length a))
    first =
        let old = subst (λ (x : List ℕ). IsLongest v code (b ∷ x) k (suc (length a))) (whole us) t.0 in
        let size = length-append a (joined ts) in
        subst (λ (x : List ℕ). IsLongest v code (b ∷ x) k (suc (length a))) (sym (whole (tile kind c u ∷ us)))
        (stays v c bracket b (a ++ joined ts) (near_more b a (joined ts) near.0) k (length a) (joined us)
        (u ++ joined us) (omega arith) old)

pub bracket_comes_in : BracketComesIn
bracket_comes_in v c kind u ts us bracket near t h = inserted v c bracket kind u ts us near t h
