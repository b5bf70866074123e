-- The first line of a nowdoc.
use Rattle.std.proofs.Common.{◌≡◌, ℕ, suc, ◌+◌, Bool, true, false, cond, ◌&&◌, nat_eq, List, [], ◌∷◌, ◌++◌, length, take, drop, refl, sym, ap, ◌∙◌, subst, append_assoc, arith}
use Rattle.std.proofs.lemmas.Bool.{and_parts, eqb-true, and_from}
use Rattle.std.proofs.lemmas.List.{length-append}
use Rattle.std.proofs.Math.Seq.{take-append_seam, drop-append_seam}
use Rattle.php_spellings.specs.Bytes.{is_blank_byte, is_line_end, is_letter, is_label_byte, begins, begins_by, skip_blanks, blanks_len, label_len}
use Rattle.php_lexer.specs.Heredocs.{behind_quote, nowdoc_label, nowdoc_head, begins_nowdoc}
use Rattle.php_relexing.specs.Labels.{all_label, is_label}
use Rattle.php_relexing.proofs.HeredocFronts.{skip_by}

abbrev pub all_blank : List ℕ → Bool
all_blank [] = true
all_blank (b ∷ k) = is_blank_byte b && all_blank k

-- ---- blanks before the quote

count_by : (b : ℕ) (bs : List ℕ) (t : Bool) → is_blank_byte b ≡ t → blanks_len (b ∷ bs) ≡ cond t (suc (blanks_len bs)) 0
count_by b bs true e = let one : 1 + blanks_len bs ≡ suc (blanks_len bs) = omega arith in rw (e, one) refl
count_by b bs false e = rw e refl

skipped : (k u : List ℕ) → all_blank k ≡ true → skip_blanks (k ++ 39 ∷ u) ≡ 39 ∷ u
skipped [] u h = refl
skipped (b ∷ k) u h =
    let (here, more) = and_parts (is_blank_byte b) (all_blank k) h in
    skip_by b (k ++ 39 ∷ u) true here ∙ skipped k u more

counted : (k u : List ℕ) → all_blank k ≡ true → blanks_len (k ++ 39 ∷ u) ≡ length k
counted [] u h = refl
counted (b ∷ k) u h =
    let (here, more) = and_parts (is_blank_byte b) (all_blank k) h in
    count_by b (k ++ 39 ∷ u) true here ∙ ap (λ (n : ℕ). suc n) (counted k u more)

record Blanks (bs : List ℕ) : Type 0 where
  blanks : List ℕ
  more : List ℕ
  all : all_blank blanks ≡ true
  same : bs ≡ blanks ++ 39 ∷ more

blanks_by : (b : ℕ) (bs : List ℕ) → (begins_by 39 (skip_blanks bs) ≡ true → Blanks bs) → (t : Bool)
    → is_blank_byte b ≡ t → begins_by 39 (skip_blanks (b ∷ bs)) ≡ true → Blanks (b ∷ bs)
blanks_by b bs ih true e h =
    let is = ih (sym (ap (begins_by 39) (skip_by b bs true e)) ∙ h) in
    record { blanks = b ∷ is.blanks; more = is.more; all = and_from (is_blank_byte b) (all_blank is.blanks) e is.all; same = ap (λ (u : List ℕ). b ∷ u) is.same }
blanks_by b bs ih false e h =
    let quote : nat_eq b 39 ≡ true = sym (ap (begins_by 39) (skip_by b bs false e)) ∙ h in
    record { blanks = []; more = bs; all = refl; same = ap (λ (x : ℕ). x ∷ bs) (eqb-true b 39 quote) }

blanks_of : (bs : List ℕ) → begins_by 39 (skip_blanks bs) ≡ true → Blanks bs
blanks_of [] h = absurd cc
blanks_of (b ∷ bs) h = blanks_by b bs (blanks_of bs) (is_blank_byte b) refl h

-- ---- the label up to the closing quote

run_by : (b : ℕ) (bs : List ℕ) (t : Bool) → is_label_byte b ≡ t → label_len (b ∷ bs) ≡ cond t (suc (label_len bs)) 0
run_by b bs true e = let one : 1 + label_len bs ≡ suc (label_len bs) = omega arith in rw (e, one) refl
run_by b bs false e = rw e refl

run_len : (l w : List ℕ) → all_label l ≡ true → label_len (l ++ 39 ∷ w) ≡ length l
run_len [] w h = refl
run_len (b ∷ l) w h =
    let (here, more) = and_parts (is_label_byte b) (all_label l) h in
    run_by b (l ++ 39 ∷ w) true here ∙ ap (λ (n : ℕ). suc n) (run_len l w more)

record Run (u : List ℕ) : Type 0 where
  label : List ℕ
  more : List ℕ
  all : all_label label ≡ true
  same : u ≡ label ++ 39 ∷ more

run_split : (b : ℕ) (u : List ℕ) → (begins_by 39 (drop (label_len u) u) ≡ true → Run u) → (t : Bool)
    → is_label_byte b ≡ t → begins_by 39 (drop (label_len (b ∷ u)) (b ∷ u)) ≡ true → Run (b ∷ u)
run_split b u ih true e h =
    let is = ih (sym (ap (λ (n : ℕ). begins_by 39 (drop n (b ∷ u))) (run_by b u true e)) ∙ h) in
    record { label = b ∷ is.label; more = is.more; all = and_from (is_label_byte b) (all_label is.label) e is.all; same = ap (λ (v : List ℕ). b ∷ v) is.same }
run_split b u ih false e h =
    let quote : nat_eq b 39 ≡ true = sym (ap (λ (n : ℕ). begins_by 39 (drop n (b ∷ u))) (run_by b u false e)) ∙ h in
    record { label = []; more = u; all = refl; same = ap (λ (x : ℕ). x ∷ u) (eqb-true b 39 quote) }

run_of : (u : List ℕ) → begins_by 39 (drop (label_len u) u) ≡ true → Run u
run_of [] h = absurd cc
run_of (b ∷ u) h = run_split b u (run_of u) (is_label_byte b) refl h

-- ---- the whole line

-- blanks, the label in single quotes, and what follows
abbrev pub line : List ℕ → List ℕ → List ℕ → List ℕ
line k l w = k ++ 39 ∷ (l ++ 39 ∷ w)

module _ (k l w : List ℕ) (blank : all_blank k ≡ true) (named : is_label l ≡ true) where
  all_named : all_label l ≡ true
  all_named = by_label l named
    where
      by_label : (l : List ℕ) → is_label l ≡ true → all_label l ≡ true
      by_label [] h = absurd cc
      by_label (b ∷ a) h = let (here, more) = and_parts (is_letter b) (all_label a) h in rw (here, more) refl

  first_letter : (l : List ℕ) → is_label l ≡ true → begins is_letter (l ++ 39 ∷ w) ≡ true
  first_letter [] h = absurd cc
  first_letter (b ∷ a) h = (and_parts (is_letter b) (all_label a) h).0

  behind : behind_quote (line k l w) ≡ l ++ 39 ∷ w
  behind = ap (drop 1) (skipped k (l ++ 39 ∷ w) blank)

  len : label_len (l ++ 39 ∷ w) ≡ length l
  len = run_len l w all_named

  rest : drop (label_len (l ++ 39 ∷ w)) (l ++ 39 ∷ w) ≡ 39 ∷ w
  rest = ap (λ (n : ℕ). drop n (l ++ 39 ∷ w)) len ∙ drop-append_seam l (39 ∷ w)

  past : drop (label_len (l ++ 39 ∷ w) + 1) (l ++ 39 ∷ w) ≡ w
  past =
      ap (λ (n : ℕ). drop n (l ++ 39 ∷ w)) (ap (λ (n : ℕ). n + 1) len ∙ size)
      ∙ ap (λ (u : List ℕ). drop (length (l ++ 39 ∷ [])) u) (sym (append_assoc l (39 ∷ []) w))
      ∙ drop-append_seam (l ++ 39 ∷ []) w
    where
      size : length l + 1 ≡ length (l ++ 39 ∷ [])
      size = let e = length-append l (39 ∷ []) in omega arith

  pub is_line : begins is_line_end w ≡ true → begins_nowdoc (line k l w) ≡ true
  is_line ends = rw (skipped k (l ++ 39 ∷ w) blank, first_letter l named, rest, past, ends) refl

  pub label_is : nowdoc_label (line k l w) ≡ l
  label_is =
      ap (λ (u : List ℕ). take (label_len u) u) behind
      ∙ ap (λ (n : ℕ). take n (l ++ 39 ∷ w)) len
      ∙ take-append_seam l (39 ∷ w)

  pub head_is : nowdoc_head (line k l w) ≡ length k + length l + 2
  head_is =
      ap (λ (n : ℕ). n + label_len (behind_quote (line k l w)) + 2) (counted k (l ++ 39 ∷ w) blank)
      ∙ ap (λ (u : List ℕ). length k + label_len u + 2) behind
      ∙ ap (λ (n : ℕ). length k + n + 2) len

-- the first line, up to its line end
pub record Opened (bs : List ℕ) : Type 0 where
  pub blanks : List ℕ
  pub label : List ℕ
  pub more : List ℕ
  pub blank : all_blank blanks ≡ true
  pub named : is_label label ≡ true
  pub ends : begins is_line_end more ≡ true
  pub same : bs ≡ line blanks label more

label_by : (l w : List ℕ) → all_label l ≡ true → begins is_letter (l ++ 39 ∷ w) ≡ true → is_label l ≡ true
label_by [] w h e = absurd cc
label_by (b ∷ a) w h e = let (here, more) = and_parts (is_label_byte b) (all_label a) h in rw (e, more) refl

opened_by : (k u : List ℕ) → all_blank k ≡ true → begins is_letter u ≡ true
    → begins_by 39 (drop (label_len u) u) ≡ true → begins is_line_end (drop (label_len u + 1) u) ≡ true
    → Opened (k ++ 39 ∷ u)
opened_by k u blank letter quote ends =
    let run = run_of u quote in
    let named = label_by run.label run.more run.all (subst (λ (v : List ℕ). begins is_letter v ≡ true) run.same letter) in
    let there : begins is_line_end (drop (label_len (run.label ++ 39 ∷ run.more) + 1) (run.label ++ 39 ∷ run.more)) ≡
    true = subst (λ (v : List ℕ). begins is_line_end (drop (label_len v + 1) v) ≡ true) run.same ends in
    record {
      blanks = k;
      label = run.label;
      more = run.more;
      blank = blank;
      named = named;
      ends = subst (λ (v : List ℕ). begins is_line_end v ≡ true) (past k run.label run.more blank named) there;
      same = ap (λ (v : List ℕ). k ++ 39 ∷ v) run.same;
    }

pub opened : (bs : List ℕ) → begins_nowdoc bs ≡ true → Opened bs
opened bs h =
    let (three, ends) = and_parts (begins_by 39 (skip_blanks bs) && begins is_letter (behind_quote bs)
    && begins_by 39 (drop (label_len (behind_quote bs)) (behind_quote bs)))
    (begins is_line_end (drop (label_len (behind_quote bs) + 1) (behind_quote bs))) h in
    let (two, quote) = and_parts (begins_by 39 (skip_blanks bs) && begins is_letter (behind_quote bs))
    (begins_by 39 (drop (label_len (behind_quote bs)) (behind_quote bs))) three in
    let (first, letter) = and_parts (begins_by 39 (skip_blanks bs)) (begins is_letter (behind_quote bs)) two in
    let is = blanks_of bs first in
    let behind : behind_quote bs ≡ is.more = ap behind_quote is.same ∙ ap (drop 1) (skipped is.blanks is.more is.all) in
    subst Opened (sym is.same)
    (opened_by is.blanks is.more is.all
    (subst (λ (u : List ℕ). begins is_letter u ≡ true) behind letter)
    (subst (λ (u : List ℕ). begins_by 39 (drop (label_len u) u) ≡ true) behind quote)
    (subst (λ (u : List ℕ). begins is_line_end (drop (label_len u + 1) u) ≡ true) behind ends))
