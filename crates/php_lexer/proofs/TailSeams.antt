-- No token ends within a character.
use Rattle.std.proofs.Common.{
  ◌≡◌,
  ℕ,
  zero,
  suc,
  ◌+◌,
  ◌<◌,
  ◌≤◌,
  Bool,
  true,
  false,
  not,
  cond,
  ◌&&◌,
  ◌||◌,
  nat_eq,
  nat_lt,
  List,
  [],
  ◌∷◌,
  length,
  take,
  drop,
  get_or,
  ◌⊎◌,
  inl,
  inr,
  Option,
  Some,
  None,
  refl,
  sym,
  ap,
  ◌∙◌,
  subst,
  arith,
  eq-eqb,
}
use Rattle.std.proofs.lemmas.Bool.{ltb-true, eqb-true, cases_lt}
use Rattle.std.proofs.lemmas.Str.{IsUtf8-take, IsUtf8-drop, IsCharBoundary-before_ascii, IsCharBoundary-after_ascii, IsCharBoundary-end}
use Rattle.std.specs.Str.{IsUtf8, IsCharBoundary}
use Rattle.php_tree.specs.declared.version.Version.{Version}
use Rattle.php_tree.specs.declared.version.Version.TheVariants.{V74, V83}
use Rattle.php_spellings.specs.declared.table.Kind.{Kind}
use Rattle.php_spellings.specs.declared.table.Mark.TheVariants.{Double, Back, Here}
use Rattle.php_spellings.specs.declared.table.State.{State}
use Rattle.php_spellings.specs.declared.table.State.TheVariants.{First}
use Rattle.php_spellings.specs.declared.table.Run.{Run}
use Rattle.php_spellings.specs.declared.table.Run.TheVariants.{Labels}
use Rattle.php_spellings.specs.declared.table.Tail.{Tail}
use Rattle.php_spellings.specs.declared.table.Tail.TheVariants.{When, AnyRun, SomeOf, UpTo, Shaped, AnyWord, BracedName, EndLine, NowdocRest}
use Rattle.php_spellings.specs.Bytes.{is_blank_byte, is_line_end, is_label_byte, lower, as_it_is, begins, starts_by}
use Rattle.php_lexer.specs.Heredocs.{no_label, ends_heredoc, begins_nowdoc, nowdoc_label, nowdoc_head}
use Rattle.php_lexer.specs.Rules.{Row, rule, follows, is_b, begins_text}
use Rattle.php_lexer.specs.Modes.{Mode, html, code, named, quoted, offset, property, rows_of, label_in, IsLongest}
use Rattle.php_lexer.specs.Scan.{
  add_to,
  here_len,
  some_len,
  run_len,
  some_run_len,
  word_len,
  name_len,
  last_label_len,
  end_line_len,
  body_len,
  nowdoc_len,
  tail_len,
  behind,
  longer,
  scan_by,
  scan,
}
use Rattle.php_lexer.proofs.Seams.{small, small_front, cuts, cuts_next, cuts_here, or_true, some_same, big_label, big_lower, run_cuts, until_cuts, fits_small}
use Rattle.php_lexer.proofs.ShapeSeams.{here_zero, shape_cuts, small_fits}
use Rattle.php_lexer.proofs.Longest.{scanned_longest, scanned_none, longest_some}
use Rattle.php_lexer.proofs.Single.{same_length, clash}

-- ---- runs and words

some_is : (n k : ℕ) (t : Bool) → nat_eq n 0 ≡ t → cond t None (Some n) ≡ Some k → n ≡ k
some_is n k true e h = absurd cc
some_is n k false e h = some_same n k h

run_some : (r : Run) (label : List ℕ) (s : State) (before : ℕ) (bs : List ℕ) (n : ℕ) → small before ≡ true → some_run_len r label s bs ≡ Some n → cuts before bs n ≡ true
run_some r label s before bs n small_before e =
    subst (λ (k : ℕ). cuts before bs k ≡ true)
    (some_is (run_len r label s bs) n (nat_eq (run_len r label s bs) 0) refl e)
    (run_cuts r label s before bs (fits_small r s before small_before))

if_not : (t : Bool) (o : Option ℕ) (n : ℕ) → cond t None o ≡ Some n → o ≡ Some n
if_not true o n e = absurd cc
if_not false o n e = e

if_so : (t : Bool) (o : Option ℕ) (n : ℕ) → cond t o None ≡ Some n → (t ≡ true) × (o ≡ Some n)
if_so true o n e = (refl, e)
if_so false o n e = absurd cc

add_parts : (h : ℕ) (o : Option ℕ) (n : ℕ) → add_to h o ≡ Some n → (k : ℕ) × (o ≡ Some k) × (n ≡ h + k)
add_parts h None n e = absurd cc
add_parts h (Some k) n e = (k, refl, sym (some_same (h + k) n e))

-- ---- the ends of heredocs

front_cuts : (n before : ℕ) (bs : List ℕ) → small_front (drop n bs) ≡ true → cuts before bs n ≡ true
front_cuts zero before bs e = rw e (or_true (small before))
front_cuts (suc n) before [] e = refl
front_cuts (suc n) before (b ∷ bs) e = front_cuts n b bs e

small_by : (b : ℕ) → is_label_byte b ≡ false → (t : Bool) → small b ≡ t → t ≡ true
small_by b h true e = refl
small_by b h false e = let c : true ≡ false = sym (big_label b e) ∙ h in absurd cc

not_true : (x : Bool) → not x ≡ true → x ≡ false
not_true true e = absurd cc
not_true false e = refl

no_label_small : (bs : List ℕ) → no_label bs ≡ true → small_front bs ≡ true
no_label_small [] e = refl
no_label_small (b ∷ bs) e = small_by b (not_true (is_label_byte b) e) (small b) refl

last_label_cuts : (label : List ℕ) (before : ℕ) (bs : List ℕ) (n : ℕ) → last_label_len label bs ≡ Some n → cuts before bs n ≡ true
last_label_cuts [] before bs n e = absurd cc
last_label_cuts (a ∷ label) before bs n e =
    let w = a ∷ label in
    let so = if_so (starts_by as_it_is w bs) (add_to (length w) (here_len (no_label (drop (length w) bs)))) n e in
    let parts = add_parts (length w) (here_len (no_label (drop (length w) bs))) n so.1 in
    let z = here_zero (no_label (drop (length w) bs)) parts.0 parts.1 in
    let size : n ≡ length w = parts.2 ∙ ap (λ (k : ℕ). length w + k) z.1 ∙ plus_zero (length w) in
    rw size (front_cuts (length w) before bs (no_label_small (drop (length w) bs) z.0))
  where
    plus_zero : (n : ℕ) → n + 0 ≡ n
    plus_zero n = omega arith

line_by : (label : List ℕ) (before b : ℕ) (bs : List ℕ) (n : ℕ)
    → ((k : ℕ) → end_line_len label bs ≡ Some k → cuts b bs k ≡ true) → (t : Bool)
    → cond t (add_to 1 (end_line_len label bs)) (last_label_len label (b ∷ bs)) ≡ Some n
    → cuts before (b ∷ bs) n ≡ true
line_by label before b bs n ih true e = let parts = add_parts 1 (end_line_len label bs) n e
    in cuts_next before b bs parts.0 n (let size = parts.2 in omega arith) (ih parts.0 parts.1)
line_by label before b bs n ih false e = last_label_cuts label before (b ∷ bs) n e

end_line_cuts : (label : List ℕ) (before : ℕ) (bs : List ℕ) (n : ℕ) → end_line_len label bs ≡ Some n → cuts before bs n ≡ true
end_line_cuts label before [] n e = absurd cc
end_line_cuts label before (b ∷ bs) n e = line_by label before b bs n (end_line_cuts label b bs) (is_blank_byte b) e

body_by : (label : List ℕ) (before b : ℕ) (bs : List ℕ) (n : ℕ) (o : Option ℕ)
    → ((k : ℕ) → o ≡ Some k → cuts b bs k ≡ true) → (t : Bool)
    → cond t (end_line_len label (b ∷ bs)) (add_to 1 o) ≡ Some n → cuts before (b ∷ bs) n ≡ true
body_by label before b bs n o ih true e = end_line_cuts label before (b ∷ bs) n e
body_by label before b bs n o ih false e = let parts = add_parts 1 o n e in cuts_next before b bs parts.0 n (let size = parts.2 in omega arith) (ih parts.0 parts.1)

body_cuts : (label : List ℕ) (fresh : Bool) (before : ℕ) (bs : List ℕ) (n : ℕ) → body_len label fresh bs ≡ Some n → cuts before bs n ≡ true
body_cuts label fresh before [] n e = absurd cc
body_cuts label fresh before (b ∷ bs) n e = body_by label before b bs n (body_len label (is_line_end b) bs)
    (body_cuts label (is_line_end b) b bs) (fresh && ends_heredoc label (b ∷ bs)) e

cuts_ahead : (h before : ℕ) (bs : List ℕ) (k n : ℕ) → n ≡ h + k → ((p : ℕ) → cuts p (drop h bs) k ≡ true) → cuts before bs n ≡ true
cuts_ahead zero before bs k n e f = let size : n ≡ k = omega arith in rw size (f before)
cuts_ahead (suc h) before [] k n e f = let size : n ≡ suc (h + k) = omega arith in rw size refl
cuts_ahead (suc h) before (b ∷ bs) k n e f = cuts_next before b bs (h + k) n (omega arith) (cuts_ahead h b bs k (h + k) refl f)

nowdoc_cuts : (before : ℕ) (bs : List ℕ) (n : ℕ) → nowdoc_len bs ≡ Some n → cuts before bs n ≡ true
nowdoc_cuts before bs n e =
    let so = if_so (begins_nowdoc bs) (add_to (nowdoc_head bs) (body_len (nowdoc_label bs) false (drop (nowdoc_head bs) bs))) n e in
    let parts = add_parts (nowdoc_head bs) (body_len (nowdoc_label bs) false (drop (nowdoc_head bs) bs)) n so.1 in
    cuts_ahead (nowdoc_head bs) before bs parts.0 n parts.2 (λ p. body_cuts (nowdoc_label bs) false p (drop (nowdoc_head bs) bs) parts.0 parts.1)

-- ---- tails and rows

word_cuts : (before : ℕ) (bs : List ℕ) (n : ℕ) → small before ≡ true → word_len bs ≡ Some n → cuts before bs n ≡ true
word_cuts before bs n h e = run_some Labels [] First before bs n h
    (if_not (is_b (take (run_len Labels [] First bs) bs) && begins_text (drop (run_len Labels [] First bs) bs))
    (some_len (run_len Labels [] First bs)) n e)

name_cuts : (before : ℕ) (bs : List ℕ) (n : ℕ) → small before ≡ true → name_len bs ≡ Some n → cuts before bs n ≡ true
name_cuts before bs n h e = run_some Labels [] First before bs n h
    ((if_so (begins (λ c. nat_eq c 91 || nat_eq c 125) (drop (run_len Labels [] First bs) bs))
    (some_len (run_len Labels [] First bs)) n e).1)

tail_cuts : (label : List ℕ) (tail : Tail) (before : ℕ) (bs : List ℕ) (n : ℕ) → small before ≡ true → tail_len label tail bs ≡ Some n → cuts before bs n ≡ true
tail_cuts label (When f) before bs n h e = let z = here_zero (follows f bs) n e in cuts_here before bs n z.1 h
tail_cuts label (AnyRun r) before bs n h e = subst (λ (k : ℕ). cuts before bs k ≡ true)
    (some_same (run_len r label First bs) n e) (run_cuts r label First before bs (fits_small r First before h))
tail_cuts label (SomeOf r s) before bs n h e = run_some r label s before bs n h e
tail_cuts label (UpTo u) before bs n h e = until_cuts u First before bs n e
tail_cuts label (Shaped sh s) before bs n h e = shape_cuts sh s before bs n (small_fits sh s before h) e
tail_cuts label AnyWord before bs n h e = word_cuts before bs n h e
tail_cuts label BracedName before bs n h e = name_cuts before bs n h e
tail_cuts label EndLine before bs n h e = end_line_cuts label before bs n e
tail_cuts label NowdocRest before bs n h e = nowdoc_cuts before bs n e

abbrev all_small : List ℕ → Bool
all_small [] = true
all_small (a ∷ w) = cond (small a) (all_small w) false

abbrev rows_small : List Row → Bool
rows_small [] = true
rows_small (rule kind w tail ∷ rows) = cond (all_small w) (rows_small rows) false

first : (x y : Bool) → cond x y false ≡ true → x ≡ true
first true y e = refl
first false y e = absurd cc

second : (x y : Bool) → cond x y false ≡ true → y ≡ true
second true y e = e
second false y e = absurd cc

and_first : (x y : Bool) → (x && y) ≡ true → x ≡ true
and_first true y e = refl
and_first false y e = absurd cc

and_second : (x y : Bool) → (x && y) ≡ true → y ≡ true
and_second true y e = e
and_second false y e = absurd cc

lower_small : (a b : ℕ) → small a ≡ true → nat_eq a (lower b) ≡ true → (t : Bool) → small b ≡ t → t ≡ true
lower_small a b h e true p = refl
lower_small a b h e false p =
    let same : a ≡ lower b = eqb-true a (lower b) e in
    let other = big_lower b a p h in
    let c : nat_eq (lower b) a ≡ true = eq-eqb (lower b) a (sym same) in
    let clash : true ≡ false = sym c ∙ other in absurd cc

word_ahead : (w : List ℕ) (before : ℕ) (bs : List ℕ) (k n : ℕ) → n ≡ length w + k → all_small w ≡ true
    → starts_by lower w bs ≡ true → small before ≡ true
    → ((p : ℕ) → small p ≡ true → cuts p (drop (length w) bs) k ≡ true) → cuts before bs n ≡ true
word_ahead [] before bs k n e all s h f = let size : n ≡ k = omega arith in rw size (f before h)
word_ahead (a ∷ w) before [] k n e all s h f = absurd cc
word_ahead (a ∷ w) before (b ∷ bs) k n e all s h f = cuts_next before b bs (length w + k) n (omega arith)
    (word_ahead w b bs k (length w + k) refl (second (small a) (all_small w) all)
    (and_second (nat_eq a (lower b)) (starts_by lower w bs) s)
    (lower_small a b (first (small a) (all_small w) all) (and_first (nat_eq a (lower b)) (starts_by lower w bs) s)
    (small b) refl) f)

row_cuts : (label w : List ℕ) (tail : Tail) (before : ℕ) (bs : List ℕ) (n : ℕ) → all_small w ≡ true
    → small before ≡ true → behind lower w (tail_len label tail) bs ≡ Some n → cuts before bs n ≡ true
row_cuts label w tail before bs n all h e =
    let so = if_so (starts_by lower w bs) (add_to (length w) (tail_len label tail (drop (length w) bs))) n e in
    let parts = add_parts (length w) (tail_len label tail (drop (length w) bs)) n so.1 in
    word_ahead w before bs parts.0 n parts.2 all so.0 h (λ p q. tail_cuts label tail p (drop (length w) bs) parts.0 q parts.1)

abbrev some_pair : Kind × ℕ → Option (Kind × ℕ)
some_pair x = Some x

pair_same : (x y : Kind × ℕ) → some_pair x ≡ some_pair y → x ≡ y
pair_same x y e = cc

longer_by : (kind : Kind) (n : ℕ) (x y : Kind × ℕ) (before : ℕ) (bs : List ℕ) → cuts before bs n ≡ true
    → cuts before bs x.1 ≡ true → (t : Bool) → cond t (some_pair x) (some_pair (kind, n)) ≡ some_pair y
    → cuts before bs y.1 ≡ true
longer_by kind n x y before bs p q true e = subst (λ (z : Kind × ℕ). cuts before bs z.1 ≡ true) (pair_same x y e) q
longer_by kind n x y before bs p q false e = subst (λ (z : Kind × ℕ). cuts before bs z.1 ≡ true) (pair_same (kind, n) y e) p

longer_cuts : (kind : Kind) (o : Option ℕ) (other : Option (Kind × ℕ)) (y : Kind × ℕ) (before : ℕ) (bs : List ℕ)
    → ((n : ℕ) → o ≡ Some n → cuts before bs n ≡ true)
    → ((x : Kind × ℕ) → other ≡ some_pair x → cuts before bs x.1 ≡ true) → longer kind o other ≡ some_pair y
    → cuts before bs y.1 ≡ true
longer_cuts kind None other y before bs f g e = g y e
longer_cuts kind (Some n) None y before bs f g e = subst (λ (z : Kind × ℕ). cuts before bs z.1 ≡ true) (pair_same (kind, n) y e) (f n refl)
longer_cuts kind (Some n) (Some x) y before bs f g e = longer_by kind n x y before bs (f n refl) (g x refl) (nat_lt n x.1) e

rows_cuts : (label : List ℕ) (rows : List Row) (before : ℕ) (bs : List ℕ) (y : Kind × ℕ) → rows_small rows ≡ true
    → small before ≡ true → scan_by label rows bs ≡ some_pair y → cuts before bs y.1 ≡ true
rows_cuts label [] before bs y all h e = absurd cc
rows_cuts label (rule kind w tail ∷ rows) before bs y all h e =
    longer_cuts kind (behind lower w (tail_len label tail) bs) (scan_by label rows bs) y before bs
    (λ n p. row_cuts label w tail before bs n (first (all_small w) (rows_small rows) all) h p)
    (λ x p. rows_cuts label rows before bs x (second (all_small w) (rows_small rows) all) h p) e

mode_small : (v : Version) (m : Mode) → rows_small (rows_of v m) ≡ true
mode_small v html = refl
mode_small V74 code = refl
mode_small V83 code = refl
mode_small V74 named = refl
mode_small V83 named = refl
mode_small v (quoted Double label fresh) = refl
mode_small v (quoted Back label fresh) = refl
mode_small v (quoted Here label true) = refl
mode_small v (quoted Here label false) = refl
mode_small v offset = refl
mode_small V74 property = refl
mode_small V83 property = refl

longest_by : (v : Version) (m : Mode) (bs : List ℕ) (kind : Kind) (n : ℕ) (r : Option (Kind × ℕ)) → scan v m bs ≡ r → IsLongest v m bs kind n → cuts 0 bs n ≡ true
longest_by v m bs kind n None e h = clash h.is (scanned_none v m bs None e n h.within)
longest_by v m bs kind n (Some x) e h =
    let found = scanned_longest v m bs (Some x) e in
    subst (λ (k : ℕ). cuts 0 bs k ≡ true) (same_length v m bs x.0 kind x.1 n found h) (rows_cuts (label_in m) (rows_of v m) 0 bs x (mode_small v m) refl e)

-- ---- UTF-8

cuts_at : (before : ℕ) (bs : List ℕ) (m : ℕ) → m < length bs → cuts before bs (suc m) ≡ true → (get_or bs m 0 < 128) ⊎ ((suc m < length bs → get_or bs (suc m) 0 < 128))
cuts_at before [] m lt e = absurd (omega arith)
cuts_at before (b ∷ bs) (suc m) lt e = elim (cuts_at b bs m (omega arith) e) [ inl here ↦ inl here | inr next ↦ inr (λ more. next (omega arith)) ]
cuts_at before (b ∷ bs) zero lt e = by_front bs (small b) refl e
  where
    by_front : (bs : List ℕ) (t : Bool) → small b ≡ t → (t || small_front bs) ≡ true → (b < 128) ⊎ (1 < length (b ∷ bs) → get_or (b ∷ bs) 1 0 < 128)
    by_front bs true p q = inl (ltb-true b 128 p)
    by_front [] false p q = inr (λ lt. absurd (omega arith))
    by_front (c ∷ cs) false p q = inr (λ lt. ltb-true c 128 q)

boundary : (bs : List ℕ) (m : ℕ) → IsUtf8 bs → suc m ≤ length bs → cuts 0 bs (suc m) ≡ true → IsCharBoundary bs (suc m)
boundary bs m u le e = elim (cuts_at 0 bs m (omega arith) e) [
  | inl before ↦ let next : m + 1 ≡ suc m = omega arith in subst (λ (i : ℕ). IsCharBoundary bs i) next (IsCharBoundary-after_ascii bs m u (omega arith) before)
  | inr after ↦ elim (cases_lt (suc m) (length bs)) [
    | inl lt ↦ IsCharBoundary-before_ascii bs (suc m) lt (after lt)
    | inr ge ↦ let end : length bs ≡ suc m = omega arith in subst (λ (i : ℕ). IsCharBoundary bs i) end (IsCharBoundary-end bs)
  ]
]

token_boundary : (v : Version) (m : Mode) (bs : List ℕ) (kind : Kind) (n : ℕ) → IsUtf8 bs → IsLongest v m bs kind n → 0 < n → cuts 0 bs n ≡ true → IsCharBoundary bs n
token_boundary v m bs kind zero u h some e = absurd (omega arith)
token_boundary v m bs kind (suc n) u h some e = boundary bs n u h.within e

pub token_utf8 : (v : Version) (m : Mode) (bs : List ℕ) (kind : Kind) (n : ℕ) → IsUtf8 bs → IsLongest v m bs kind n → IsUtf8 (take n bs) × IsUtf8 (drop n bs)
token_utf8 v m bs kind n u h =
    let place = token_boundary v m bs kind n u h (longest_some v m bs kind n h) (longest_by v m bs kind n (scan v m bs) refl h) in
    (IsUtf8-take bs n u place, IsUtf8-drop bs n u place)
