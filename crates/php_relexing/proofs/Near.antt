-- No token that looks near goes over a bracket, or asks what follows one.
use Rattle.std.proofs.Common.{◌≡◌, ℕ, Bool, true, false, not, nat_eq, ◌&&◌, ◌||◌, List, [], ◌∷◌, ◌++◌, ◌⊎◌, inl, inr, None, refl, sym, ap, ◌∙◌, arith}
use Rattle.std.proofs.lemmas.Bool.Decides.{nat_tests}
use Rattle.std.proofs.lemmas.Bool.{not-true}
use Rattle.php_spellings.specs.declared.table.Kind.{Kind}
use Rattle.php_spellings.specs.declared.table.State.{State}
use Rattle.php_spellings.specs.declared.table.State.TheVariants.{First, Plain, Escaped}
use Rattle.php_spellings.specs.declared.table.Run.{Run}
use Rattle.php_spellings.specs.declared.table.Run.TheVariants.{Spaces, Labels, Line, HashLine, Html, Body}
use Rattle.php_spellings.specs.declared.table.Follow.TheVariants.{Anything, Nothing, NoStar, Dollar, NoNowdocAfterOne, NoNowdocAfterTwo}
use Rattle.php_spellings.specs.declared.table.Tail.{Tail}
use Rattle.php_spellings.specs.declared.table.Tail.TheVariants.{When, AnyRun, SomeOf, UpTo, Shaped, AnyWord, BracedName, EndLine, NowdocRest}
use Rattle.php_spellings.specs.Bytes.{is_empty, lower, begins}
use Rattle.php_lexer.specs.Heredocs.{led}
use Rattle.php_lexer.specs.Tails.{goes, moved, is_run, some_run}
use Rattle.php_lexer.specs.Rules.{Row, rule, is_tail, is_b, begins_text, is_any_word, kind_by}
use Rattle.php_relexing.specs.Tiles.{is_bracket, is_far, begins_words, leaves_words, is_near}
use Rattle.php_relexing.proofs.NoCrossing.{bracket_space, bracket_letter, bracket_label, shape_cross, and_false}

-- ---- which rows need no look

abbrev pub has : ℕ → List ℕ → Bool
has c [] = false
has c (b ∷ bs) = nat_eq b c || has c bs

-- what stands behind the word neither goes over a bracket nor asks what follows
abbrev pub stops_tail : Tail → Bool
stops_tail (SomeOf Spaces s) = true
stops_tail (SomeOf Labels s) = true
stops_tail (SomeOf Line s) = false
stops_tail (SomeOf HashLine s) = false
stops_tail (SomeOf Html s) = false
stops_tail (SomeOf (Body mark) s) = false
stops_tail (When Anything) = true
stops_tail (When Nothing) = false
stops_tail (When NoStar) = false
stops_tail (When Dollar) = false
stops_tail (When NoNowdocAfterOne) = false
stops_tail (When NoNowdocAfterTwo) = false
stops_tail (Shaped sh s) = true
stops_tail AnyWord = true
stops_tail (AnyRun r) = false
stops_tail (UpTo u) = false
stops_tail BracedName = false
stops_tail EndLine = false
stops_tail NowdocRest = false

-- a word of the tables that begins with a letter, and its second byte
abbrev pub is_lettered : List ℕ → Bool
is_lettered [] = false
is_lettered (x ∷ []) = false
is_lettered (x ∷ y ∷ w) = nat_eq x 98 && (nat_eq y 39 || nat_eq y 34 || nat_eq y 60) || nat_eq x 121 && nat_eq y 105

abbrev pub is_word_tail : Tail → Bool
is_word_tail AnyWord = true
is_word_tail _ = false

abbrev pub stops_row : ℕ → Row → Bool
stops_row c (rule kind [] tail) = stops_tail tail
stops_row c (rule kind (x ∷ w) tail) = is_far x || (is_lettered (x ∷ w) || not (has c w) && stops_tail tail && not (is_word_tail tail))

abbrev pub stops_rows : ℕ → List Row → Bool
stops_rows c [] = true
stops_rows c (row ∷ rows) = stops_row c row && stops_rows c rows

pub fst : (x y : Bool) → (x && y) ≡ true → x ≡ true
fst true y e = refl
fst false y e = absurd cc

snd : (x y : Bool) → (x && y) ≡ true → y ≡ true
snd true y e = e
snd false y e = absurd cc

pub or_left : (x y : Bool) → (x || y) ≡ false → x ≡ false
or_left true y e = absurd cc
or_left false y e = refl

pub or_right : (x y : Bool) → (x || y) ≡ false → y ≡ false
or_right true y e = absurd cc
or_right false y e = e

clash : {A : Type 0} (x : Bool) → x ≡ true → x ≡ false → A
clash x p q = let e : true ≡ false = sym p ∙ q in absurd cc

-- ---- texts that go over a bracket

run_cross : (r : Run) (label : List ℕ) (c : ℕ) → ((s : State) (bs : List ℕ) → goes r label s c bs ≡ false)
    → (s : State) (a more rest : List ℕ) → is_run r label s (a ++ c ∷ more) rest ≡ false
run_cross r label c h s [] more rest = rw (h s (more ++ rest)) refl
run_cross r label c h s (b ∷ a) more rest = rw (run_cross r label c h (moved r s b) a more rest) (and_false (goes r label s b ((a ++ c ∷ more) ++ rest)))

label_goes : (c : ℕ) (label : List ℕ) → is_bracket c ≡ true → (s : State) (bs : List ℕ) → goes Labels label s c bs ≡ false
label_goes c label e First bs = bracket_letter c e
label_goes c label e Plain bs = bracket_label c e
label_goes c label e Escaped bs = bracket_label c e

filled : (a more : List ℕ) (c : ℕ) → is_empty (a ++ c ∷ more) ≡ false
filled [] more c = refl
filled (b ∷ a) more c = refl

pub some_cross : (r : Run) (label : List ℕ) (c : ℕ) → ((s : State) (bs : List ℕ) → goes r label s c bs ≡ false)
    → (s : State) (a more rest : List ℕ) → some_run r label s (a ++ c ∷ more) rest ≡ false
some_cross r label c h s a more rest = rw (run_cross r label c h s a more rest) (and_false (not (is_empty (a ++ c ∷ more))))

pub tail_cross : (label : List ℕ) (c : ℕ) (tail : Tail) → is_bracket c ≡ true → stops_tail tail ≡ true → (a more rest : List ℕ) → is_tail label tail (a ++ c ∷ more) rest ≡ false
tail_cross label c (SomeOf Spaces s) e h a more rest = some_cross Spaces label c (λ t bs. bracket_space c e) s a more rest
tail_cross label c (SomeOf Labels s) e h a more rest = some_cross Labels label c (label_goes c label e) s a more rest
tail_cross label c (SomeOf Line s) e h a more rest = absurd cc
tail_cross label c (SomeOf HashLine s) e h a more rest = absurd cc
tail_cross label c (SomeOf Html s) e h a more rest = absurd cc
tail_cross label c (SomeOf (Body mark) s) e h a more rest = absurd cc
tail_cross label c (When Anything) e h a more rest = rw (filled a more c) refl
tail_cross label c (When Nothing) e h a more rest = absurd cc
tail_cross label c (When NoStar) e h a more rest = absurd cc
tail_cross label c (When Dollar) e h a more rest = absurd cc
tail_cross label c (When NoNowdocAfterOne) e h a more rest = absurd cc
tail_cross label c (When NoNowdocAfterTwo) e h a more rest = absurd cc
tail_cross label c (Shaped sh s) e h a more rest = shape_cross sh s c e a more
tail_cross label c AnyWord e h a more rest = rw (some_cross Labels [] c (label_goes c [] e) First a more rest) refl
tail_cross label c (AnyRun r) e h a more rest = absurd cc
tail_cross label c (UpTo u) e h a more rest = absurd cc
tail_cross label c BracedName e h a more rest = absurd cc
tail_cross label c EndLine e h a more rest = absurd cc
tail_cross label c NowdocRest e h a more rest = absurd cc

bracket_lower : (x c : ℕ) → is_bracket c ≡ true → nat_eq x c ≡ false → nat_eq x (lower c) ≡ false
bracket_lower x c e h = grind (arith, nat_tests)

pub led_cross : (label : List ℕ) (c : ℕ) (tail : Tail) → is_bracket c ≡ true → stops_tail tail ≡ true → (w : List ℕ)
    → has c w ≡ false → (a more rest : List ℕ) → led lower w (is_tail label tail) (a ++ c ∷ more) rest ≡ false
led_cross label c tail e h [] n a more rest = tail_cross label c tail e h a more rest
led_cross label c tail e h (x ∷ w) n [] more rest = rw (bracket_lower x c e (or_left (nat_eq x c) (has c w) n)) refl
led_cross label c tail e h (x ∷ w) n (b ∷ a) more rest = rw (led_cross label c tail e h w (or_right (nat_eq x c) (has c w) n) a more rest) (and_false (nat_eq x (lower b)))

-- ---- rows that begin far, or with a letter

pub far_lower : (x b : ℕ) → is_far x ≡ true → is_far b ≡ false → nat_eq x (lower b) ≡ false
far_lower x b p q = grind (arith, nat_tests)

-- the text goes on behind its first byte with none of the words
abbrev pub GoesOn : ℕ → List ℕ → List ℕ → Type 0
GoesOn b [] rest = (begins_words b ≡ false) ⊎ (begins (leaves_words b) rest ≡ true)
GoesOn b (z ∷ t) rest = (begins_words b ≡ false) ⊎ (leaves_words b z ≡ true)

lettered_no : (label : List ℕ) (tail : Tail) (x y : ℕ) (w : List ℕ) (b z : ℕ) (t rest : List ℕ)
    → is_lettered (x ∷ y ∷ w) ≡ true → (begins_words b ≡ false) ⊎ (leaves_words b z ≡ true)
    → (nat_eq x (lower b) && (nat_eq y (lower z) && led lower w (is_tail label tail) t rest)) ≡ false
lettered_no label tail x y w b z t rest h (inl no_words) = let e : nat_eq x (lower b) ≡ false = grind (arith, nat_tests) in rw e refl
lettered_no label tail x y w b z t rest h (inr leaves) = both (nat_eq x (lower b)) refl
  where
    both : (u : Bool) → nat_eq x (lower b) ≡ u → (u && (nat_eq y (lower z) && led lower w (is_tail label tail) t rest)) ≡ false
    both false p = refl
    both true p = let e : nat_eq y (lower z) ≡ false = grind (arith, nat_tests) in rw e refl

pub row_lettered : (label : List ℕ) (tail : Tail) (x : ℕ) (w : List ℕ) (b : ℕ) (t rest : List ℕ)
    → is_lettered (x ∷ w) ≡ true → GoesOn b t rest → led lower (x ∷ w) (is_tail label tail) (b ∷ t) rest ≡ false
row_lettered label tail x [] b t rest h g = absurd cc
row_lettered label tail x (y ∷ w) b [] rest h g = and_false (nat_eq x (lower b))
row_lettered label tail x (y ∷ w) b (z ∷ t) rest h g = lettered_no label tail x y w b z t rest h g

-- ---- rows over a bracket

pub spread : (b : ℕ) (a : List ℕ) (c : ℕ) (more rest : List ℕ) → is_near b a ≡ true → GoesOn b (a ++ c ∷ more) rest
spread b [] c more rest near = inl (by_words (begins_words b) refl (snd (not (is_far b)) (not (begins_words b) || false) near))
  where
    by_words : (t : Bool) → begins_words b ≡ t → (not t || false) ≡ true → t ≡ false
    by_words true p q = absurd cc
    by_words false p q = refl
spread b (z ∷ a) c more rest near = by_words (begins_words b) refl (snd (not (is_far b)) (not (begins_words b) || leaves_words b z) near)
  where
    by_words : (t : Bool) → begins_words b ≡ t → (not t || leaves_words b z) ≡ true → (begins_words b ≡ false) ⊎ (leaves_words b z ≡ true)
    by_words true p q = inr q
    by_words false p q = inl p

row_cross : (label : List ℕ) (c : ℕ) (kind : Kind) (w : List ℕ) (tail : Tail) → is_bracket c ≡ true
    → stops_row c (rule kind w tail) ≡ true → (b : ℕ) (a : List ℕ) → is_near b a ≡ true → (more rest : List ℕ)
    → led lower w (is_tail label tail) (b ∷ a ++ c ∷ more) rest ≡ false
row_cross label c kind [] tail e h b a near more rest = tail_cross label c tail e h (b ∷ a) more rest
row_cross label c kind (x ∷ w) tail e h b a near more rest = by_far (is_far x) refl (is_lettered (x ∷ w)) refl h
  where
    by_far : (t : Bool) → is_far x ≡ t → (l : Bool) → is_lettered (x ∷ w) ≡ l
        → (t || (l || not (has c w) && stops_tail tail && not (is_word_tail tail))) ≡ true
        → led lower (x ∷ w) (is_tail label tail) (b ∷ a ++ c ∷ more) rest ≡ false
    by_far true p l q k = rw (far_lower x b p (not-true (is_far b) (fst (not (is_far b)) (not (begins_words b) || begins (leaves_words b) a) near))) refl
    by_far false p true q k = row_lettered label tail x w b (a ++ c ∷ more) rest q (spread b a c more rest near)
    by_far false p false q k = rw (led_cross label c tail e (snd (not (has c w)) (stops_tail tail)
        (fst (not (has c w) && stops_tail tail) (not (is_word_tail tail)) k)) w
        (not-true (has c w) (fst (not (has c w)) (stops_tail tail)
        (fst (not (has c w) && stops_tail tail) (not (is_word_tail tail)) k))) a more rest)
        (and_false (nat_eq x (lower b)))

-- No token that looks near has a bracket behind its first byte.
pub rows_cross : (label : List ℕ) (c : ℕ) (rows : List Row) → is_bracket c ≡ true → stops_rows c rows ≡ true
    → (b : ℕ) (a : List ℕ) → is_near b a ≡ true → (more rest : List ℕ)
    → kind_by label rows (b ∷ a ++ c ∷ more) rest ≡ None
rows_cross label c [] e h b a near more rest = refl
rows_cross label c (rule kind w tail ∷ rows) e h b a near more rest =
    rw (row_cross label c kind w tail e (fst (stops_row c (rule kind w tail)) (stops_rows c rows) h) b a near more
    rest) (rows_cross label c rows e (snd (stops_row c (rule kind w tail)) (stops_rows c rows) h) b a near more rest)

-- ---- what follows is not asked

run_blind : (r : Run) (label : List ℕ) → ((s : State) (b : ℕ) (u v : List ℕ)
    → goes r label s b u ≡ goes r label s b v) → (s : State) (text u v : List ℕ)
    → is_run r label s text u ≡ is_run r label s text v
run_blind r label h s [] u v = refl
run_blind r label h s (b ∷ bs) u v = rw (h s b (bs ++ u) (bs ++ v), run_blind r label h (moved r s b) bs u v) refl

labels_blind : (label : List ℕ) (s : State) (b : ℕ) (u v : List ℕ) → goes Labels label s b u ≡ goes Labels label s b v
labels_blind label First b u v = refl
labels_blind label Plain b u v = refl
labels_blind label Escaped b u v = refl

some_blind : (label : List ℕ) (s : State) (text u v : List ℕ) → some_run Labels label s text u ≡ some_run Labels label s text v
some_blind label s text u v = ap (λ (x : Bool). not (is_empty text) && x) (run_blind Labels label (labels_blind label) s text u v)

no_text : (b : ℕ) (rest : List ℕ) → nat_eq (lower b) 98 ≡ true → begins (leaves_words b) rest ≡ true → begins_text rest ≡ false
no_text b [] e h = refl
no_text b (z ∷ rest) e h =
    let leaves : (not (nat_eq 39 (lower z)) && (not (nat_eq 34 (lower z)) && not (nat_eq 60 (lower z)))) ≡ true = rw e at h in
    let quote : nat_eq z 39 ≡ false = grind (arith, nat_tests) in
    let mark : nat_eq 60 (lower z) ≡ false = grind (arith, nat_tests) in
    rw (quote, mark) refl

word_owned : (b : ℕ) (t rest : List ℕ) → GoesOn b t rest → (is_b (b ∷ t) && begins_text rest) ≡ false
word_owned b (z ∷ t) rest g = rw (and_false (nat_eq (lower b) 98)) refl
word_owned b [] rest (inl no_words) = let e : nat_eq (lower b) 98 ≡ false = or_left (nat_eq (lower b) 98) (nat_eq (lower b) 121) no_words in rw e refl
word_owned b [] rest (inr leaves) = by_b (nat_eq (lower b) 98) refl
  where
    by_b : (x : Bool) → nat_eq (lower b) 98 ≡ x → ((x && true) && begins_text rest) ≡ false
    by_b false p = refl
    by_b true p = no_text b rest p leaves

word_blind : (b : ℕ) (t u v : List ℕ) → GoesOn b t u → GoesOn b t v → is_any_word (b ∷ t) u ≡ is_any_word (b ∷ t) v
word_blind b t u v g k = rw (some_blind [] First (b ∷ t) u v, word_owned b t u g, word_owned b t v k) refl

pub tail_blind : (label : List ℕ) (tail : Tail) → stops_tail tail ≡ true → is_word_tail tail ≡ false → (text u v : List ℕ) → is_tail label tail text u ≡ is_tail label tail text v
tail_blind label (SomeOf Spaces s) h k text u v = ap (λ (x : Bool). not (is_empty text) && x) (run_blind Spaces label (λ t b p q. refl) s text u v)
tail_blind label (SomeOf Labels s) h k text u v = some_blind label s text u v
tail_blind label (SomeOf Line s) h k text u v = absurd cc
tail_blind label (SomeOf HashLine s) h k text u v = absurd cc
tail_blind label (SomeOf Html s) h k text u v = absurd cc
tail_blind label (SomeOf (Body mark) s) h k text u v = absurd cc
tail_blind label (When Anything) h k text u v = refl
tail_blind label (When Nothing) h k text u v = absurd cc
tail_blind label (When NoStar) h k text u v = absurd cc
tail_blind label (When Dollar) h k text u v = absurd cc
tail_blind label (When NoNowdocAfterOne) h k text u v = absurd cc
tail_blind label (When NoNowdocAfterTwo) h k text u v = absurd cc
tail_blind label (Shaped sh s) h k text u v = refl
tail_blind label AnyWord h k text u v = absurd cc
tail_blind label (AnyRun r) h k text u v = absurd cc
tail_blind label (UpTo w) h k text u v = absurd cc
tail_blind label BracedName h k text u v = absurd cc
tail_blind label EndLine h k text u v = absurd cc
tail_blind label NowdocRest h k text u v = absurd cc

pub led_blind : (label : List ℕ) (tail : Tail) → stops_tail tail ≡ true → is_word_tail tail ≡ false
    → (w text u v : List ℕ) → led lower w (is_tail label tail) text u ≡ led lower w (is_tail label tail) text v
led_blind label tail h k [] text u v = tail_blind label tail h k text u v
led_blind label tail h k (x ∷ w) [] u v = refl
led_blind label tail h k (x ∷ w) (b ∷ bs) u v = ap (λ (y : Bool). nat_eq x (lower b) && y) (led_blind label tail h k w bs u v)

row_blind : (label : List ℕ) (c : ℕ) (kind : Kind) (w : List ℕ) (tail : Tail) → stops_row c (rule kind w tail) ≡ true
    → (b : ℕ) → is_far b ≡ false → (t u v : List ℕ) → GoesOn b t u → GoesOn b t v
    → led lower w (is_tail label tail) (b ∷ t) u ≡ led lower w (is_tail label tail) (b ∷ t) v
row_blind label c kind [] tail h b q t u v g k = by_word tail h (is_word_tail tail) refl
  where
    by_word : (tail : Tail) → stops_tail tail ≡ true → (x : Bool) → is_word_tail tail ≡ x → is_tail label tail (b ∷ t) u ≡ is_tail label tail (b ∷ t) v
    by_word AnyWord h x p = word_blind b t u v g k
    by_word (SomeOf r s) h x p = tail_blind label (SomeOf r s) h refl (b ∷ t) u v
    by_word (When f) h x p = tail_blind label (When f) h refl (b ∷ t) u v
    by_word (Shaped sh s) h x p = refl
    by_word (AnyRun r) h x p = absurd cc
    by_word (UpTo w) h x p = absurd cc
    by_word BracedName h x p = absurd cc
    by_word EndLine h x p = absurd cc
    by_word NowdocRest h x p = absurd cc
row_blind label c kind (x ∷ w) tail h b q t u v g k = by_far (is_far x) refl (is_lettered (x ∷ w)) refl h
  where
    by_far : (y : Bool) → is_far x ≡ y → (l : Bool) → is_lettered (x ∷ w) ≡ l
        → (y || (l || not (has c w) && stops_tail tail && not (is_word_tail tail))) ≡ true
        → led lower (x ∷ w) (is_tail label tail) (b ∷ t) u ≡ led lower (x ∷ w) (is_tail label tail) (b ∷ t) v
    by_far true p l m n = rw (far_lower x b p q) refl
    by_far false p true m n = row_lettered label tail x w b t u m g ∙ sym (row_lettered label tail x w b t v m k)
    by_far false p false m n =
        led_blind label tail (snd (not (has c w)) (stops_tail tail)
        (fst (not (has c w) && stops_tail tail) (not (is_word_tail tail)) n))
        (not-true (is_word_tail tail) (snd (not (has c w) && stops_tail tail) (not (is_word_tail tail)) n)) (x ∷ w)
        (b ∷ t) u v

-- A text that looks near is a token or none whatever follows it.
pub rows_blind : (label : List ℕ) (c : ℕ) (rows : List Row) → stops_rows c rows ≡ true → (b : ℕ) → is_far b ≡ false
    → (t u v : List ℕ) → GoesOn b t u → GoesOn b t v → kind_by label rows (b ∷ t) u ≡ kind_by label rows (b ∷ t) v
rows_blind label c [] h b q t u v g k = refl
rows_blind label c (rule kind w tail ∷ rows) h b q t u v g k =
    let first = row_blind label c kind w tail (fst (stops_row c (rule kind w tail)) (stops_rows c rows) h) b q t u v g k in
    rw (first, rows_blind label c rows (snd (stops_row c (rule kind w tail)) (stops_rows c rows) h) b q t u v g k) refl
