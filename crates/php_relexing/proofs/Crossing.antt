-- No near token of 7.4 goes over a break.
use Rattle.std.proofs.Common.{◌≡◌, ℕ, Bool, true, false, not, nat_eq, ◌&&◌, ◌||◌, List, [], ◌∷◌, ◌++◌, ◌⊎◌, inl, inr, None, refl, arith}
use Rattle.std.proofs.lemmas.Bool.{and_parts, not-true}
use Rattle.std.proofs.lemmas.Bool.Decides.{nat_tests}
use Rattle.php_tree.specs.declared.version.Version.TheVariants.{V74}
use Rattle.php_spellings.specs.declared.table.Kind.{Kind}
use Rattle.php_spellings.specs.declared.table.State.{State}
use Rattle.php_spellings.specs.declared.table.State.TheVariants.{First, Plain, Escaped}
use Rattle.php_spellings.specs.declared.table.Run.TheVariants.{Spaces, Labels, Line, HashLine, Html, Body}
use Rattle.php_spellings.specs.declared.table.Tail.{Tail}
use Rattle.php_spellings.specs.declared.table.Tail.TheVariants.{When, AnyRun, SomeOf, UpTo, Shaped, AnyWord, BracedName, EndLine, NowdocRest}
use Rattle.php_spellings.specs.Bytes.{is_empty, begins_by, is_space, is_label_byte, is_letter, lower}
use Rattle.php_lexer.specs.Heredocs.{led}
use Rattle.php_lexer.specs.Tails.{goes}
use Rattle.php_lexer.specs.Rules.{Row, rule, is_tail, kind_by}
use Rattle.php_lexer.specs.RulesCode.{code_rows}
use Rattle.php_relexing.specs.Tiles.{is_far, is_near}
use Rattle.php_relexing.specs.Alike.{breaks, is_break, is_tight}
use Rattle.php_relexing.proofs.Bools.{and_false}
use Rattle.php_relexing.proofs.Listed.{every_is}
use Rattle.php_relexing.proofs.Near.{GoesOn, far_lower, has, is_lettered, row_lettered, some_cross, or_left, or_right}
use Rattle.php_relexing.proofs.Numbers.{is_number, number_cross}

-- ---- which rows go over no break

-- nothing behind the word goes over a break
abbrev stops_tail : Tail → Bool
stops_tail (SomeOf Spaces s) = false
stops_tail (SomeOf Labels s) = true
stops_tail (SomeOf Line s) = false
stops_tail (SomeOf HashLine s) = false
stops_tail (SomeOf Html s) = false
stops_tail (SomeOf (Body mark) s) = false
stops_tail (When f) = true
stops_tail (Shaped sh s) = is_number sh
stops_tail AnyWord = true
stops_tail (AnyRun r) = false
stops_tail (UpTo u) = false
stops_tail BracedName = false
stops_tail EndLine = false
stops_tail NowdocRest = false

-- white space
abbrev is_blank_tail : Tail → Bool
is_blank_tail (SomeOf Spaces s) = true
is_blank_tail _ = false

-- whether the word begins with `?>`
abbrev is_closing : List ℕ → Bool
is_closing [] = false
is_closing (x ∷ w) = nat_eq x 63 && begins_by 62 w

abbrev stops_row : ℕ → Row → Bool
stops_row c (rule kind [] tail) = is_blank_tail tail || stops_tail tail
stops_row c (rule kind (x ∷ w) tail) = is_far x || (is_lettered (x ∷ w) || (is_closing (x ∷ w) || not (has c w) && stops_tail tail))

abbrev stops_rows : List Row → ℕ → Bool
stops_rows [] c = true
stops_rows (row ∷ rows) c = stops_row c row && stops_rows rows c

code_stops : (c : ℕ) → is_break c ≡ true → stops_rows (code_rows V74) c ≡ true
code_stops c h = every_is (stops_rows (code_rows V74)) breaks refl c h

-- ---- breaks

no_label_byte : (c : ℕ) → is_break c ≡ true → is_label_byte c ≡ false
no_label_byte c h = not-true (is_label_byte c) (every_is (λ x. not (is_label_byte x)) breaks refl c h)

no_letter : (c : ℕ) → is_break c ≡ true → is_letter c ≡ false
no_letter c h = not-true (is_letter c) (every_is (λ x. not (is_letter x)) breaks refl c h)

lower_break : (x c : ℕ) → is_letter c ≡ false → nat_eq x c ≡ false → nat_eq x (lower c) ≡ false
lower_break x c e h = grind (arith, nat_tests)

-- ---- texts with a break in them

label_goes : (c : ℕ) (label : List ℕ) → is_break c ≡ true → (s : State) (bs : List ℕ) → goes Labels label s c bs ≡ false
label_goes c label e First bs = no_letter c e
label_goes c label e Plain bs = no_label_byte c e
label_goes c label e Escaped bs = no_label_byte c e

filled : (a more : List ℕ) (c : ℕ) → is_empty (a ++ c ∷ more) ≡ false
filled [] more c = refl
filled (b ∷ a) more c = refl

tail_cross : (c : ℕ) (tail : Tail) → is_break c ≡ true → stops_tail tail ≡ true → (a more rest : List ℕ) → is_tail [] tail (a ++ c ∷ more) rest ≡ false
tail_cross c (SomeOf Spaces s) e h a more rest = absurd cc
tail_cross c (SomeOf Labels s) e h a more rest = some_cross Labels [] c (label_goes c [] e) s a more rest
tail_cross c (SomeOf Line s) e h a more rest = absurd cc
tail_cross c (SomeOf HashLine s) e h a more rest = absurd cc
tail_cross c (SomeOf Html s) e h a more rest = absurd cc
tail_cross c (SomeOf (Body mark) s) e h a more rest = absurd cc
tail_cross c (When f) e h a more rest = rw (filled a more c) refl
tail_cross c (Shaped sh s) e h a more rest = number_cross sh s c h e a more
tail_cross c AnyWord e h a more rest = rw (some_cross Labels [] c (label_goes c [] e) First a more rest) refl
tail_cross c (AnyRun r) e h a more rest = absurd cc
tail_cross c (UpTo u) e h a more rest = absurd cc
tail_cross c BracedName e h a more rest = absurd cc
tail_cross c EndLine e h a more rest = absurd cc
tail_cross c NowdocRest e h a more rest = absurd cc

led_cross : (c : ℕ) (tail : Tail) → is_break c ≡ true → stops_tail tail ≡ true → (w : List ℕ) → has c w ≡ false
    → (a more rest : List ℕ) → led lower w (is_tail [] tail) (a ++ c ∷ more) rest ≡ false
led_cross c tail e h [] n a more rest = tail_cross c tail e h a more rest
led_cross c tail e h (x ∷ w) n [] more rest = rw (lower_break x c (no_letter c e) (or_left (nat_eq x c) (has c w) n)) refl
led_cross c tail e h (x ∷ w) n (b ∷ a) more rest = rw (led_cross c tail e h w (or_right (nat_eq x c) (has c w) n) a more rest) (and_false (nat_eq x (lower b)))

-- ---- rows

-- what begins so is no `?>`
abbrev pub IsOpen : ℕ → List ℕ → Type 0
IsOpen b bs = (nat_eq b 63 ≡ false) ⊎ (begins_by 62 bs ≡ false)

closing_other : (x : ℕ) (w : List ℕ) (b : ℕ) (t : List ℕ) (tail : Tail) (rest : List ℕ) → is_closing (x ∷ w) ≡ true
    → nat_eq b 63 ≡ false → led lower (x ∷ w) (is_tail [] tail) (b ∷ t) rest ≡ false
closing_other x w b t tail rest h e =
    let is = and_parts (nat_eq x 63) (begins_by 62 w) h in
    let first = is.0 in
    let other : nat_eq x (lower b) ≡ false = grind (arith, nat_tests) in
    rw other refl

closing_second : (x : ℕ) (w : List ℕ) (b : ℕ) (t : List ℕ) (tail : Tail) (rest : List ℕ) → is_closing (x ∷ w) ≡ true
    → begins_by 62 t ≡ false → led lower (x ∷ w) (is_tail [] tail) (b ∷ t) rest ≡ false
closing_second x [] b t tail rest h e = absurd (let is = (and_parts (nat_eq x 63) false h).1 in cc)
closing_second x (y ∷ w) b [] tail rest h e = and_false (nat_eq x (lower b))
closing_second x (y ∷ w) b (z ∷ t) tail rest h e =
    let is = (and_parts (nat_eq x 63) (nat_eq y 62) h).1 in
    let other : nat_eq y (lower z) ≡ false = grind (arith, nat_tests) in
    rw other (and_false (nat_eq x (lower b)))

row_closing : (x : ℕ) (w : List ℕ) (b : ℕ) (t : List ℕ) (tail : Tail) (rest : List ℕ) → is_closing (x ∷ w) ≡ true
    → IsOpen b t → led lower (x ∷ w) (is_tail [] tail) (b ∷ t) rest ≡ false
row_closing x w b t tail rest h (inl e) = closing_other x w b t tail rest h e
row_closing x w b t tail rest h (inr e) = closing_second x w b t tail rest h e

first_cross : (c : ℕ) (tail : Tail) → is_break c ≡ true → (is_blank_tail tail || stops_tail tail) ≡ true
    → (b : ℕ) (a more rest : List ℕ) → is_space b ≡ false → is_tail [] tail (b ∷ a ++ c ∷ more) rest ≡ false
first_cross c (SomeOf Spaces s) e h b a more rest apart = rw apart refl
first_cross c (SomeOf Labels s) e h b a more rest apart = tail_cross c (SomeOf Labels s) e h (b ∷ a) more rest
first_cross c (SomeOf Line s) e h b a more rest apart = absurd cc
first_cross c (SomeOf HashLine s) e h b a more rest apart = absurd cc
first_cross c (SomeOf Html s) e h b a more rest apart = absurd cc
first_cross c (SomeOf (Body mark) s) e h b a more rest apart = absurd cc
first_cross c (When f) e h b a more rest apart = refl
first_cross c (Shaped sh s) e h b a more rest apart = tail_cross c (Shaped sh s) e h (b ∷ a) more rest
first_cross c AnyWord e h b a more rest apart = tail_cross c AnyWord e h (b ∷ a) more rest
first_cross c (AnyRun r) e h b a more rest apart = absurd cc
first_cross c (UpTo u) e h b a more rest apart = absurd cc
first_cross c BracedName e h b a more rest apart = absurd cc
first_cross c EndLine e h b a more rest apart = absurd cc
first_cross c NowdocRest e h b a more rest apart = absurd cc

-- A token that is near, no white space and no `?>`.
pub record IsTight (b : ℕ) (bs : List ℕ) : Type 0 where
  pub near : is_near b bs ≡ true
  pub open_ : IsOpen b bs
  pub solid : is_space b ≡ false

open_by : (s q m : Bool) → (s || q && m) ≡ false → ((q ≡ false) ⊎ (m ≡ false)) × (s ≡ false)
open_by true q m e = absurd cc
open_by false true true e = absurd cc
open_by false true false e = (inr refl, refl)
open_by false false m e = (inl refl, refl)

pub tight_is : (b : ℕ) (bs : List ℕ) → is_tight b bs ≡ true → IsTight b bs
tight_is b bs h =
    let (near, other) = and_parts (is_near b bs) (not (is_space b || nat_eq b 63 && begins_by 62 bs)) h in
    let (off, solid) = open_by (is_space b) (nat_eq b 63) (begins_by 62 bs) (not-true (is_space b || nat_eq b 63 && begins_by 62 bs) other) in
    record { near = near; open_ = off; solid = solid }

-- the first bytes of a text, which are all that is asked of it
pub record Starts (b : ℕ) (bs : List ℕ) (rest : List ℕ) : Type 0 where
  pub far : is_far b ≡ false
  pub solid : is_space b ≡ false
  pub off : IsOpen b bs
  pub goes : GoesOn b bs rest

row_cross : (c : ℕ) (kind : Kind) (w : List ℕ) (tail : Tail) → is_break c ≡ true
    → stops_row c (rule kind w tail) ≡ true → (b : ℕ) (a more rest : List ℕ) → Starts b (a ++ c ∷ more) rest
    → led lower w (is_tail [] tail) (b ∷ a ++ c ∷ more) rest ≡ false
row_cross c kind [] tail e h b a more rest is = first_cross c tail e h b a more rest is.solid
row_cross c kind (x ∷ w) tail e h b a more rest is = by_far (is_far x) refl (is_lettered (x ∷ w)) refl (is_closing (x ∷ w)) refl h
  where
    by_far : (t : Bool) → is_far x ≡ t → (l : Bool) → is_lettered (x ∷ w) ≡ l → (o : Bool) → is_closing (x ∷ w) ≡ o
        → (t || (l || (o || not (has c w) && stops_tail tail))) ≡ true
        → led lower (x ∷ w) (is_tail [] tail) (b ∷ a ++ c ∷ more) rest ≡ false
    by_far true p l q o r k = rw (far_lower x b p is.far) refl
    by_far false p true q o r k = row_lettered [] tail x w b (a ++ c ∷ more) rest q is.goes
    by_far false p false q true r k = row_closing x w b (a ++ c ∷ more) tail rest r is.off
    by_far false p false q false r k =
        let (none, stops) = and_parts (not (has c w)) (stops_tail tail) k in
        rw (led_cross c tail e stops w (not-true (has c w) none) a more rest) (and_false (nat_eq x (lower b)))

rows_cross : (c : ℕ) (rows : List Row) → is_break c ≡ true → stops_rows rows c ≡ true → (b : ℕ) (a more rest : List ℕ)
    → Starts b (a ++ c ∷ more) rest → kind_by [] rows (b ∷ a ++ c ∷ more) rest ≡ None
rows_cross c [] e h b a more rest is = refl
rows_cross c (rule kind w tail ∷ rows) e h b a more rest is =
    let (first, others) = and_parts (stops_row c (rule kind w tail)) (stops_rows rows c) h in
    rw (row_cross c kind w tail e first b a more rest is) (rows_cross c rows e others b a more rest is)

-- No tight token of 7.4 has a break behind its first byte.
pub code_cross : (c : ℕ) → is_break c ≡ true → (b : ℕ) (a more rest : List ℕ) → Starts b (a ++ c ∷ more) rest → kind_by [] (code_rows V74) (b ∷ a ++ c ∷ more) rest ≡ None
code_cross c e b a more rest is = rows_cross c (code_rows V74) e (code_stops c e) b a more rest is

pub same_start : (b : ℕ) (a : List ℕ) (c : ℕ) (u w : List ℕ) → IsOpen b (a ++ c ∷ u) → IsOpen b (a ++ c ∷ w)
same_start b [] c u w h = h
same_start b (x ∷ a) c u w h = h
