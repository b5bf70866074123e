-- Where UTF-8 may be cut: behind or before an ASCII byte. No run, text or shape ends within a character.
use Rattle.std.proofs.Common.{◌≡◌, ℕ, zero, suc, ◌+◌, Bool, true, false, cond, ◌&&◌, ◌||◌, nat_eq, nat_lt, nat_le, List, [], ◌∷◌, Option, Some, None, refl, sym, ◌∙◌, arith}
use Rattle.std.proofs.lemmas.Bool.Decides.{nat_tests}
use Rattle.php_spellings.specs.declared.table.State.{State}
use Rattle.php_spellings.specs.declared.table.State.TheVariants.{First, Plain, Escaped}
use Rattle.php_spellings.specs.declared.table.Mark.TheVariants.{Double, Back, Here}
use Rattle.php_spellings.specs.declared.table.Run.{Run}
use Rattle.php_spellings.specs.declared.table.Run.TheVariants.{Spaces, Labels, Line, HashLine, Html, Body}
use Rattle.php_spellings.specs.declared.table.Until.{Until}
use Rattle.php_spellings.specs.declared.table.Until.TheVariants.{Simple, Closed, Block, CastWord, From}
use Rattle.php_spellings.specs.Bytes.{is_line_end, is_space, is_letter, is_label_byte, lower}
use Rattle.php_lexer.specs.Tails.{begins_part, in_piece, in_line, goes, escape, moved, closes, bars, stepped}
use Rattle.php_lexer.specs.Scan.{add_to, run_len, until_len}

abbrev pub small : ℕ → Bool
small b = nat_lt b 128

-- the first byte is ASCII, or there is none
abbrev pub small_front : List ℕ → Bool
small_front [] = true
small_front (b ∷ bs) = small b

-- behind the first n bytes an ASCII byte or the end follows, or an ASCII byte is the last of them; another byte is
-- before them all
abbrev pub cuts : ℕ → List ℕ → ℕ → Bool
cuts before bs zero = small before || small_front bs
cuts before [] (suc n) = true
cuts before (b ∷ bs) (suc n) = cuts b bs n

pub or_true : (b : Bool) → (b || true) ≡ true
or_true true = refl
or_true false = refl

pub cuts_next : (before b : ℕ) (bs : List ℕ) (n k : ℕ) → k ≡ suc n → cuts b bs n ≡ true → cuts before (b ∷ bs) k ≡ true
cuts_next before b bs n k e h = rw e h

pub cuts_here : (before : ℕ) (bs : List ℕ) (n : ℕ) → n ≡ 0 → small before ≡ true → cuts before bs n ≡ true
cuts_here before bs n e h = rw e (rw h refl)

-- ---- bytes that are no ASCII

pub big_eq : (b k : ℕ) → small b ≡ false → small k ≡ true → nat_eq b k ≡ false
big_eq b k h small_k = grind (arith, nat_tests)

big_line_end : (b : ℕ) → small b ≡ false → is_line_end b ≡ false
big_line_end b h = grind (arith, nat_tests)

pub big_letter : (b : ℕ) → small b ≡ false → is_letter b ≡ true
big_letter b h = grind (arith, nat_tests)

pub big_label : (b : ℕ) → small b ≡ false → is_label_byte b ≡ true
big_label b h = rw (big_letter b h) refl

pub big_lower : (b k : ℕ) → small b ≡ false → small k ≡ true → nat_eq (lower b) k ≡ false
big_lower b k h small_k = let e : (nat_le 65 b && nat_le b 90) ≡ false = grind (arith, nat_tests) in rw e (big_eq b k h small_k)

big_part : (b : ℕ) (bs : List ℕ) → small b ≡ false → begins_part b bs ≡ false
big_part b bs h = rw (big_eq b 36 h refl, big_eq b 123 h refl) refl

big_line : (b : ℕ) (bs : List ℕ) → small b ≡ false → in_line b bs ≡ true
big_line b bs h = rw (big_line_end b h, big_eq b 63 h refl) refl

space_small : (b : ℕ) → is_space b ≡ true → small b ≡ true
space_small b h = grind (arith, nat_tests)

line_end_small : (b : ℕ) → is_line_end b ≡ true → small b ≡ true
line_end_small b h = grind (arith, nat_tests)

-- ---- runs

-- what the byte before must be
abbrev RunFits : Run → State → ℕ → Type 0
RunFits Spaces s before = small before ≡ true
RunFits Labels s before = Unit {0}
RunFits Line s before = Unit {0}
RunFits HashLine s before = Unit {0}
RunFits Html s before = Unit {0}
RunFits (Body Double) s before = Unit {0}
RunFits (Body Back) s before = Unit {0}
RunFits (Body Here) First before = small before ≡ true
RunFits (Body Here) Plain before = Unit {0}
RunFits (Body Here) Escaped before = Unit {0}

pub fits_small : (r : Run) (s : State) (before : ℕ) → small before ≡ true → RunFits r s before
fits_small Spaces s before h = h
fits_small Labels s before h = tt
fits_small Line s before h = tt
fits_small HashLine s before h = tt
fits_small Html s before h = tt
fits_small (Body Double) s before h = tt
fits_small (Body Back) s before h = tt
fits_small (Body Here) First before h = h
fits_small (Body Here) Plain before h = tt
fits_small (Body Here) Escaped before h = tt

escape_fits : (s : State) (b : ℕ) → RunFits (Body Here) (escape s b) b
escape_fits Escaped b = tt
escape_fits First b = by_slash (nat_eq b 92)
  where
    by_slash : (t : Bool) → RunFits (Body Here) (cond t Escaped Plain) b
    by_slash true = tt
    by_slash false = tt
escape_fits Plain b = by_slash (nat_eq b 92)
  where
    by_slash : (t : Bool) → RunFits (Body Here) (cond t Escaped Plain) b
    by_slash true = tt
    by_slash false = tt

here_fits : (s : State) (b : ℕ) (t : Bool) → is_line_end b ≡ t → RunFits (Body Here) (cond t First (escape s b)) b
here_fits s b true e = line_end_small b e
here_fits s b false e = escape_fits s b

next_fits : (r : Run) (label : List ℕ) (s : State) (b : ℕ) (bs : List ℕ) → goes r label s b bs ≡ true → RunFits r (moved r s b) b
next_fits Spaces label s b bs h = space_small b h
next_fits Labels label s b bs h = tt
next_fits Line label s b bs h = tt
next_fits HashLine label s b bs h = tt
next_fits Html label s b bs h = tt
next_fits (Body Double) label s b bs h = tt
next_fits (Body Back) label s b bs h = tt
next_fits (Body Here) label s b bs h = here_fits s b (is_line_end b) refl

-- a byte that is no ASCII belongs to a run, or the byte before is ASCII
big_goes : (r : Run) (label : List ℕ) (s : State) (before b : ℕ) (bs : List ℕ) → RunFits r s before → small b ≡ false → goes r label s b bs ≡ false → small before ≡ true
big_goes Spaces label s before b bs f h stop = f
big_goes Labels label First before b bs f h stop = let clash : true ≡ false = sym (big_letter b h) ∙ stop in absurd cc
big_goes Labels label Plain before b bs f h stop = let clash : true ≡ false = sym (big_label b h) ∙ stop in absurd cc
big_goes Labels label Escaped before b bs f h stop = let clash : true ≡ false = sym (big_label b h) ∙ stop in absurd cc
big_goes Line label s before b bs f h stop = let clash : true ≡ false = sym (big_line b bs h) ∙ stop in absurd cc
big_goes HashLine label First before b bs f h stop =
    let go : goes HashLine label First b bs ≡ true = rw (big_eq b 91 h refl) (big_line b bs h) in
    let clash : true ≡ false = sym go ∙ stop in absurd cc
big_goes HashLine label Plain before b bs f h stop = let clash : true ≡ false = sym (big_line b bs h) ∙ stop in absurd cc
big_goes HashLine label Escaped before b bs f h stop = let clash : true ≡ false = sym (big_line b bs h) ∙ stop in absurd cc
big_goes Html label s before b bs f h stop =
    let go : goes Html label s b bs ≡ true = rw (big_eq b 60 h refl) refl in
    let clash : true ≡ false = sym go ∙ stop in absurd cc
big_goes (Body Double) label First before b bs f h stop =
    let go : in_piece Double label First b bs ≡ true = rw (big_eq b 34 h refl, big_eq b 36 h refl, big_eq b 123 h refl) refl in
    let clash : true ≡ false = sym go ∙ stop in absurd cc
big_goes (Body Double) label Plain before b bs f h stop =
    let go : in_piece Double label Plain b bs ≡ true = rw (big_eq b 34 h refl, big_eq b 36 h refl, big_eq b 123 h refl) refl in
    let clash : true ≡ false = sym go ∙ stop in absurd cc
big_goes (Body Double) label Escaped before b bs f h stop = absurd cc
big_goes (Body Back) label First before b bs f h stop =
    let go : in_piece Back label First b bs ≡ true = rw (big_eq b 96 h refl, big_eq b 36 h refl, big_eq b 123 h refl) refl in
    let clash : true ≡ false = sym go ∙ stop in absurd cc
big_goes (Body Back) label Plain before b bs f h stop =
    let go : in_piece Back label Plain b bs ≡ true = rw (big_eq b 96 h refl, big_eq b 36 h refl, big_eq b 123 h refl) refl in
    let clash : true ≡ false = sym go ∙ stop in absurd cc
big_goes (Body Back) label Escaped before b bs f h stop = absurd cc
big_goes (Body Here) label First before b bs f h stop = f
big_goes (Body Here) label Plain before b bs f h stop =
    let go : in_piece Here label Plain b bs ≡ true = rw (big_eq b 36 h refl, big_eq b 123 h refl) refl in
    let clash : true ≡ false = sym go ∙ stop in absurd cc
big_goes (Body Here) label Escaped before b bs f h stop = absurd cc

stop_cuts : (r : Run) (label : List ℕ) (s : State) (before b : ℕ) (bs : List ℕ) → RunFits r s before
    → goes r label s b bs ≡ false → (t : Bool) → small b ≡ t → (small before || t) ≡ true
stop_cuts r label s before b bs f stop true e = or_true (small before)
stop_cuts r label s before b bs f stop false e = rw (big_goes r label s before b bs f e stop) refl

run_by : (r : Run) (label : List ℕ) (s : State) (before b : ℕ) (bs : List ℕ) → RunFits r s before
    → (RunFits r (moved r s b) b → cuts b bs (run_len r label (moved r s b) bs) ≡ true) → (t : Bool)
    → goes r label s b bs ≡ t → cuts before (b ∷ bs) (cond t (1 + run_len r label (moved r s b) bs) 0) ≡ true
run_by r label s before b bs f ih true e = cuts_next before b bs (run_len r label (moved r s b) bs)
    (1 + run_len r label (moved r s b) bs) (omega arith) (ih (next_fits r label s b bs e))
run_by r label s before b bs f ih false e = stop_cuts r label s before b bs f e (small b) refl

pub run_cuts : (r : Run) (label : List ℕ) (s : State) (before : ℕ) (bs : List ℕ) → RunFits r s before → cuts before bs (run_len r label s bs) ≡ true
run_cuts r label s before [] f = or_true (small before)
run_cuts r label s before (b ∷ bs) f = run_by r label s before b bs f (run_cuts r label (moved r s b) b bs) (goes r label s b bs) refl

-- ---- texts with a closing byte

big_open : (u : Until) (s : State) (b : ℕ) → small b ≡ false → closes u s b ≡ false
big_open Simple Escaped b h = refl
big_open Simple First b h = big_eq b 39 h refl
big_open Simple Plain b h = big_eq b 39 h refl
big_open Closed Escaped b h = refl
big_open Closed First b h = big_eq b 34 h refl
big_open Closed Plain b h = big_eq b 34 h refl
big_open Block First b h = refl
big_open Block Plain b h = refl
big_open Block Escaped b h = big_eq b 47 h refl
big_open CastWord First b h = refl
big_open CastWord Plain b h = big_eq b 41 h refl
big_open CastWord Escaped b h = big_eq b 41 h refl
big_open From First b h = refl
big_open From Plain b h = refl
big_open From Escaped b h = big_lower b 109 h refl

close_small : (u : Until) (s : State) (b : ℕ) → closes u s b ≡ true → (t : Bool) → small b ≡ t → t ≡ true
close_small u s b h true e = refl
close_small u s b h false e = let clash : true ≡ false = sym h ∙ big_open u s b e in absurd cc

abbrev some_of : ℕ → Option ℕ
some_of n = Some n

pub some_same : (m n : ℕ) → some_of m ≡ some_of n → m ≡ n
some_same m n e = cc

until_by : (before b : ℕ) (bs : List ℕ) (bar close : Bool) (o : Option ℕ) (n : ℕ) → (close ≡ true → small b ≡ true)
    → ((k : ℕ) → o ≡ Some k → cuts b bs k ≡ true) → cond bar None (cond close (Some 1) (add_to 1 o)) ≡ Some n
    → cuts before (b ∷ bs) n ≡ true
until_by before b bs true close o n c ih e = absurd cc
until_by before b bs false true o n c ih e = let one = some_same 1 n e in cuts_next before b bs 0 n (omega arith) (rw (c refl) refl)
until_by before b bs false false None n c ih e = absurd cc
until_by before b bs false false (Some k) n c ih e = let more = some_same (1 + k) n e in cuts_next before b bs k n (omega arith) (ih k refl)

pub until_cuts : (u : Until) (s : State) (before : ℕ) (bs : List ℕ) (n : ℕ) → until_len u s bs ≡ Some n → cuts before bs n ≡ true
until_cuts u s before [] n e = absurd cc
until_cuts u s before (b ∷ bs) n e = until_by before b bs (bars u s b bs) (closes u s b)
    (until_len u (stepped u s b) bs) n (λ h. close_small u s b h (small b) refl) (until_cuts u (stepped u s b) b bs) e
