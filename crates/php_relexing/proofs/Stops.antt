-- Bytes that go on with no word and no number.
use Rattle.std.proofs.Common.{◌≡◌, ℕ, Bool, true, false, List, [], ◌∷◌, Some, None, refl}
use Rattle.php_spellings.specs.declared.table.State.TheVariants.{Plain}
use Rattle.php_spellings.specs.declared.table.Run.TheVariants.{Labels}
use Rattle.php_spellings.specs.declared.table.Shape.TheVariants as shape
use Rattle.php_spellings.specs.declared.table.Spot.TheVariants.{Whole, FirstLabel, Stuck}
use Rattle.php_spellings.specs.Bytes.{is_label_byte, begins}
use Rattle.php_lexer.specs.Shapes.{step}
use Rattle.php_lexer.specs.Scan.{run_len, shape_len}
use Rattle.php_relexing.specs.Alike.{is_among}
use Rattle.php_relexing.proofs.Listed.{each}

-- white space, a single quote, brackets and marks
abbrev pub stops : List ℕ
stops = 9 ∷ 10 ∷ 13 ∷ 32 ∷ 39 ∷ 40 ∷ 41 ∷ 44 ∷ 58 ∷ 59 ∷ 63 ∷ []

abbrev pub is_stop : ℕ → Bool
is_stop b = is_among stops b

no_label : (b : ℕ) → is_stop b ≡ true → is_label_byte b ≡ false
no_label b h = each (λ x. is_label_byte x ≡ false) stops (refl, (refl, (refl, (refl, (refl, (refl, (refl, (refl, (refl, (refl, (refl, tt))))))))))) b h

no_name : (b : ℕ) → is_stop b ≡ true → step shape.Name FirstLabel b ≡ Stuck
no_name b h = each (λ x. step shape.Name FirstLabel x ≡ Stuck) stops (refl, (refl, (refl, (refl, (refl, (refl, (refl, (refl, (refl, (refl, (refl, tt))))))))))) b h

no_decimal : (b : ℕ) → is_stop b ≡ true → step shape.Decimal Whole b ≡ Stuck
no_decimal b h = each (λ x. step shape.Decimal Whole x ≡ Stuck) stops (refl, (refl, (refl, (refl, (refl, (refl, (refl, (refl, (refl, (refl, (refl, tt))))))))))) b h

no_float : (b : ℕ) → is_stop b ≡ true → step shape.Float Whole b ≡ Stuck
no_float b h = each (λ x. step shape.Float Whole x ≡ Stuck) stops (refl, (refl, (refl, (refl, (refl, (refl, (refl, (refl, (refl, (refl, (refl, tt))))))))))) b h

-- ---- at such a byte

pub label_stops : (s : List ℕ) → begins is_stop s ≡ true → run_len Labels [] Plain s ≡ 0
label_stops [] h = absurd cc
label_stops (c ∷ s) h = rw (no_label c h) refl

pub name_stops : (s : List ℕ) → begins is_stop s ≡ true → shape_len shape.Name FirstLabel s ≡ None
name_stops [] h = absurd cc
name_stops (c ∷ s) h = rw (no_name c h) refl

pub decimal_stops : (s : List ℕ) → begins is_stop s ≡ true → shape_len shape.Decimal Whole s ≡ Some 0
decimal_stops [] h = absurd cc
decimal_stops (c ∷ s) h = rw (no_decimal c h) refl

pub float_stops : (s : List ℕ) → begins is_stop s ≡ true → shape_len shape.Float Whole s ≡ None
float_stops [] h = absurd cc
float_stops (c ∷ s) h = rw (no_float c h) refl
