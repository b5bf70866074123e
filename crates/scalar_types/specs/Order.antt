-- The order of types: this project's own, after what values a type admits.
use Rattle.std.specs.Prelude.{◌≡◌, ℕ, ◌≤◌, List, true}
use Rattle.std.specs.Int.{bit_at}
use Rattle.scalar_types.specs.Sets.{IsSubset}
use Rattle.scalar_types.specs.Terms.{Facts, TypeTerm, any, plain, array}

-- each bit that is set in the first is set in the second
pub record BitsAmong (a b : ℕ) : Type 0 where
  pub each : (k : ℕ) → bit_at a k ≤ bit_at b k

-- The first's bits, flags and classes are among the second's.
pub record FactsAmong (f g : Facts) : Type 0 where
  pub bits : BitsAmong f.bits g.bits
  pub neg : f.neg ≡ true → g.neg ≡ true
  pub text_keys : f.text_keys ≡ true → g.text_keys ≡ true
  pub classes : IsSubset f.classes g.classes

-- labels are among those that stand beside an element, or that element is Any
abbrev pub LabelsAmong : List ℕ → List ℕ → TypeTerm → Type 0
LabelsAmong xs ys any = Unit {0}
LabelsAmong xs ys (plain g) = IsSubset xs ys
LabelsAmong xs ys (array g e) = IsSubset xs ys

-- The first type is below the second: the second is Any; or both are known, the first's bits, flags and classes are
-- among the second's, its element, where it has one, is below the second's, and its labels are among the second's or
-- the second's element is Any.
abbrev pub Below : TypeTerm → TypeTerm → Type 0
Below any any = Unit {0}
Below any (plain g) = ⊥
Below any (array g e) = ⊥
Below (plain f) any = Unit {0}
Below (plain f) (plain g) = FactsAmong f g × IsSubset f.shared g.shared
Below (plain f) (array g e) = FactsAmong f g × LabelsAmong f.shared g.shared e
Below (array f d) any = Unit {0}
Below (array f d) (plain g) = ⊥
Below (array f d) (array g e) = FactsAmong f g × Below d e × LabelsAmong f.shared g.shared e
