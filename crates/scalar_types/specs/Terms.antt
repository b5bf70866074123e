-- Types as definitions see them, without where they lie in memory.
use Rattle.std.specs.Prelude.{◌≡◌, ℕ, ◌<◌, ◌^◌, Bool, List, [], Option, None, Some, true, false}
use Rattle.std.specs.Option.{option_map}
use Rattle.std.specs.Int.{bit_at}
use Rattle.std.specs.List.Sorted.{IsStrictlyIncreasing}
use Rattle.scalar_types.specs.declared.php_type.PhpType.{PhpType, fold-PhpType}
use Rattle.scalar_types.specs.declared.php_type.Parts.{Parts, fold-Parts}
use Rattle.scalar_types.specs.declared.php_type.PhpType.TheOpen.{PhpType-F, Parts-F}

-- what a known type allows, without its element
pub record Facts : Type 0 where
  pub bits : ℕ
  pub neg : Bool
  pub text_keys : Bool
  pub shared : List ℕ
  pub classes : List ℕ

-- 1 for a flag that is set
abbrev pub flag_count : Bool → ℕ
flag_count true = 1
flag_count false = 0

-- A type: Any, a known one without an element, or a known one with its element.
pub data TypeTerm : Type 0 where
  any : TypeTerm
  plain : Facts → TypeTerm
  array : Facts → TypeTerm → TypeTerm

-- ---- from the code's types

-- a known type, by its facts and its element
abbrev pub known : Facts → Option TypeTerm → TypeTerm
known f None = plain f
known f (Some e) = array f e

abbrev pub parts_step : Parts-F TypeTerm TypeTerm → TypeTerm
parts_step p =
    known
    (record {
      bits = p.bits;
      neg = p.neg;
      text_keys = p.text_keys;
      shared = p.shared;
      classes = p.classes;
    })
    (option_map (λ b. b.value) p.element)

abbrev pub type_step : PhpType-F TypeTerm TypeTerm → TypeTerm
type_step PhpType-F.Any = any
type_step (PhpType-F.Known p) = p

-- the type
abbrev pub term : PhpType → TypeTerm
term = fold-PhpType TypeTerm TypeTerm type_step parts_step

-- the known type of these parts
abbrev pub parts_term : Parts → TypeTerm
parts_term = fold-Parts TypeTerm TypeTerm type_step parts_step

-- the facts of these parts
abbrev pub facts_of : Parts → Facts
facts_of p = record {
  bits = p.bits;
  neg = p.neg;
  text_keys = p.text_keys;
  shared = p.shared;
  classes = p.classes;
}

-- these facts, with these labels
abbrev pub with_labels : Facts → List ℕ → Facts
with_labels f labels = record f { shared = labels }

-- the known type of these bits alone
abbrev pub of_bits : ℕ → TypeTerm
of_bits bits = plain (record { bits = bits; neg = false; text_keys = false; shared = []; classes = [] })

-- ---- well-formed types

-- the bit of arrays is set
abbrev pub HasArrayBit : ℕ → Type 0
HasArrayBit bits = bit_at bits 9 ≡ 1

-- no label stands beside the element Any
abbrev pub NoLabelsAtAny : List ℕ → TypeTerm → Type 0
NoLabelsAtAny xs any = xs ≡ []
NoLabelsAtAny xs (plain f) = Unit {0}
NoLabelsAtAny xs (array f e) = Unit {0}

-- only the eleven bits are set, and labels and classes ascend
pub record AreFactsWellFormed (f : Facts) : Type 0 where
  pub eleven_bits : f.bits < 2 ^ 11
  pub labels_ascend : IsStrictlyIncreasing f.shared
  pub classes_ascend : IsStrictlyIncreasing f.classes

-- A well-formed type: only the eleven bits are set, there is an element exactly where the bit of arrays is set, and no
-- label stands beside the element Any, at each depth.
abbrev pub IsWellFormed : TypeTerm → Type 0
IsWellFormed any = Unit {0}
IsWellFormed (plain f) = AreFactsWellFormed f × (bit_at f.bits 9 ≡ 0)
IsWellFormed (array f e) = AreFactsWellFormed f × HasArrayBit f.bits × NoLabelsAtAny f.shared e × IsWellFormed e
