-- The laws of values.
use Rattle.std.specs.Prelude.{◌≡◌, ℕ, Bool, true, false, List, ℤ, IsTrue, IsFalse, ⊤}
use Rattle.std.specs.declared.cmp.Ordering.{Ordering}
use Rattle.std.specs.Ordering.{ordering_reverse, is_eq}
use Rattle.php_tree.specs.declared.version.Version.{Version}
use Rattle.php_tree.specs.declared.version.Version.TheVariants.{V74, V83}
use Rattle.php_meaning.specs.values.Value.{Value, Null, Truth, Int, Text, Object, Arr}
use Rattle.php_meaning.specs.Cause.{Gives, and_then, outcome_map}
use Rattle.php_meaning.specs.values.Ints.{fits, int_text}
use Rattle.php_meaning.specs.values.Text.{Class, Whole, WholeTail, Fraction, Lead, Word, class, number}
use Rattle.php_meaning.specs.values.TextClasses.{HasClass}
use Rattle.php_meaning.specs.values.Convert.{to_int}
use Rattle.php_meaning.specs.values.Compare.{compare}

-- Every text has its class, and no other one.
pub record OneClass (t : List ℕ) : Type 0 where
  pub has : HasClass (class t) t
  pub alone : (c : Class) → HasClass c t → c ≡ class t

-- A comparison the other way round gives the opposite.
abbrev pub IsAntisymmetric : Version → Value → Value → Type 0
IsAntisymmetric v a b = (o : Ordering) → compare v a b ≡ Gives o → compare v b a ≡ Gives (ordering_reverse o)

-- a value that is no text of class Lead, Word or WholeTail
abbrev pub IsPlainClass : Class → Type 0
IsPlainClass Whole = ⊤
IsPlainClass WholeTail = ⊥
IsPlainClass Fraction = ⊤
IsPlainClass Lead = ⊥
IsPlainClass Word = ⊥

abbrev pub IsPlain : Value → Type 0
IsPlain Null = ⊤
IsPlain (Truth b) = ⊤
IsPlain (Int i) = ⊤
IsPlain (Text t) = IsPlainClass (class t)
IsPlain (Object n) = ⊤
IsPlain (Arr largest next es) = ⊤

-- Whether two values may compare differently in the two versions: an int with a text of class Lead or Word, and two
-- numbers as texts of which one has white space behind it.
abbrev pub int_may_differ : Class → Bool
int_may_differ Whole = false
int_may_differ WholeTail = false
int_may_differ Fraction = false
int_may_differ Lead = true
int_may_differ Word = true

abbrev pub texts_may_differ : Class → Class → Bool
texts_may_differ Whole WholeTail = true
texts_may_differ WholeTail Whole = true
texts_may_differ WholeTail WholeTail = true
texts_may_differ c d = false

abbrev pub may_differ : Value → Value → Bool
may_differ (Int i) (Text t) = int_may_differ (class t)
may_differ (Text s) (Int j) = int_may_differ (class s)
may_differ (Text s) (Text t) = texts_may_differ (class s) (class t)
may_differ a b = false

-- The texts that make an int key are exactly the texts of ints.
abbrev pub IsIntText : List ℕ → ℤ → Type 0
IsIntText t i = IsTrue (fits i) × (t ≡ int_text i)

-- An int's text is a number, namely that int.
pub record TextOfInt (i : ℤ) : Type 0 where
  pub is_whole : class (int_text i) ≡ Whole
  pub reads_back : number (int_text i) ≡ Gives i

-- A cast of the text to int makes the newer version compare as the older one did without it.
pub record CastCompares (t : List ℕ) (i : ℤ) : Type 0 where
  pub on_the_left : and_then (to_int (Text t)) (λ n. compare V83 (Int n) (Int i)) ≡ compare V74 (Text t) (Int i)
  pub on_the_right : and_then (to_int (Text t)) (λ n. compare V83 (Int i) (Int n)) ≡ compare V74 (Int i) (Text t)

-- The same of null, where only `==` or `!=` asks.
pub record NullCastCompares (i : ℤ) : Type 0 where
  pub on_the_left : outcome_map is_eq (and_then (to_int Null) (λ n. compare V83 (Int n) (Int i)))
      ≡ outcome_map is_eq (compare V74 Null (Int i))
  pub on_the_right : outcome_map is_eq (and_then (to_int Null) (λ n. compare V83 (Int i) (Int n)))
      ≡ outcome_map is_eq (compare V74 (Int i) Null)

-- whether a value is a text of class Word
abbrev pub class_is_word : Class → Bool
class_is_word Whole = false
class_is_word WholeTail = false
class_is_word Fraction = false
class_is_word Lead = false
class_is_word Word = true

abbrev pub is_word : Value → Bool
is_word Null = false
is_word (Truth b) = false
is_word (Int i) = false
is_word (Text t) = class_is_word (class t)
is_word (Object n) = false
is_word (Arr largest next es) = false

-- An operand as the newer version gets it: itself, where it is no Word, or cast to int.
pub data IsCarried : Value → Value → Type 0 where
  kept : {a : Value} → IsFalse (is_word a) → IsCarried a a
  cast : {a : Value} {n : ℤ} → to_int a ≡ Gives n → IsCarried a (Int n)
