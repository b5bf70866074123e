-- Loose comparison. (PHP manual, "Comparison Operators", the table of types.)
use Rattle.std.specs.Prelude.{Bool, true, false, if◌then◌else◌, ℕ, List, [], ◌∷◌, ℤ, pos, negsuc, int_lt}
use Rattle.std.specs.declared.cmp.Ordering.{Ordering}
use Rattle.std.specs.declared.cmp.Ordering.TheVariants.{Less, Equal, Greater}
use Rattle.std.specs.Ordering.{nat_cmp, ordering_reverse, is_eq, is_ne, is_lt, is_gt, is_le, is_ge}
use Rattle.php_tree.specs.declared.version.Version.{Version}
use Rattle.php_meaning.specs.values.Value.{Value, Null, Truth, Int, Text, Object, Arr}
use Rattle.php_meaning.specs.Cause.{Outcome, Gives, Outside, Comparison, Overflow, and_then, outcome_map}
use Rattle.php_meaning.specs.values.Ints.{int_text}
use Rattle.php_meaning.specs.values.Text.{class, number, passes}
use Rattle.php_meaning.specs.Differences.{ByVersion, Alike, in_version, by_version_map, Meeting, AsNumbers, AsTexts, NotCompared, int_with_text, texts_as_numbers}
use Rattle.php_meaning.specs.values.Convert.{to_truth}

-- ---- values of one kind

abbrev pub compare_ints : ℤ → ℤ → Ordering
compare_ints i j = if int_lt i j then Less else (if int_lt j i then Greater else Equal)

-- false is less than true
abbrev pub compare_truths : Bool → Bool → Ordering
compare_truths false false = Equal
compare_truths false true = Less
compare_truths true false = Greater
compare_truths true true = Equal

-- the first, unless it is Equal
abbrev pub first_unequal : Ordering → Ordering → Ordering
first_unequal Less next = Less
first_unequal Equal next = next
first_unequal Greater next = Greater

-- texts byte by byte; one that ends where another goes on is less
abbrev pub compare_texts : List ℕ → List ℕ → Ordering
compare_texts [] [] = Equal
compare_texts [] (b ∷ bs) = Less
compare_texts (a ∷ more) [] = Greater
compare_texts (a ∷ more) (b ∷ bs) = first_unequal (nat_cmp a b) (compare_texts more bs)

-- ---- ints and texts

-- an int against a text, once it is known how they meet
abbrev pub int_meets_text : ℤ → List ℕ → Meeting → Outcome Ordering
int_meets_text i t AsNumbers = outcome_map (compare_ints i) (number t)
int_meets_text i t AsTexts = Gives (compare_texts (int_text i) t)
int_meets_text i t NotCompared = Outside Comparison

abbrev pub int_against_text : ℤ → List ℕ → ByVersion (Outcome Ordering)
int_against_text i t = by_version_map (int_meets_text i t) (int_with_text (class t))

-- a text against a text, once it is known how they meet
abbrev pub text_meets_text : List ℕ → List ℕ → Meeting → Outcome Ordering
text_meets_text s t AsNumbers = and_then (number s) (λ i. outcome_map (compare_ints i) (number t))
text_meets_text s t AsTexts = Gives (compare_texts s t)
text_meets_text s t NotCompared = Outside Comparison

abbrev pub text_against_text : List ℕ → List ℕ → ByVersion (Outcome Ordering)
text_against_text s t = by_version_map (text_meets_text s t) (texts_as_numbers (class s) (class t))

-- ---- any two values

-- what is the same in both versions
abbrev pub surely : Ordering → ByVersion (Outcome Ordering)
surely o = Alike (Gives o)

-- null and bool against anything else, by truth
abbrev pub by_truth : Value → Value → ByVersion (Outcome Ordering)
by_truth a b = surely (compare_truths (to_truth a) (to_truth b))

-- Any two values. null meets a text as the empty text; null and bool meet anything else by truth; an array is greater
-- than an int or a text; two arrays, and objects otherwise, have no comparison here.
abbrev pub comparison : Value → Value → ByVersion (Outcome Ordering)
comparison Null (Text t) = surely (compare_texts [] t)
comparison (Text s) Null = surely (compare_texts s [])
comparison Null b = by_truth Null b
comparison (Truth a) b = by_truth (Truth a) b
comparison a Null = by_truth a Null
comparison a (Truth b) = by_truth a (Truth b)
comparison (Int i) (Int j) = surely (compare_ints i j)
comparison (Int i) (Text t) = int_against_text i t
comparison (Text s) (Int j) = by_version_map (outcome_map ordering_reverse) (int_against_text j s)
comparison (Text s) (Text t) = text_against_text s t
comparison (Int i) (Arr largest next es) = surely Less
comparison (Text s) (Arr largest next es) = surely Less
comparison (Arr largest next es) (Int j) = surely Greater
comparison (Arr largest next es) (Text t) = surely Greater
comparison a b = Alike (Outside Comparison)

-- two values in a version
abbrev pub compare : Version → Value → Value → Outcome Ordering
compare v a b = in_version v (comparison a b)

-- ---- the operators

-- what an operator answers by the order of two values
abbrev pub compared : (Ordering → Value) → Value → Value → ByVersion (Outcome Value)
compared answer a b = by_version_map (outcome_map answer) (comparison a b)

-- `==`, and `!=` or `<>`
abbrev pub equal : Value → Value → ByVersion (Outcome Value)
equal a b = compared (λ o. Truth (is_eq o)) a b

abbrev pub unequal : Value → Value → ByVersion (Outcome Value)
unequal a b = compared (λ o. Truth (is_ne o)) a b

-- `<` and `>`
abbrev pub less : Value → Value → ByVersion (Outcome Value)
less a b = compared (λ o. Truth (is_lt o)) a b

abbrev pub greater : Value → Value → ByVersion (Outcome Value)
greater a b = compared (λ o. Truth (is_gt o)) a b

-- `<=` and `>=`
abbrev pub at_most : Value → Value → ByVersion (Outcome Value)
at_most a b = compared (λ o. Truth (is_le o)) a b

abbrev pub at_least : Value → Value → ByVersion (Outcome Value)
at_least a b = compared (λ o. Truth (is_ge o)) a b

-- an order as the int that `<=>` gives
abbrev pub ordering_int : Ordering → ℤ
ordering_int Less = negsuc 0
ordering_int Equal = pos 0
ordering_int Greater = pos 1

-- `<=>`
abbrev pub spaceship : Value → Value → ByVersion (Outcome Value)
spaceship a b = compared (λ o. Int (ordering_int o)) a b

-- What the left operand of a comparison is, before the right one is evaluated: a text whose digits pass 64 bits is
-- outside. (This project's own.)
abbrev pub left_of_comparison : Value → Outcome Value
left_of_comparison Null = Gives Null
left_of_comparison (Truth b) = Gives (Truth b)
left_of_comparison (Int i) = Gives (Int i)
left_of_comparison (Text t) = if passes t then Outside Overflow else Gives (Text t)
left_of_comparison (Object n) = Gives (Object n)
left_of_comparison (Arr largest next es) = Gives (Arr largest next es)
