-- The first refused key of a table whose keys ascend is the least one.
use Rattle.std.proofs.Common.{
  ◌≡◌,
  ℕ,
  true,
  false,
  cond,
  List,
  [],
  ◌∷◌,
  Option,
  Some,
  None,
  option_map,
  MatchOption,
  Ok,
  Err,
  String,
  Global,
  string_bytes,
  nat_cmp,
  Less,
  Greater,
  refl,
  sym,
  ap,
  ◌∙◌,
}
use Rattle.std.specs.Cmp.Lexicographic.{slice_cmp}
use Rattle.std.specs.List.{AllByRecursion}
use Rattle.std.specs.List.Sorted.{IsStrictlySortedBy}
use Rattle.std.specs.Map.{keys_of}
use Rattle.std.specs.Ordering.{is_lt, ordering_reverse}
use Rattle.std.specs.String.{string_cmp}
use Rattle.std.proofs.lemmas.Cmp.{nat_list_cmp_total}
use Rattle.toml.specs.Data.{Data}
use Rattle.toml.specs.View.{view, members_view}
use Rattle.toml.specs.declared.value.Value.{Value}
use Rattle.rule_tables.specs.declared.settings_fault.SettingsFault.{SettingsFault}
use Rattle.rule_tables.specs.Checks.{IsCheck, checked}
use Rattle.rule_tables.specs.KeyTable.{Refused, least_refused, lesser, refused}

abbrev pub Entry : Type 0
Entry = String Global × Value

abbrev pub Test : Type 0
Test = List ℕ → Data → Option SettingsFault

-- the first fault of two
abbrev pub or_else : Option SettingsFault → Option SettingsFault → Option SettingsFault
or_else None b = b
or_else (Some f) b = Some f

-- the fault at the first refused entry of a list
abbrev pub first : Test → List Entry → Option SettingsFault
first test [] = None
first test (e ∷ es) = or_else (test (string_bytes e.0) (view e.1)) (first test es)

-- a refusal stands at a key behind another
abbrev pub IsAfter : List ℕ → Option Refused → Type 0
IsAfter key r = MatchOption r (Unit {0}) (λ a. slice_cmp nat_cmp key a.0 ≡ Less)

-- of two refusals behind a key the lesser is behind it
lesser-after : (key : List ℕ) (a b : Option Refused) → IsAfter key a → IsAfter key b → IsAfter key (lesser a b)
lesser-after key None b h k = k
lesser-after key (Some a) None h k = h
lesser-after key (Some a) (Some b) h k =
    elim (is_lt (slice_cmp nat_cmp b.0 a.0)) as (λ t. IsAfter key (cond t (Some b) (Some a))) [ true ↦ k | false ↦ h ]

refused-after : (key k : List ℕ) (f : Option SettingsFault) → slice_cmp nat_cmp key k ≡ Less → IsAfter key (refused k f)
refused-after key k None h = tt
refused-after key k (Some f) h = h

-- what is refused in a table whose keys stand behind another is refused behind it
least-after : (test : Test) (key : String Global) (es : List Entry)
    → AllByRecursion (λ q. string_cmp key q ≡ Less) (keys_of es)
    → IsAfter (string_bytes key) (least_refused test (members_view es))
least-after test key [] h = tt
least-after test key (e ∷ es) h =
    lesser-after (string_bytes key) (refused (string_bytes e.0) (test (string_bytes e.0) (view e.1))) (least_refused test (members_view es))
    (refused-after (string_bytes key) (string_bytes e.0) (test (string_bytes e.0) (view e.1)) h.0)
    (least-after test key es h.1)

-- a refusal in front of another is the lesser one
lesser-front : (key : List ℕ) (f : Option SettingsFault) (rest : Option Refused) → IsAfter key rest
    → option_map (λ r. r.1) (lesser (refused key f) rest) ≡ or_else f (option_map (λ r. r.1) rest)
lesser-front key None rest h = refl
lesser-front key (Some f) None h = refl
lesser-front key (Some f) (Some b) h =
    let behind : slice_cmp nat_cmp b.0 key ≡ Greater = nat_list_cmp_total.antisymm b.0 key ∙ ap ordering_reverse h in
    rw behind refl

-- the first refused key of a table whose keys ascend is the least one
pub first-least : (test : Test) (es : List Entry) → IsStrictlySortedBy string_cmp (keys_of es) → first test es ≡ option_map (λ r. r.1) (least_refused test (members_view es))
unfolding IsStrictlySortedBy
first-least test [] h = refl
first-least test (e ∷ es) h =
    ap (or_else (test (string_bytes e.0) (view e.1))) (first-least test es h.1)
    ∙ sym (lesser-front (string_bytes e.0) (test (string_bytes e.0) (view e.1)) (least_refused test (members_view es)) (least-after test e.0 es h.0))

checked-ok : (f : Option SettingsFault) → Ok tt ≡ checked f → f ≡ None
checked-ok None h = refl
checked-ok (Some f) h = absurd cc

checked-err : (f : Option SettingsFault) (e : SettingsFault) → Err e ≡ checked f → f ≡ Some e
checked-err None e h = absurd cc
checked-err (Some f) e h = let same : e ≡ f = cc in ap Some (sym same)

-- an entry at which nothing is refused leaves the first refused one to the others
pub first-passed : (test : Test) (s t : List Entry) (e : Entry) → s ≡ e ∷ t → IsCheck (test (string_bytes e.0) (view e.1)) (Ok tt) → first test s ≡ first test t
first-passed test s t e eq h =
    let none : test (string_bytes e.0) (view e.1) ≡ None = checked-ok (test (string_bytes e.0) (view e.1)) (h (λ k. cc)) in
    ap (first test) eq ∙ rw none refl

-- an entry at which something is refused is the first
pub first-failed : (test : Test) (s t : List Entry) (e : Entry) (f : SettingsFault) → s ≡ e ∷ t → Err f ≡ checked (test (string_bytes e.0) (view e.1)) → first test s ≡ Some f
first-failed test s t e f eq h =
    let some : test (string_bytes e.0) (view e.1) ≡ Some f = checked-err (test (string_bytes e.0) (view e.1)) f h in
    ap (first test) eq ∙ rw some refl

-- what a loop over a table answers where it stops at a refused entry
pub failed-least : (test : Test) (all s t : List Entry) (e : Entry) (f : SettingsFault)
    → first test s ≡ first test all → s ≡ e ∷ t → IsStrictlySortedBy string_cmp (keys_of all)
    → Err f ≡ checked (test (string_bytes e.0) (view e.1)) → Err f ≡ checked
    (option_map (λ r. r.1) (least_refused test (members_view all)))
failed-least test all s t e f same eq sorted h =
    ap checked (sym (first-failed test s t e f eq h) ∙ same ∙ first-least test all sorted)

-- and where it comes to its end
pub passed-least : (test : Test) (all s : List Entry) → first test s ≡ first test all → s ≡ []
    → IsStrictlySortedBy string_cmp (keys_of all) → Ok tt ≡ checked
    (option_map (λ r. r.1) (least_refused test (members_view all)))
passed-least test all s same eq sorted =
    ap checked (ap (first test) (sym eq) ∙ same ∙ first-least test all sorted)
