-- Files upgraded one after another.
use Rattle.std.proofs.Common.{
  ◌≡◌,
  ◌<◌,
  ◌≤◌,
  ℕ,
  zero,
  suc,
  ◌+◌,
  ◌*◌,
  ◌^◌,
  Bool,
  true,
  false,
  cond,
  List,
  [],
  ◌∷◌,
  ◌++◌,
  length,
  map,
  get_or,
  take,
  count_by,
  sum_by,
  refl,
  ap,
  ap₂,
  sym,
  ◌∙◌,
  subst,
  arith,
  append_assoc,
}
use Rattle.std.specs.List.Sorted.{IsNonDecreasingBy, IsPermutation}
use Rattle.std.proofs.lemmas.List.{append-nil, length-append, map-append}
use Rattle.std.proofs.lemmas.List.Recursion.{is_count_by}
use Rattle.std.proofs.lemmas.List.Sorted.{length_permutation, sum_by-IsPermutation}
use Rattle.std.proofs.lemmas.List.Sums.{sum_by-append, sum_by-cons}
use Rattle.std.proofs.Math.Seq.{take-suc}
use Rattle.php_tree.specs.Tree.{File, file_printed}
use Rattle.io_ports.specs.declared.report.Report.{Report}
use Rattle.rule_tables.specs.SettingsView.{SettingsView}
use Rattle.php_rows.specs.declared.file.RowTree.{RowTree}
use Rattle.syntax_upgrade.specs.declared.found.Found.{Found}
use Rattle.syntax_upgrade.specs.declared.whole.Upgrade.{Upgrade}
use Rattle.syntax_upgrade.specs.Found as found
use Rattle.upgrade_core.specs.declared.upgraded.Upgraded.{Upgraded}
use Rattle.upgrade_core.specs.Files.{file_of, Trees}
use Rattle.upgrade_core.specs.Upgrade.{
  rewritten,
  edits,
  reports,
  order_of,
  stops,
  AreOf,
  IsReportOf,
  AreReportsOf,
  AreReported,
  written,
  edits_in_all,
  reports_in_all,
  stops_in_all,
}
use Rattle.upgrade_core.specs.Made.{AreAdded, IsOfTree, IsNothing, IsAdded, IsOf}

-- ---- reports in order

-- one report more
pub reports_next : (path : List ℕ) (places : List found.Report) (rs : List Report) (place : found.Report) (r : Report)
    → AreReportsOf path places rs → IsReportOf path place r → AreReportsOf path (places ++ place ∷ []) (rs ++ r ∷ [])
reports_next path [] [] place r h one = (one, tt)
reports_next path [] (x ∷ rs) place r h one = absurd h
reports_next path (p ∷ places) [] place r h one = absurd h
reports_next path (p ∷ places) (x ∷ rs) place r h one = (h.0, reports_next path places rs place r h.1 one)

next_is : (n : ℕ) → suc n ≡ n + 1
next_is n = omega arith

-- one more element of a list
one_more : {X Y : Type 0} (f : X → Y) (xs : List X) (i : ℕ) (x d : X) → i < length xs → x ≡ get_or xs i d
    → map f (take i xs) ++ f x ∷ [] ≡ map f (take (i + 1) xs)
one_more f xs i x d below is =
    sym (map-append f (take i xs) (x ∷ []))
    ∙ ap (λ ys. map f ys)
    (ap (λ y. take i xs ++ y ∷ []) is ∙ sym (take-suc xs i d below) ∙ ap (λ n. take n xs) (next_is i))

-- one more of some places is reported
pub added_next : (path : List ℕ) (places : List Found) (i : ℕ) (place d : Found) (old mid new : List Report) (r : Report)
    → i < length places → place ≡ get_or places i d → AreAdded path (map found.found_of (take i places)) old mid
    → new ≡ mid ++ r ∷ [] → IsReportOf path (found.found_of place) r
    → AreAdded path (map found.found_of (take (i + 1) places)) old new
added_next path places i place d old mid new r below is h e one = record {
  own = h.own ++ r ∷ [];
  are = e ∙ ap (λ (xs : List Report). xs ++ r ∷ []) h.are ∙ append_assoc old h.own (r ∷ []);
  of = subst (λ (xs : List found.Report). AreReportsOf path xs (h.own ++ r ∷ [])) (one_more found.found_of places i place d below is)
      (reports_next path (map found.found_of (take i places)) h.own (found.found_of place) r h.of one);
}

same_length : (path : List ℕ) (xs : List Found) (rs : List Report) → AreReportsOf path (map found.found_of xs) rs → length rs ≡ length xs
same_length path [] [] h = refl
same_length path [] (r ∷ rs) h = absurd h
same_length path (x ∷ xs) [] h = absurd h
same_length path (x ∷ xs) (r ∷ rs) h = ap (λ n. suc n) (same_length path xs rs h.1)

-- a report is in the order of its place
same_order : (path : List ℕ) (xs : List Found) (rs : List Report) (i : ℕ) (d : Report) (e : Found)
    → AreReportsOf path (map found.found_of xs) rs → i < length xs → order_of (get_or rs i d) ≡ found.order_of (get_or xs i e)
same_order path [] rs i d e h below = absurd (omega (arith, below))
same_order path (x ∷ xs) [] i d e h below = absurd h
same_order path (x ∷ xs) (r ∷ rs) zero d e h below =
    ap₂ (λ n m. n + m) (ap₂ (λ s t. s * 2 ^ 32 * 2 ^ 16 + t * 2 ^ 16) h.0.start h.0.end) h.0.code
same_order path (x ∷ xs) (r ∷ rs) (suc i) d e h below = same_order path xs rs i d e h.1 (omega (arith, below))

-- places in order are reports in order
ordered : (path : List ℕ) (xs : List Found) (rs : List Report) → AreReportsOf path (map found.found_of xs) rs
    → IsNonDecreasingBy found.order_of xs → IsNonDecreasingBy order_of rs
ordered path [] [] of h i j d le below = absurd (omega (arith, below))
ordered path [] (r ∷ rs) of h i j d le below = absurd of
ordered path (x ∷ xs) [] of h i j d le below = absurd of
ordered path (x ∷ xs) (r ∷ rs) of h i j d le below =
    let within : j < length (x ∷ xs) = subst (λ n. j < n) (same_length path (x ∷ xs) (r ∷ rs) of) below in
    let first = same_order path (x ∷ xs) (r ∷ rs) i d x of (omega (arith, le, within)) in
    let second = same_order path (x ∷ xs) (r ∷ rs) j d x of within in
    subst (λ n. n ≤ order_of (get_or (r ∷ rs) j d)) (sym first)
    (subst (λ n. found.order_of (get_or (x ∷ xs) i x) ≤ n) (sym second) (h i j x le within))

-- the reports of a file
own : (settings : SettingsView) (t : List ℕ × File) (one : Upgrade) (rs : List Report) → IsOfTree settings t.1 one
    → AreReportsOf t.0 (map found.found_of one.reports.items) rs → AreOf settings t rs
own settings t one rs h of = record {
  found = map found.found_of one.reports.items;
  all = h.reports_are;
  are = of;
  ordered = ordered t.0 one.reports.items rs of h.ordered;
}

reported_next : (settings : SettingsView) (ts : Trees) (t : List ℕ × File) (rs new : List Report) → AreReported settings ts rs
    → AreOf settings t new → AreReported settings (ts ++ t ∷ []) (rs ++ new)
reported_next settings [] t rs new h one =
    (new, [], ap (λ (xs : List Report). xs ++ new) h ∙ sym (append-nil new), one, refl)
reported_next settings (u ∷ ts) t rs new h one =
    let (first, more, is, of, rest) = h in (
      first,
      more ++ new,
      ap (λ (xs : List Report). xs ++ new) is ∙ append_assoc first more new,
      of,
      reported_next settings ts t more new rest one,
    )

-- ---- how many stop the claim

abbrev one_if : {X : Type 0} → (X → Bool) → X → ℕ
one_if p x = cond (p x) 1 0

cond_sum : (b : Bool) (n : ℕ) → cond b 1 0 + n ≡ cond b (1 + n) n
cond_sum true n = refl
cond_sum false n = omega arith

-- a count is a sum
counted : {X : Type 0} (p : X → Bool) (xs : List X) → sum_by (one_if p) xs ≡ count_by p xs
counted p xs =
    is_count_by (λ ys. sum_by (one_if p) ys) p refl
    (λ x ys. sum_by-cons (one_if p) x ys ∙ cond_sum (p x) (sum_by (one_if p) ys)) xs

sum_of_map : {X Y : Type 0} (g : Y → ℕ) (f : X → Y) (xs : List X) → sum_by g (map f xs) ≡ sum_by (λ x. g (f x)) xs
sum_of_map g f [] = refl
sum_of_map g f (x ∷ xs) =
    sum_by-cons g (f x) (map f xs) ∙ ap (λ n. g (f x) + n) (sum_of_map g f xs) ∙ sym (sum_by-cons (λ y. g (f y)) x xs)

abbrev is_stop : found.Report → Bool
is_stop r = stops r.weight

stops_are : (settings : SettingsView) (t : File) (one : Upgrade) → IsOfTree settings t one
    → count_by (λ x. stops (found.found_of x).weight) one.reports.items ≡ count_by (λ r. stops r.weight) (reports settings t)
stops_are settings t one h =
    sym (counted (λ x. stops (found.found_of x).weight) one.reports.items)
    ∙ sym (sum_of_map (one_if is_stop) found.found_of one.reports.items)
    ∙ sum_by-IsPermutation (one_if is_stop) (reports settings t) (map found.found_of one.reports.items) h.reports_are
    ∙ counted is_stop (reports settings t)

-- ---- all files

sum_next : {X : Type 0} (f : X → ℕ) (xs : List X) (x : X) → sum_by f xs + f x ≡ sum_by f (xs ++ x ∷ [])
sum_next f xs x =
    ap (λ n. sum_by f xs + n) (zero_behind (f x) ∙ sym (sum_by-cons f x [])) ∙ sym (sum_by-append f xs (x ∷ []))
  where
    zero_behind : (n : ℕ) → n ≡ n + 0
    zero_behind n = omega arith

-- of no files
pub made_nothing : (settings : SettingsView) (u : Upgraded) → IsNothing u → IsOf settings [] u
made_nothing settings u h = record {
  files = ap (λ xs. map file_of xs) h.files;
  edits = h.edits;
  reports = h.reports;
  stops = h.stops;
}

-- of one file more
pub made_next : (settings : SettingsView) (ts : Trees) (t : List ℕ × File) (one : Upgrade) (old new : Upgraded)
    → IsOf settings ts old → IsOfTree settings t.1 one → IsAdded t.0 one old new → IsOf settings (ts ++ t ∷ []) new
made_next settings ts t one old new h is added = record {
  files =
      added.files
      ∙ ap₂ (λ (xs : List (List ℕ × List ℕ)) (bs : List ℕ). xs ++ (t.0, bs) ∷ []) h.files is.bytes_are
      ∙ sym (map-append (λ (u : List ℕ × File). (u.0, file_printed (rewritten settings u.1))) ts (t ∷ []));
  edits =
      added.edits ∙ ap₂ (λ n m. n + m) h.edits is.edits_are
      ∙ sum_next (λ (u : List ℕ × File). length (edits settings u.1)) ts t;
  reports = subst (λ rs. AreReported settings (ts ++ t ∷ []) rs) (sym added.reports.are)
      (reported_next settings ts t old.reports.items added.reports.own h.reports (own settings t one added.reports.own is added.reports.of));
  stops =
      added.stops ∙ ap₂ (λ n m. n + m) h.stops (stops_are settings t.1 one is)
      ∙ sum_next (λ (u : List ℕ × File). count_by (λ r. stops r.weight) (reports settings u.1)) ts t;
}

-- the next row of some
pub rows_made : (settings : SettingsView) (tree : List ℕ × RowTree → List ℕ × File) (rows : List (List ℕ × RowTree)) (i : ℕ)
    (row d : List ℕ × RowTree) (one : Upgrade) (old new : Upgraded) → i < length rows → row ≡ get_or rows i d
    → IsOf settings (map tree (take i rows)) old → IsOfTree settings (tree row).1 one → IsAdded (tree row).0 one old new
    → IsOf settings (map tree (take (i + 1) rows)) new
rows_made settings tree rows i row d one old new below is h of added =
    subst (λ (ts : Trees). IsOf settings ts new) (one_more tree rows i row d below is)
    (made_next settings (map tree (take i rows)) (tree row) one old new h of added)

-- ---- how many reports there are

as_many : (path : List ℕ) (places : List found.Report) (rs : List Report) → AreReportsOf path places rs → length rs ≡ length places
as_many path [] [] h = refl
as_many path [] (r ∷ rs) h = absurd h
as_many path (p ∷ places) [] h = absurd h
as_many path (p ∷ places) (r ∷ rs) h = ap (λ n. suc n) (as_many path places rs h.1)

pub reported_count : (settings : SettingsView) (ts : Trees) (rs : List Report) → AreReported settings ts rs
    → length rs ≡ reports_in_all settings ts
reported_count settings [] rs h = ap (λ (xs : List Report). length xs) h
reported_count settings (t ∷ ts) rs h =
    let (first, more, is, of, rest) = h in
    ap (λ (xs : List Report). length xs) is ∙ length-append first more
    ∙ ap₂ (λ n m. n + m)
    (as_many t.0 of.found first of.are ∙ length_permutation (reports settings t.1) of.found of.all)
    (reported_count settings ts more rest)
    ∙ sym (sum_by-cons (λ (u : List ℕ × File). length (reports settings u.1)) t ts)
