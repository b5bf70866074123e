-- Files as a graph, and entries one after another.
use Rattle.std.proofs.Common.{
  ◌≡◌,
  ◌<◌,
  ◌≤◌,
  ◌⊎◌,
  inl,
  inr,
  ℕ,
  zero,
  suc,
  ◌+◌,
  ◌-◌,
  Bool,
  true,
  false,
  List,
  [],
  ◌∷◌,
  ◌++◌,
  map,
  length,
  refl,
  sym,
  ap,
  subst,
  ◌∙◌,
  arith,
  slice_get,
  get_or,
  take,
  drop,
  Some,
  None,
  Option,
}
use Rattle.std.specs.Prelude.{Contains, All}
use Rattle.std.proofs.lemmas.Bool.{or_cases, or_left, or_right, cases_Bool, false≢true}
use Rattle.std.proofs.lemmas.List.{length-map, map_push, take_more, drop_more}
use Rattle.std.proofs.lemmas.List.Elements.{All-nil, All-cons, All-contains, Contains-push_cases}
use Rattle.std.proofs.lemmas.Option.{same_Some, none-some, slice_get_within}
use Rattle.std.specs.Str.{bytes_eq}
use Rattle.std.specs.Cmp.Lexicographic.{bytes_decides}
use Rattle.scope_names.specs.Numbers.{counted}
use Rattle.graph_search.specs.Graph.{Graph, Path, here as at_once, step, IsGraph, IsWithin, ArePairsBelow, IsMarkedFrom, marked}
use Rattle.graph_search.specs.Marks.{AreBelow}
use Rattle.php_rows.specs.declared.file.RowTree.{RowTree}
use Rattle.program_names.specs.Entries.{AreFiles, first_absent, paths_of}
use Rattle.program_names.specs.Files.{Files}
use Rattle.program_names.specs.Table.{Table, table_of, Includes, Reaches, here, through, IsReached, Completes, done, reached, added, has_text}
use Rattle.declared_twice.specs.Includes.{ArePairs, IsGraphOf, IsIncludeGraph}
use Rattle.declared_twice.specs.Marked.{Marked}
use Rattle.declared_twice.proofs.MarkedLemmas.{marked_path, marked_more}

-- ---- graphs

-- the graph of some pairs is that of their relation
pub graph_of_pairs : (n : ℕ) (R : ℕ → ℕ → Type 0) (ps : List (ℕ × ℕ)) (g : Graph) → ArePairs ps R → IsGraph n ps g → IsGraphOf n R g
graph_of_pairs n R ps g p i = record {
  size = i.size;
  listed = λ a b e. p.listed a b (i.listed a b e);
  all = λ a b r. i.all a b (p.all a b r);
}

-- a file that includes another is one of the table's
includer_within : (paths : List (List ℕ)) (t : Table) (a b : ℕ) → Includes paths t a b → a < length t
includer_within paths t a b i = slice_get_within t a i.facts i.of

included_within : (paths : List (List ℕ)) (t : Table) (a b : ℕ) → Includes paths t a b → b < length paths
included_within paths t a b i = slice_get_within paths b i.path i.is

pub pairs_below : (paths : List (List ℕ)) (t : Table) (ps : List (ℕ × ℕ)) (n : ℕ) → n ≡ length t → ArePairs ps (Includes paths t) → ArePairsBelow n ps
pairs_below paths t ps n e p a b c = subst (λ (k : ℕ). a < k) (sym e) (includer_within paths t a b (p.listed a b c))

pub includes_within : (paths : List (List ℕ)) (t : Table) (g : Graph) → length paths ≡ length t → IsIncludeGraph paths t g → IsWithin g
includes_within paths t g l i a b e = subst (λ (k : ℕ). b < k) (l ∙ sym i.size) (included_within paths t a b (i.listed a b e))

-- ---- what files reach

pub path_reaches : (paths : List (List ℕ)) (t : Table) (g : Graph) (a b : ℕ) → length paths ≡ length t → IsIncludeGraph paths t g → a < length t → Path g a b → Reaches paths t a b
path_reaches paths t g _ _ l i w (at_once a) = here a w
path_reaches paths t g _ _ l i w (step a b c e p) =
    through a b c (i.listed a b e) (path_reaches paths t g b c l i (subst (λ (k : ℕ). b < k) l (included_within paths t a b (i.listed a b e))) p)

pub reaches_path : (paths : List (List ℕ)) (t : Table) (g : Graph) (a b : ℕ) → IsIncludeGraph paths t g → Reaches paths t a b → Path g a b
reaches_path paths t g _ _ i (here f w) = at_once f
reaches_path paths t g _ _ i (through f h k n r) = step f h k (i.all f h n) (reaches_path paths t g h k i r)

-- what is marked is reached
pub is_reached : (paths : List (List ℕ)) (t : Table) (g : Graph) (es : List ℕ) (ms : List Bool) (f : ℕ) → length paths ≡ length t → IsIncludeGraph paths t g →
    AreBelow es (length t) → Marked g es ms → marked ms f ≡ true → IsReached paths t es f
is_reached paths t g es ms f l i w m h =
    let s = m.sound f h in
    (s.0, s.1, path_reaches paths t g s.0 f l i (w s.0 s.1) s.2)

-- and the other way round
pub is_marked : (paths : List (List ℕ)) (t : Table) (g : Graph) (es : List ℕ) (ms : List Bool) (f : ℕ) → IsIncludeGraph paths t g →
    Marked g es ms → IsReached paths t es f → marked ms f ≡ true
is_marked paths t g es ms f i m r = marked_path g es ms r.0 f m r.1 (reaches_path paths t g r.0 f i r.2)

-- ---- entries, one after another

pub counted_more : (f n : ℕ) → f < n → counted f (n - f) ≡ f ∷ counted (f + 1) (n - (f + 1))
counted_more f n l =
    let left : n - f ≡ suc (n - (f + 1)) = omega (arith, l) in
    let next : suc f ≡ f + 1 = omega arith in
    ap (λ (k : ℕ). counted f k) left ∙ ap (λ (k : ℕ). f ∷ counted k (n - (f + 1))) next

counted_within : (f n b : ℕ) → All (λ (k : ℕ). k < f + n) (counted f n)
counted_within f zero b = All-nil (λ (k : ℕ). k < f + 0)
counted_within f (suc n) b =
    let first : f < f + suc n = omega arith in
    let next : suc f + n ≡ f + suc n = omega arith in
    All-cons (λ (k : ℕ). k < f + suc n) f (counted (suc f) n) first (subst (λ (m : ℕ). All (λ (k : ℕ). k < m) (counted (suc f) n)) next (counted_within (suc f) n b))

pub counted_below : (n : ℕ) → AreBelow (counted 0 n) n
counted_below n b c =
    let whole : 0 + n ≡ n = omega arith in
    subst (λ (m : ℕ). b < m) whole (All-contains (λ (k : ℕ). k < 0 + n) (counted 0 n) b (counted_within 0 n b) c)

-- Some entries are those so far: what completes them completes the first ones.
pub record SoFar (paths : List (List ℕ)) (t : Table) (g : Graph) (first : List ℕ) (f : ℕ) (es : List ℕ) (ms : List Bool) : Type 0 where
  pub marks : Marked g es ms
  pub within : AreBelow es (length t)
  pub rest : (out : List ℕ) → Completes paths t es (counted f (length paths - f)) out → Completes paths t first (counted 0 (length paths)) out

pub so_far_first : (paths : List (List ℕ)) (t : Table) (g : Graph) (es : List ℕ) (ms : List Bool) → AreBelow es (length t) → Marked g es ms → SoFar paths t g es 0 es ms
so_far_first paths t g es ms w m = record {
  marks = m;
  within = w;
  rest = λ out h. subst (λ (k : ℕ). Completes paths t es (counted 0 k) out) whole h;
}
  where
    whole : length paths - 0 ≡ length paths
    whole = omega arith

-- a file that is reached
pub so_far_reached : (paths : List (List ℕ)) (t : Table) (g : Graph) (first : List ℕ) (f : ℕ) (es : List ℕ) (ms : List Bool) → length paths ≡ length t → IsIncludeGraph paths t g →
    f < length paths → marked ms f ≡ true → SoFar paths t g first f es ms → SoFar paths t g first (f + 1) es ms
so_far_reached paths t g first f es ms l i w h s = record {
  marks = s.marks;
  within = s.within;
  rest = λ out k. s.rest out (subst (λ (fs : List ℕ). Completes paths t es fs out) (sym (counted_more f (length paths) w))
      (reached es (counted (f + 1) (length paths - (f + 1))) out f (is_reached paths t g es ms f l i s.within s.marks h) k));
}

-- one that is not
pub so_far_added : (paths : List (List ℕ)) (t : Table) (g : Graph) (first : List ℕ) (f : ℕ) (es : List ℕ)
    (ms new : List Bool) → length paths ≡ length t → IsIncludeGraph paths t g →
    f < length paths → marked ms f ≡ false → IsMarkedFrom g f ms new → SoFar paths t g first f es ms → SoFar paths t g first (f + 1) (es ++ f ∷ []) new
so_far_added paths t g first f es ms new l i w h n s = record {
  marks = marked_more g es f ms new s.marks n;
  within = λ e c. within e (Contains-push_cases es f e c);
  rest = λ out k. s.rest out (subst (λ (fs : List ℕ). Completes paths t es fs out) (sym (counted_more f (length paths) w))
      (added es (counted (f + 1) (length paths - (f + 1))) out f (λ r. false≢true (sym h ∙ is_marked paths t g es ms f i s.marks r)) k));
}
  where
    within : (e : ℕ) → Contains es e ⊎ (f ≡ e) → e < length t
    within e (inl c) = s.within e c
    within e (inr q) = subst (λ (x : ℕ). x < length t) q (subst (λ (k : ℕ). f < k) l w)

pub so_far_last : (paths : List (List ℕ)) (t : Table) (g : Graph) (first : List ℕ) (f : ℕ) (es : List ℕ) (ms : List Bool) → length paths ≤ f → SoFar paths t g first f es ms →
    Completes paths t first (counted 0 (length paths)) es
so_far_last paths t g first f es ms l s = s.rest es (subst (λ (k : ℕ). Completes paths t es (counted f k) es) none (done es))
  where
    none : 0 ≡ length paths - f
    none = omega (arith, l)

-- ---- paths that are asked for

-- the path of a file is among the paths
pub has_path : (paths : List (List ℕ)) (w : List ℕ) (f : ℕ) → slice_get paths f ≡ Some w → has_text w paths ≡ true
has_path [] w f e = absurd (none-some w e)
has_path (p ∷ ps) w zero e = or_left (bytes_eq w p) (has_text w ps) ((bytes_decides w p).1 (sym (same_Some p w e)))
has_path (p ∷ ps) w (suc f) e = or_right (bytes_eq w p) (has_text w ps) (has_path ps w f e)

path_place : (paths : List (List ℕ)) (w : List ℕ) → has_text w paths ≡ true → (f : ℕ) × (slice_get paths f ≡ Some w)
path_place [] w h = absurd (false≢true h)
path_place (p ∷ ps) w h = at (path_place ps w) (or_cases (bytes_eq w p) (has_text w ps) h)
  where
    at : (has_text w ps ≡ true → (f : ℕ) × (slice_get ps f ≡ Some w)) → (bytes_eq w p ≡ true) ⊎ (has_text w ps ≡ true) → (f : ℕ) × (slice_get (p ∷ ps) f ≡ Some w)
    at more (inl e) = (0, ap (λ (x : List ℕ). Some x) (sym ((bytes_decides w p).0 e)))
    at more (inr k) = let r = more k in (suc r.0, r.1)

-- a path that no file has is none of the paths
pub no_path : (paths : List (List ℕ)) (w : List ℕ) → ((f : ℕ) → slice_get paths f ≡ Some w → ⊥) → has_text w paths ≡ false
no_path paths w none = at (cases_Bool (has_text w paths))
  where
    at : (has_text w paths ≡ true) ⊎ (has_text w paths ≡ false) → has_text w paths ≡ false
    at (inl h) = let r = path_place paths w h in absurd (none r.0 r.1)
    at (inr h) = h

-- the files of some paths are among all
all_below : (paths ws : List (List ℕ)) (ns : List ℕ) → AreFiles paths ws ns → All (λ f. f < length paths) ns
all_below paths [] [] e = All-nil (λ (f : ℕ). f < length paths)
all_below paths [] (n ∷ ns) e = absurd (cc)
all_below paths (w ∷ ws) [] e = absurd (cc)
all_below paths (w ∷ ws) (n ∷ ns) e =
    let first : slice_get paths n ≡ Some w = cc in
    let more : AreFiles paths ws ns = cc in
    All-cons (λ (f : ℕ). f < length paths) n ns (slice_get_within paths n w first) (all_below paths ws ns more)

pub files_below : (paths ws : List (List ℕ)) (ns : List ℕ) → AreFiles paths ws ns → AreBelow ns (length paths)
files_below paths ws ns e b c = All-contains (λ (f : ℕ). f < length paths) ns b (all_below paths ws ns e) c

-- and none of the paths is absent
pub none_absent : (paths ws : List (List ℕ)) (ns : List ℕ) → AreFiles paths ws ns → first_absent paths ws ≡ None
none_absent paths [] ns e = refl
none_absent paths (w ∷ ws) [] e = absurd (cc)
none_absent paths (w ∷ ws) (n ∷ ns) e =
    let first : slice_get paths n ≡ Some w = cc in
    let more : AreFiles paths ws ns = cc in
    let has : has_text w paths ≡ true = has_path paths w n first in
    rw has (none_absent paths ws ns more)

-- one more file
pub files_push : (paths ws : List (List ℕ)) (ns : List ℕ) (w : List ℕ) (n : ℕ) → AreFiles paths ws ns → slice_get paths n ≡ Some w → AreFiles paths (ws ++ w ∷ []) (ns ++ n ∷ [])
files_push paths ws ns w n e s =
    map_push (λ (f : ℕ). slice_get paths f) ns n
    ∙ ap (λ (xs : List (Option (List ℕ))). xs ++ slice_get paths n ∷ []) e
    ∙ ap (λ (x : Option (List ℕ)). map (λ (v : List ℕ). Some v) ws ++ x ∷ []) s
    ∙ sym (map_push (λ (v : List ℕ). Some v) ws w)

-- a path that a file has is not the first absent one
pub absent_past : (paths ws : List (List ℕ)) (w : List ℕ) (n : ℕ) → slice_get paths n ≡ Some w → first_absent paths (w ∷ ws) ≡ first_absent paths ws
absent_past paths ws w n e = let has : has_text w paths ≡ true = has_path paths w n e in rw has refl

-- one that no file has is
pub absent_here : (paths ws : List (List ℕ)) (w : List ℕ) → has_text w paths ≡ false → first_absent paths (w ∷ ws) ≡ Some w
absent_here paths ws w h = rw h refl

-- the absent path among some paths and others
pub absent_first : (paths ws vs : List (List ℕ)) (p : List ℕ) → first_absent paths ws ≡ Some p → first_absent paths (ws ++ vs) ≡ Some p
absent_first paths [] vs p e = absurd (none-some p e)
absent_first paths (w ∷ ws) vs p e = at (has_text w paths) refl (absent_first paths ws vs p)
  where
    at : (b : Bool) → has_text w paths ≡ b → (first_absent paths ws ≡ Some p → first_absent paths (ws ++ vs) ≡ Some p) → first_absent paths (w ∷ (ws ++ vs)) ≡ Some p
    at true h more = rw h (more (rw h at e))
    at false h more = rw h (rw h at e)

pub absent_behind : (paths ws vs : List (List ℕ)) → first_absent paths ws ≡ None → first_absent paths (ws ++ vs) ≡ first_absent paths vs
absent_behind paths [] vs e = refl
absent_behind paths (w ∷ ws) vs e = at (has_text w paths) refl (absent_behind paths ws vs)
  where
    at : (b : Bool) → has_text w paths ≡ b → (first_absent paths ws ≡ None
        → first_absent paths (ws ++ vs) ≡ first_absent paths vs)
        → first_absent paths (w ∷ (ws ++ vs)) ≡ first_absent paths vs
    at true h more = rw h (more (rw h at e))
    at false h more = absurd (none-some w (sym (rw h at e)))

-- as many paths and tables as files
pub length_paths : (fs : Files) → length (paths_of fs) ≡ length fs
length_paths fs = length-map fs (λ (f : List ℕ × RowTree). f.0)

pub length_table : (fs : Files) → length (table_of fs) ≡ length fs
length_table [] = refl
length_table (f ∷ fs) = ap (λ (n : ℕ). suc n) (length_table fs)

pub same_length : (fs : Files) → length (paths_of fs) ≡ length (table_of fs)
same_length fs = length_paths fs ∙ sym (length_table fs)

-- one more element
pub take_item : {X : Type 0} (xs : List X) (i : ℕ) (x : X) → i < length xs → x ≡ get_or xs i x → take (i + 1) xs ≡ take i xs ++ x ∷ []
take_item {X} xs i x l e = take_more xs i x l ∙ ap (λ (y : X). take i xs ++ y ∷ []) (sym e)

pub drop_item : {X : Type 0} (xs : List X) (i : ℕ) (x : X) → i < length xs → x ≡ get_or xs i x → drop i xs ≡ x ∷ drop (i + 1) xs
drop_item {X} xs i x l e = drop_more xs i x l ∙ ap (λ (y : X). y ∷ drop (i + 1) xs) (sym e)
