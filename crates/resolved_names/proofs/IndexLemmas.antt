-- Declarations under the keys of their names.
use Rattle.std.specs.Prelude.{option_map, cond, Vec, is_some, IfSome, nat_eq}
use Rattle.std.specs.declared.alloc.Global.{Global}
use Rattle.std.specs.Cmp.Lexicographic.{bytes_decides}
use Rattle.std.specs.Map.{lookup, values_of}
use Rattle.std.specs.Str.{bytes_eq}
use Rattle.std.proofs.Common.{◌≡◌, ℕ, Bool, true, false, ◌&&◌, if◌then◌else◌, List, [], ◌∷◌, ◌++◌, Option, Some, None, slice_get, refl, sym, ap, ◌∙◌, append-nil}
use Rattle.std.proofs.lemmas.Bool.{true≢false}
use Rattle.std.proofs.lemmas.Option.{slice_get-map}
use Rattle.node_names.specs.declared.name_sort.NameSort.{NameSort}
use Rattle.node_names.specs.declared.name_sort.NameSort.TheVariants as sort
use Rattle.file_declarations.specs.declared.declaration.Declaration.{Declaration}
use Rattle.file_declarations.specs.declared.node_ref.NodeRef.{NodeRef}
use Rattle.file_declarations.specs.declared.told.Told.{Told}
use Rattle.file_declarations.specs.declared.told.Told.TheVariants.{Declares, Extends, Includes}
use Rattle.program_names.specs.Table.{declared_as, same_sort}
use Rattle.resolved_names.specs.Index.{Entries, IsIndex, declared_in, entry_at, items_if, kept, kept_at, key, keyed, sort_code}

-- ---- keys

sorts_same : (a b : NameSort) → nat_eq (sort_code a) (sort_code b) ≡ same_sort a b
sorts_same sort.Function sort.Function = refl
sorts_same sort.Function sort.Class = refl
sorts_same sort.Function sort.Constant = refl
sorts_same sort.Function sort.Method = refl
sorts_same sort.Function sort.ClassConstant = refl
sorts_same sort.Function sort.Property = refl
sorts_same sort.Class sort.Function = refl
sorts_same sort.Class sort.Class = refl
sorts_same sort.Class sort.Constant = refl
sorts_same sort.Class sort.Method = refl
sorts_same sort.Class sort.ClassConstant = refl
sorts_same sort.Class sort.Property = refl
sorts_same sort.Constant sort.Function = refl
sorts_same sort.Constant sort.Class = refl
sorts_same sort.Constant sort.Constant = refl
sorts_same sort.Constant sort.Method = refl
sorts_same sort.Constant sort.ClassConstant = refl
sorts_same sort.Constant sort.Property = refl
sorts_same sort.Method sort.Function = refl
sorts_same sort.Method sort.Class = refl
sorts_same sort.Method sort.Constant = refl
sorts_same sort.Method sort.Method = refl
sorts_same sort.Method sort.ClassConstant = refl
sorts_same sort.Method sort.Property = refl
sorts_same sort.ClassConstant sort.Function = refl
sorts_same sort.ClassConstant sort.Class = refl
sorts_same sort.ClassConstant sort.Constant = refl
sorts_same sort.ClassConstant sort.Method = refl
sorts_same sort.ClassConstant sort.ClassConstant = refl
sorts_same sort.ClassConstant sort.Property = refl
sorts_same sort.Property sort.Function = refl
sorts_same sort.Property sort.Class = refl
sorts_same sort.Property sort.Constant = refl
sorts_same sort.Property sort.Method = refl
sorts_same sort.Property sort.ClassConstant = refl
sorts_same sort.Property sort.Property = refl

-- under the key of a name are its declarations
pub keyed_is : (s : NameSort) (w : List ℕ) (ds : List Declaration) → keyed (key s w) ds ≡ declared_as s w ds
keyed_is s w [] = refl
keyed_is s w (d ∷ ds) =
    ap (λ (ns : List NodeRef). if nat_eq (sort_code d.name.sort) (sort_code s) && bytes_eq d.name.text w then d.at ∷ ns else ns) (keyed_is s w ds)
    ∙ ap (λ (b : Bool). if b && bytes_eq d.name.text w then d.at ∷ declared_as s w ds else declared_as s w ds) (sorts_same d.name.sort s)

keyed_if : (b : Bool) (at : NodeRef) (ns : List NodeRef) → (if b then at ∷ ns else ns) ≡ (if b then at ∷ [] else []) ++ ns
keyed_if true at ns = refl
keyed_if false at ns = refl

-- one more thing that is told
pub keyed_step : (w : List ℕ) (t : Told) (ts : List Told) → keyed w (declared_in (t ∷ ts)) ≡ keyed w (declared_in (t ∷ [])) ++ keyed w (declared_in ts)
keyed_step w (Declares d) ts = keyed_if (bytes_eq (key d.name.sort d.name.text) w) d.at (keyed w (declared_in ts))
keyed_step w (Extends c p) ts = refl
keyed_step w (Includes f path) ts = refl

-- ---- what is kept

same_lists : (xs ys : List ℕ) → bytes_eq xs ys ≡ true → xs ≡ ys
same_lists xs ys e = (bytes_decides xs ys).0 e

-- A list was taken out from under a key, and is there again with one node more.
pub put_kept : (old new : Entries) (k : Vec ℕ Global) (key : List ℕ) (at : NodeRef) (nodes : Vec NodeRef Global) →
    nodes.items ≡ kept old key ++ at ∷ [] →
    lookup (λ y. bytes_eq k.items y.items) new ≡ cond (bytes_eq key k.items) (Some nodes) (cond (bytes_eq key k.items) None (lookup (λ y. bytes_eq k.items y.items) old)) →
    kept new k.items ≡ kept old k.items ++ (if bytes_eq key k.items then at ∷ [] else [])
put_kept old new k key at nodes e h = elim (bytes_eq key k.items) as (λ b. bytes_eq key k.items ≡ b →
    lookup (λ y. bytes_eq k.items y.items) new ≡ cond b (Some nodes) (cond b None (lookup (λ y. bytes_eq k.items y.items) old)) →
    kept new k.items ≡ kept old k.items ++ (if b then at ∷ [] else [])) [
      | true ↦ λ same l. ap items_if l ∙ e ∙ ap (λ (xs : List ℕ). kept old xs ++ at ∷ []) (same_lists key k.items same)
      | false ↦ λ other l. ap items_if l ∙ sym (append-nil (kept old k.items))
    ] refl h

-- ---- what is found

values_at : (es : Entries) (i : ℕ) → items_if (slice_get (values_of es) i) ≡ entry_at (slice_get es i)
values_at es i = ap items_if (slice_get-map (λ e. e.1) es i) ∙ value_of (slice_get es i)
  where
    value_of : (o : Option (Vec ℕ Global × Vec NodeRef Global)) → items_if (option_map (λ e. e.1) o) ≡ entry_at o
    value_of None = refl
    value_of (Some e) = refl

none_if : (o : Option (Vec NodeRef Global)) → false ≡ is_some o → o ≡ None
none_if None e = refl
none_if (Some v) e = absurd (true≢false (sym e))

-- the place of a key
pub place_kept : (es : Entries) (ds : List Declaration) (s : NameSort) (w : List ℕ) (k : Vec ℕ Global) (o : Option ℕ) →
    k.items ≡ key s w → IsIndex es ds → is_some o ≡ is_some (lookup (λ y. bytes_eq k.items y.items) es) →
    IfSome o (λ i. slice_get (values_of es) i ≡ lookup (λ y. bytes_eq k.items y.items) es) → kept_at es o ≡ declared_as s w ds
place_kept es ds s w k None e index found value =
    sym (ap items_if (none_if (lookup (λ y. bytes_eq k.items y.items) es) found)) ∙ index k ∙ ap (λ (xs : List ℕ). keyed xs ds) e ∙ keyed_is s w ds
place_kept es ds s w k (Some i) e index found value =
    sym (values_at es i) ∙ ap items_if value ∙ index k ∙ ap (λ (xs : List ℕ). keyed xs ds) e ∙ keyed_is s w ds
