-- The places of the names stand for the classes of some files.
use Rattle.std.proofs.Common.{◌≡◌, ◌<◌, ℕ, List, [], length, map, get_or, refl, sym, subst, ◌∙◌}
use Rattle.std.specs.Prelude.{Contains, Option, Some, None, Vec}
use Rattle.std.specs.declared.alloc.Global.{Global}
use Rattle.std.specs.List.{All}
use Rattle.file_declarations.specs.declared.told.Told.{Told}
use Rattle.file_declarations.specs.declared.told.Told.TheVariants as told
use Rattle.program_names.specs.Files.{Files}
use Rattle.program_names.specs.Table.{Table, Extends, IsCycle, IsFirstCycle, table_of}
use Rattle.program_names.specs.Told.{all_told}
use Rattle.class_cycles.specs.Circuits.{Pairs, AreWithin, IsFirstCircuit, IsCircuitAnswer}
use Rattle.class_cycles.specs.Names.{AreOnce, linked, pairs_of}
use Rattle.class_cycles.proofs.ListLemmas.{any_default}
use Rattle.class_cycles.proofs.PlaceLemmas.{place_some}
use Rattle.class_cycles.proofs.LinkLemmas.{IsLink, place_is, pair_listed, pair_all, both_linked}
use Rattle.class_cycles.proofs.CycleLemmas.{Stand, Placed, name_at, all_below, no_cycle, first_named}
use Rattle.class_cycles.proofs.ToldLaws.{told_of, extends_of}

pub pairs_within : (names : List (List ℕ)) (ts : List Told) → AreWithin (length names) (pairs_of names ts)
pairs_within names ts = λ a b c. at a b (pair_listed names ts a b c)
  where
    at : (a b : ℕ) → IsLink ts names a b → (a < length names) × (b < length names)
    at a b l = ((place_is l.class names a l.at).0, (place_is l.parent names b l.to).0)

placed : (names : List (List ℕ)) (x : List ℕ) → Contains names x → Placed names x
placed names x c = record { place = c.0; within = c.1; is = any_default names c.0 [] x c.1 ∙ c.2 }

stands : (files : Files) (ts : List Told) (names : List (List ℕ)) → ts ≡ all_told (table_of files) → AreOnce (linked ts) names → Stand (table_of files) names (pairs_of names ts)
stands files ts names e o = record {
  ascending = o.ascending;
  within = pairs_within names ts;
  forth = λ a b c. forth a b (pair_listed names ts a b c);
  back = λ a b h k x. pair_all names ts (name_at names a) (name_at names b) a b (here (name_at names a) (name_at names b) x)
      (place_some (name_at names a) names a o.ascending h refl) (place_some (name_at names b) names b o.ascending k refl);
  child = λ x y k. placed names x (o.all x (both_linked ts x y (here x y k)).0);
  parent = λ x y k. placed names y (o.all y (both_linked ts x y (here x y k)).1);
}
  where
    t : Table
    t = table_of files

    here : (x y : List ℕ) → Extends t x y → Contains ts (told.Extends x y)
    here x y k = subst (λ (us : List Told). Contains us (told.Extends x y)) (sym e) (told_of t x y k)

    forth : (a b : ℕ) → IsLink ts names a b → Extends t (name_at names a) (name_at names b)
    forth a b l =
        subst (λ (x : List ℕ). Extends t x (name_at names b)) (sym (place_is l.class names a l.at).1)
        (subst (λ (y : List ℕ). Extends t l.class y) (sym (place_is l.parent names b l.to).1)
        (extends_of files l.class l.parent (subst (λ (us : List Told). Contains us (told.Extends l.class l.parent)) e l.among)))

-- what an answer says, of pairs and an answer that are given by equations
pub none_found : (ts : List Told) (names : List (List ℕ)) (ps : Pairs) (o : Option (Vec ℕ Global))
    → AreOnce (linked ts) names → ps ≡ pairs_of names ts → o ≡ None → IsCircuitAnswer ps o →
    (files : Files) → ts ≡ all_told (table_of files) → (ns : List (List ℕ)) → ¬ IsCycle (table_of files) ns
none_found ts names ps o a e f r files g =
    no_cycle (table_of files) names (pairs_of names ts) (stands files ts names g a)
    (subst (λ (qs : Pairs). IsCircuitAnswer qs None) e (subst (λ (q : Option (Vec ℕ Global)). IsCircuitAnswer ps q) f r))

pub first_found : (ts : List Told) (names : List (List ℕ)) (ps : Pairs) (v : Vec ℕ Global) (o : Option (Vec ℕ Global)) (out : List (List ℕ)) →
    AreOnce (linked ts) names → ps ≡ pairs_of names ts → o ≡ Some v → IsCircuitAnswer ps o → out ≡ map (λ i. get_or names i []) v.items →
    (files : Files) → ts ≡ all_told (table_of files) → IsFirstCycle (table_of files) out
first_found ts names ps v o out a e f r q files g =
    subst (λ (ns : List (List ℕ)). IsFirstCycle (table_of files) ns) (sym q)
    (first_named (table_of files) names (pairs_of names ts) (stands files ts names g a) v.items
    (subst (λ (qs : Pairs). IsFirstCircuit qs v.items) e (subst (λ (p : Option (Vec ℕ Global)). IsCircuitAnswer ps p) f r)))

pub found_within : (ts : List Told) (names : List (List ℕ)) (ps : Pairs) (v : Vec ℕ Global) (o : Option (Vec ℕ Global)) → ps ≡ pairs_of names ts → o ≡ Some v →
    IsCircuitAnswer ps o → All (λ i. i < length names) v.items
found_within ts names ps v o e f r =
    let k : IsFirstCircuit ps v.items = subst (λ (p : Option (Vec ℕ Global)). IsCircuitAnswer ps p) f r in
    all_below (length names) ps v.items (subst (λ (qs : Pairs). AreWithin (length names) qs) (sym e) (pairs_within names ts)) k.is
