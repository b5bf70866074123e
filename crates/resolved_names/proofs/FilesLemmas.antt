-- Files one after another.
use Rattle.std.specs.Prelude.{drop, map, option_map}
use Rattle.std.proofs.Common.{◌≡◌, ◌≤◌, ◌<◌, ◌⊎◌, inl, inr, ℕ, zero, suc, ◌+◌, List, [], ◌∷◌, ◌++◌, length, Option, Some, None, slice_get, get_or, refl, sym, ap, subst, ◌∙◌, append-nil, append_assoc, arith}
use Rattle.std.proofs.lemmas.Option.{slice_get-map, same_Some, none-some}
use Rattle.php_rows.specs.File.{file_in}
use Rattle.php_rows.specs.declared.file.RowTree.{RowTree}
use Rattle.node_names.specs.Facts.{Fact, file_facts}
use Rattle.node_names.specs.Slots.{NamedSlot}
use Rattle.node_facts.specs.declared.facts.FileFacts.{FileFacts}
use Rattle.node_facts.specs.declared.slot_name.SlotName.{SlotName}
use Rattle.node_facts.specs.Flat.{slots_listed, slots_named}
use Rattle.node_facts.specs.Named.{named_of}
use Rattle.node_facts.specs.Seen.{slot_in, slots_in}
use Rattle.file_declarations.specs.declared.declaration.Declaration.{Declaration}
use Rattle.program_names.specs.Files.{Files}
use Rattle.program_names.specs.Table.{Table, table_of}
use Rattle.slot_numbers.specs.Growing.{AreApart, Has, HasOnly, Keeps}
use Rattle.slot_numbers.specs.Keys.{Key, key_of, keys_of_pairs, keys_of_slots}
use Rattle.slot_numbers.proofs.NumberLemmas.{numbered_later, pairs_later}
use Rattle.resolved_names.specs.declared.file_names.FileNames.{FileNames}
use Rattle.resolved_names.specs.Index.{Entries}
use Rattle.resolved_names.specs.NodeReads.{AreFiles, IsFile}
use Rattle.resolved_names.specs.SlotReads.{AreNumberedFiles, AreSlotFiles, HasOnlyOf, IsKeyOf, IsSlotFile, IsSlotOf}

-- what the nodes of a file tell
abbrev pub told_by : List ℕ × RowTree → List Fact
told_by x = file_facts x.0 (file_in x.1).statements

-- what was found of the files before one with a number
pub record AreUpTo (es : Entries) (ds : List Declaration) (others : List (List ℕ)) (fs : Files) (ks : List Key) (i : ℕ) (rows : List FileNames) : Type 0 where
  pub names : (vs : List FileNames) → AreFiles es ds others vs (table_of (drop i fs)) → AreFiles es ds others (rows ++ vs) (table_of fs)
  pub numbered : (js : List Key) → Keeps ks js → (vs : List FileNames) → AreNumberedFiles js i (drop i fs) vs → AreNumberedFiles js 0 fs (rows ++ vs)
  pub only : (k : Key) → Has ks k → IsKeyOf fs k

-- none so far
pub none_up_to : (es : Entries) (ds : List Declaration) (others : List (List ℕ)) (fs : Files) (ks : List Key) → ks ≡ [] → AreUpTo es ds others fs ks 0 []
none_up_to es ds others fs ks e = record {
  names = λ vs h. h;
  numbered = λ js h vs n. n;
  only = λ k h. absurd (none-some k (subst (λ (xs : List Key). slice_get xs h.0 ≡ Some k) e h.1));
}

drop_next : (fs : Files) (i : ℕ) (x : List ℕ × RowTree) → slice_get fs i ≡ Some x → drop i fs ≡ x ∷ drop (suc i) fs
drop_next [] i x e = absurd (none-some x e)
drop_next (y ∷ fs) zero x e = ap (λ (z : List ℕ × RowTree). z ∷ fs) (same_Some y x e)
drop_next (y ∷ fs) (suc i) x e = drop_next fs i x e

drop_all : (fs : Files) (i : ℕ) → length fs ≤ i → drop i fs ≡ []
drop_all [] zero l = refl
drop_all [] (suc i) l = refl
drop_all (x ∷ fs) zero l = absurd (none_past (length fs) l)
  where
    none_past : (m : ℕ) → suc m ≤ zero → ⊥
    none_past m l = omega (arith, l)
drop_all (x ∷ fs) (suc i) l = drop_all fs i (omega (arith, l))

file_later : (ks js : List Key) (f : ℕ) (path : List ℕ) (v : FileNames) (xs : List Fact) → Keeps ks js → IsSlotFile ks f path v xs → IsSlotFile js f path v xs
file_later ks js f path v xs h s = record {
  facts = s.facts;
  told = s.told;
  slots = numbered_later ks js f s.facts.slots.items v.slots.items h s.slots;
  listed = pairs_later ks js f s.facts.listed.items v.listed.items h s.listed;
}

-- one file more
pub one_more : (es : Entries) (ds : List Declaration) (others : List (List ℕ)) (fs : Files) (ks js : List Key) (i : ℕ) (rows : List FileNames) (v : FileNames)
    (x : List ℕ × RowTree) → slice_get fs i ≡ Some x → AreUpTo es ds others fs ks i rows → IsFile es ds others v (told_by x)
    → IsSlotFile js i x.0 v (told_by x) → Keeps ks js → HasOnlyOf i x.0 (told_by x) ks js → AreUpTo es ds others fs js (suc i) (rows ++ v ∷ [])
one_more es ds others fs ks js i rows v x e u file slots keeps only = record {
  names = λ vs h.
      subst (λ (ws : List FileNames). AreFiles es ds others ws (table_of fs)) (sym (append_assoc rows (v ∷ []) vs))
      (u.names (v ∷ vs) (subst (λ (gs : Files). AreFiles es ds others (v ∷ vs) (table_of gs)) (sym (drop_next fs i x e)) (file, h)));
  numbered = λ ms h vs n.
      subst (λ (ws : List FileNames). AreNumberedFiles ms 0 fs ws) (sym (append_assoc rows (v ∷ []) vs))
      (u.numbered ms (λ j k d. h j k (keeps j k d)) (v ∷ vs)
      (subst (λ (gs : Files). AreNumberedFiles ms i gs (v ∷ vs)) (sym (drop_next fs i x e)) (file_later js ms i x.0 v (told_by x) h slots, n)));
  only = λ k h. known k (only k h);
}
  where
    known : (k : Key) → Has ks k ⊎ ((s : SlotName) × (k ≡ key_of i s) × IsSlotOf x.0 (told_by x) s) → IsKeyOf fs k
    known k (inl g) = u.only k g
    known k (inr (s, d, g)) = record { f = i; file = x; at = e; slot = s; key = d; named = g }

-- all files
pub all_names_are : (es : Entries) (ds : List Declaration) (others : List (List ℕ)) (fs : Files) (ks : List Key) (i : ℕ) (rows : List FileNames)
    → length fs ≤ i → AreUpTo es ds others fs ks i rows → AreFiles es ds others rows (table_of fs)
all_names_are es ds others fs ks i rows past u =
    subst (λ (vs : List FileNames). AreFiles es ds others vs (table_of fs)) (append-nil rows)
    (u.names [] (subst (λ (gs : Files). AreFiles es ds others [] (table_of gs)) (sym (drop_all fs i past)) tt))

pub all_slots_are : (es : Entries) (ds : List Declaration) (others : List (List ℕ)) (fs : Files) (ks : List Key) (i : ℕ) (rows : List FileNames) (n : ℕ)
    → length fs ≤ i → AreUpTo es ds others fs ks i rows → AreApart ks → n ≡ length ks → AreSlotFiles fs rows n
all_slots_are es ds others fs ks i rows n past u apart count = record {
  keys = ks;
  apart = apart;
  count = count;
  only = u.only;
  numbered = subst (λ (vs : List FileNames). AreNumberedFiles ks 0 fs vs) (append-nil rows)
      (u.numbered ks (λ j k d. d) [] (subst (λ (gs : Files). AreNumberedFiles ks i gs []) (sym (drop_all fs i past)) tt));
}

-- ---- the slots of a file

-- the key is that of one of these slots
pub record IsSlotKey (f : ℕ) (ss : List SlotName) (k : Key) : Type 0 where
  pub slot : SlotName
  pub key : k ≡ key_of f slot
  pub at : Has ss slot

slot_key : (f : ℕ) (ss : List SlotName) (i : ℕ) (k : Key) → slice_get (keys_of_slots f ss) i ≡ Some k → IsSlotKey f ss k
slot_key f [] i k e = absurd (none-some k e)
slot_key f (s ∷ ss) zero k e = record { slot = s; key = sym (same_Some (key_of f s) k e); at = (zero, refl) }
slot_key f (s ∷ ss) (suc i) k e = let r = slot_key f ss i k e in record { slot = r.slot; key = r.key; at = (suc r.at.0, r.at.1) }

pub record IsPairKey (f : ℕ) (ps : List (SlotName × SlotName)) (k : Key) : Type 0 where
  pub pair : SlotName × SlotName
  pub slot : SlotName
  pub key : k ≡ key_of f slot
  pub at : Has ps pair
  pub which : (pair.0 ≡ slot) ⊎ (pair.1 ≡ slot)

pair_key : (f : ℕ) (ps : List (SlotName × SlotName)) (i : ℕ) (k : Key) → slice_get (keys_of_pairs f ps) i ≡ Some k → IsPairKey f ps k
pair_key f [] i k e = absurd (none-some k e)
pair_key f (p ∷ ps) zero k e = record { pair = p; slot = p.0; key = sym (same_Some (key_of f p.0) k e); at = (zero, refl); which = inl refl }
pair_key f (p ∷ ps) (suc zero) k e = record { pair = p; slot = p.1; key = sym (same_Some (key_of f p.1) k e); at = (zero, refl); which = inr refl }
pair_key f (p ∷ ps) (suc (suc i)) k e =
    let r = pair_key f ps i k e in record { pair = r.pair; slot = r.slot; key = r.key; at = (suc r.at.0, r.at.1); which = r.which }

has_mapped : {A B : Type 0} (g : A → B) (xs : List A) (zs : List B) (x : A) → map g xs ≡ zs → Has xs x → Has zs (g x)
has_mapped {A} {B} g xs zs x e h =
    (h.0, ap (λ (l : List B). slice_get l h.0) (sym e) ∙ slice_get-map g xs h.0 ∙ ap (λ (o : Option A). option_map g o) h.1)

mapped_which : (path : List ℕ) (p : SlotName × SlotName) (s : SlotName) → (p.0 ≡ s) ⊎ (p.1 ≡ s)
    → (slot_in path p.0 ≡ slot_in path s) ⊎ (slot_in path p.1 ≡ slot_in path s)
mapped_which path p s (inl e) = inl (ap (λ (x : SlotName). slot_in path x) e)
mapped_which path p s (inr e) = inr (ap (λ (x : SlotName). slot_in path x) e)

-- each key that is new is that of a slot of the file
pub only_of : (f : ℕ) (path : List ℕ) (facts : FileFacts) (xs : List Fact) (old mid new : List Key)
    → map (slot_in path) facts.slots.items ≡ slots_named (map named_of xs)
    → map (slots_in path) facts.listed.items ≡ slots_listed (map named_of xs)
    → HasOnly old (keys_of_slots f facts.slots.items) mid → HasOnly mid (keys_of_pairs f facts.listed.items) new → HasOnlyOf f path xs old new
only_of f path facts xs old mid new slots listed first second k h = behind (second.each k h)
  where
    before : Has old k ⊎ Has (keys_of_slots f facts.slots.items) k → Has old k ⊎ ((s : SlotName) × (k ≡ key_of f s) × IsSlotOf path xs s)
    before (inl g) = inl g
    before (inr g) =
        let r = slot_key f facts.slots.items g.0 k g.1 in
        inr (r.slot, r.key, inl (has_mapped (slot_in path) facts.slots.items (slots_named (map named_of xs)) r.slot slots r.at))

    behind : Has mid k ⊎ Has (keys_of_pairs f facts.listed.items) k → Has old k ⊎ ((s : SlotName) × (k ≡ key_of f s) × IsSlotOf path xs s)
    behind (inl g) = before (first.each k g)
    behind (inr g) =
        let r = pair_key f facts.listed.items g.0 k g.1 in
        inr (
          r.slot,
          r.key,
          inr (
            slots_in path r.pair,
            has_mapped (slots_in path) facts.listed.items (slots_listed (map named_of xs)) r.pair listed r.at,
            mapped_which path r.pair r.slot r.which,
          ),
        )
