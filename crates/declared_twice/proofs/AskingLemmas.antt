-- What is asked of entries, and the answers.
use Rattle.std.proofs.Common.{◌≡◌, ◌<◌, ℕ, List, [], ◌∷◌, ◌++◌, length, refl, sym, ap, subst, ◌∙◌, Some, None, Option}
use Rattle.std.specs.Prelude.{Vec}
use Rattle.std.specs.Option.{ForSome}
use Rattle.std.specs.declared.alloc.Global.{Global}
use Rattle.std.proofs.lemmas.List.{append-nil}
use Rattle.std.proofs.lemmas.Option.{none-some, same_Some, slice_get_within}
use Rattle.scope_names.specs.Numbers.{counted}
use Rattle.graph_search.specs.Marks.{AreBelow}
use Rattle.program_names.specs.Entries.{AreEntries, IsPrepend, absent, asked, first_absent, paths_of}
use Rattle.program_names.specs.Files.{Files}
use Rattle.program_names.specs.Table.{table_of}
use Rattle.declared_twice.specs.Asked.{AreAll, AreEntriesOf, AreListed, IsAbsent, IsFault, listed_paths, one_path}
use Rattle.declared_twice.specs.declared.entries.Entries.{Entries}
use Rattle.declared_twice.specs.declared.entries_fault.EntriesFault.{EntriesFault}
use Rattle.declared_twice.specs.declared.entries_fault.EntriesFault.TheVariants.{NoFile, Memory}
use Rattle.declared_twice.proofs.EntryLemmas.{absent_behind, absent_first, absent_here, absent_past, counted_below, files_below, length_paths, none_absent}

-- a path that no file has is the first absent one where it stands first
pub fault_here : (paths ws : List (List ℕ)) (w : List ℕ) (e : EntriesFault) → IsAbsent paths w e → IsFault (first_absent paths (w ∷ ws)) e
fault_here paths ws w (NoFile p) h = absent_here paths ws w h.1 ∙ ap (λ (x : List ℕ). Some x) (sym h.0)
fault_here paths ws w Memory h = tt

fault_first : (paths ws vs : List (List ℕ)) (e : EntriesFault) → IsFault (first_absent paths ws) e → IsFault (first_absent paths (ws ++ vs)) e
fault_first paths ws vs (NoFile p) h = absent_first paths ws vs p h
fault_first paths ws vs Memory h = tt

asked_is : (listed : Option (List (List ℕ))) (prepend : Option (List ℕ)) → asked listed prepend ≡ listed_paths listed ++ one_path prepend
asked_is None None = refl
asked_is None (Some p) = refl
asked_is (Some ps) None = sym (append-nil ps)
asked_is (Some ps) (Some p) = refl

-- the fault of the list comes first
pub fault_of_list : (paths : List (List ℕ)) (listed : Option (List (List ℕ))) (prepend : Option (List ℕ)) (e : EntriesFault) →
    IsFault (first_absent paths (listed_paths listed)) e → IsFault (absent paths listed prepend) e
fault_of_list paths listed prepend e h =
    subst (λ (ws : List (List ℕ)). IsFault (first_absent paths ws) e) (sym (asked_is listed prepend)) (fault_first paths (listed_paths listed) (one_path prepend) e h)

-- no path of the list is absent
none_of_list : (paths : List (List ℕ)) (listed : Option (List (List ℕ))) (first : Option (Vec ℕ Global))
    → AreListed paths listed first → first_absent paths (listed_paths listed) ≡ None
none_of_list paths None None h = refl
none_of_list paths None (Some v) h = absurd h
none_of_list paths (Some ps) None h = absurd h
none_of_list paths (Some ps) (Some v) h = none_absent paths ps v.items h

absent_is : (paths : List (List ℕ)) (listed : Option (List (List ℕ))) (prepend : Option (List ℕ)) (first : Option (Vec ℕ Global)) → AreListed paths listed first →
    absent paths listed prepend ≡ first_absent paths (one_path prepend)
absent_is paths listed prepend first h =
    ap (λ (ws : List (List ℕ)). first_absent paths ws) (asked_is listed prepend)
    ∙ absent_behind paths (listed_paths listed) (one_path prepend) (none_of_list paths listed first h)

-- then the fault of the file before each entry
pub fault_of_prepend : (paths : List (List ℕ)) (listed : Option (List (List ℕ))) (prepend : Option (List ℕ))
    (first : Option (Vec ℕ Global)) (e : EntriesFault) → AreListed paths listed first →
    IsFault (first_absent paths (one_path prepend)) e → IsFault (absent paths listed prepend) e
fault_of_prepend paths listed prepend first e l h =
    subst (λ (o : Option (List ℕ)). IsFault o e) (sym (absent_is paths listed prepend first l)) h

pub listed_below : (fs : Files) (listed : Option (List (List ℕ))) (first : Option (Vec ℕ Global))
    → AreListed (paths_of fs) listed first → ForSome first (λ v. AreBelow v.items (length fs))
listed_below fs listed None h = λ x e. absurd (none-some x e)
listed_below fs None (Some v) h = absurd h
listed_below fs (Some ps) (Some v) h = λ x e.
    subst (λ (w : Vec ℕ Global). AreBelow w.items (length fs)) (same_Some v x e)
    (subst (λ (n : ℕ). AreBelow v.items n) (length_paths fs) (files_below (paths_of fs) ps v.items h))

none_of_prepend : (paths : List (List ℕ)) (prepend : Option (List ℕ)) (n : Option ℕ) → IsPrepend paths prepend n → first_absent paths (one_path prepend) ≡ None
none_of_prepend paths None n h = refl
none_of_prepend paths (Some p) None h = absurd h
none_of_prepend paths (Some p) (Some n) h = absent_past paths [] p n h

prepend_below : (fs : Files) (prepend : Option (List ℕ)) (n : Option ℕ) → IsPrepend (paths_of fs) prepend n → ForSome n (λ p. p < length fs)
prepend_below fs prepend None h = λ x e. absurd (none-some x e)
prepend_below fs None (Some n) h = absurd (cc)
prepend_below fs (Some p) (Some n) h = λ x e. subst (λ (m : ℕ). m < length fs) (same_Some n x e) (subst (λ (k : ℕ). n < k) (length_paths fs) (slice_get_within (paths_of fs) n p h))

entries_are : (fs : Files) (listed : Option (List (List ℕ))) (first : Option (Vec ℕ Global)) (all : List ℕ) → AreListed (paths_of fs) listed first → AreAll fs first all →
    AreEntries (paths_of fs) (table_of fs) listed all
entries_are fs None None all l a = a
entries_are fs None (Some v) all l a = absurd l
entries_are fs (Some ps) None all l a = absurd l
entries_are fs (Some ps) (Some v) all l a = (v.items, l, a.completes)

entries_below : (fs : Files) (first : Option (Vec ℕ Global)) (all : List ℕ) → AreAll fs first all → AreBelow all (length fs)
entries_below fs None all a = subst (λ (es : List ℕ). AreBelow es (length fs)) (sym a)
    (subst (λ (n : ℕ). AreBelow (counted 0 (length (paths_of fs))) n) (length_paths fs)
    (counted_below (length (paths_of fs))))
entries_below fs (Some v) all a = a.within

-- these are the entries
pub answered : (fs : Files) (listed : Option (List (List ℕ))) (prepend : Option (List ℕ)) (first : Option (Vec ℕ Global)) (e : Entries) →
    AreListed (paths_of fs) listed first → IsPrepend (paths_of fs) prepend e.prepend → AreAll fs first e.files.items → AreEntriesOf fs listed prepend e
answered fs listed prepend first e l p a = record {
  present = absent_is (paths_of fs) listed prepend first l ∙ none_of_prepend (paths_of fs) prepend e.prepend p;
  entries = entries_are fs listed first e.files.items l a;
  before = p;
  within = entries_below fs first e.files.items a;
  before_within = prepend_below fs prepend e.prepend p;
}
