-- What the resolution answers, from what its steps did.
use Rattle.std.proofs.Common.{◌≡◌, ℕ, List, Option, sym, subst}
use Rattle.std.specs.Prelude.{Result, Ok, Err, MatchResult}
use Rattle.program_names.specs.Entries.{paths_of, AreEntries, IsPrepend}
use Rattle.program_names.specs.Files.{Files}
use Rattle.program_names.specs.Table.{table_of}
use Rattle.declared_twice.specs.Asked.{AreEntriesOf}
use Rattle.declared_twice.specs.declared.entries.Entries.{Entries}
use Rattle.resolved_names.specs.declared.names.Names.{Names}
use Rattle.resolved_names.specs.declared.names_fault.NamesFault.{NamesFault}
use Rattle.resolved_names.specs.declared.names_fault.NamesFault.TheVariants.{Twice, Cycle, NoFile, Memory}
use Rattle.resolved_names.specs.Reads.{AreNames, entries_of, prepend_of}
use Rattle.resolved_names.specs.Resolved.{HasNoCycle, IsAsked, IsDeclaredOnce, IsLaterFault, IsNamesFault, IsResolved, IsUnrefused}

pub asked_is : (fs : Files) (listed : Option (List (List ℕ))) (prepend : Option (List ℕ)) (e : Entries) → AreEntriesOf fs listed prepend e →
    IsAsked (paths_of fs) (table_of fs) listed prepend e.files.items e.prepend
asked_is fs listed prepend e h = record { found = h.present; entries = h.entries; prepended = h.before }

pub later_is : (fs : Files) (listed : Option (List (List ℕ))) (prepend : Option (List ℕ)) (e : Entries) (fault : NamesFault) → AreEntriesOf fs listed prepend e →
    IsLaterFault (paths_of fs) (table_of fs) e.files.items e.prepend fault → IsNamesFault (paths_of fs) (table_of fs) listed prepend fault
later_is fs listed prepend e (NoFile path) h k = absurd k
later_is fs listed prepend e (Twice name first second) h k = record { es = e.files.items; p = e.prepend; asked = asked_is fs listed prepend e h; clash = k }
later_is fs listed prepend e (Cycle classes) h k = record { es = e.files.items; p = e.prepend; asked = asked_is fs listed prepend e h; once = k.0; cycle = k.1 }
later_is fs listed prepend e Memory h k = tt

pub resolved_is : (fs : Files) (listed : Option (List (List ℕ))) (prepend : Option (List ℕ)) (e : Entries) (ns : Names) → AreEntriesOf fs listed prepend e →
    IsDeclaredOnce (paths_of fs) (table_of fs) e.files.items e.prepend → HasNoCycle (table_of fs) → entries_of ns ≡ e.files.items → prepend_of ns ≡ e.prepend →
    AreNames ns (table_of fs) → IsResolved (paths_of fs) (table_of fs) listed prepend ns
resolved_is fs listed prepend e ns h once none es p names = record {
  asked = record {
    found = h.present;
    entries = subst (λ (xs : List ℕ). AreEntries (paths_of fs) (table_of fs) listed xs) (sym es) h.entries;
    prepended = subst (λ (o : Option ℕ). IsPrepend (paths_of fs) prepend o) (sym p) h.before;
  };
  once = subst (λ (o : Option ℕ). IsDeclaredOnce (paths_of fs) (table_of fs) (entries_of ns) o) (sym p)
      (subst (λ (xs : List ℕ). IsDeclaredOnce (paths_of fs) (table_of fs) xs e.prepend) (sym es) once);
  no_cycle = none;
  names = names;
}

pub unrefused_is : (fs : Files) (listed : Option (List (List ℕ))) (prepend : Option (List ℕ)) (e : Entries) → AreEntriesOf fs listed prepend e
    → IsDeclaredOnce (paths_of fs) (table_of fs) e.files.items e.prepend → HasNoCycle (table_of fs)
    → IsUnrefused (paths_of fs) (table_of fs) listed prepend
unrefused_is fs listed prepend e h once none = record {
  es = e.files.items;
  p = e.prepend;
  asked = record { found = h.present; entries = h.entries; prepended = h.before };
  once = once;
  no_cycle = none;
}

-- what is said of both answers, weakened
pub match_then : {A E : Type 0} (r : Result A E) (P P2 : A → Type 0) (Q Q2 : E → Type 0) → ((x : A) → P x → P2 x) → ((e : E) → Q e → Q2 e) →
    MatchResult r P Q → MatchResult r P2 Q2
match_then (Ok x) P P2 Q Q2 f g h = f x h
match_then (Err e) P P2 Q Q2 f g h = g e h
