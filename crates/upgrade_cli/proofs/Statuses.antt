-- Each status comes where it should.
use Rattle.std.proofs.Common.{◌≡◌, ℕ, Bool, true, false, List, [], ◌∷◌, refl, ap, ap₂, ◌∙◌, sym, subst, inl, inr}
use Rattle.std.specs.Prelude.{◌⊎◌, Option, Some, None, IfSome, Result, Ok, Err, ◌==◌}
use Rattle.command_words.specs.Words.{Asked}
use Rattle.php_tree.specs.Tree.{File}
use Rattle.php_tree.specs.declared.version.Version.TheVariants.{V74}
use Rattle.php_reading.proofs.Trees.{one_tree}
use Rattle.io_ports.specs.Files as ports
use Rattle.io_ports.specs.Files.{content}
use Rattle.rule_tables.specs.SettingsView.{SettingsView}
use Rattle.upgrade_core.specs.declared.fault.LimitFault.{LimitFault}
use Rattle.resolved_names.specs.declared.names_fault.NamesFault.{NamesFault}
use Rattle.resolved_names.specs.declared.names_fault.NamesFault.TheVariants as names
use Rattle.upgrade_core.specs.Names.{AreResolved, IsNamesFault}
use Rattle.upgrade_core.specs.Files.{Trees}
use Rattle.upgrade_core.specs.Trees.{AreRead, IsFirstUnread}
use Rattle.upgrade_cli.specs.declared.stop.Status.{Status}
use Rattle.upgrade_cli.specs.declared.stop.Status.TheVariants as status
use Rattle.upgrade_cli.specs.declared.stop.Stop.{Stop}
use Rattle.upgrade_cli.specs.declared.stop.Stop.TheVariants as stop
use Rattle.upgrade_cli.specs.declared.stop.Summary.{Summary}
use Rattle.upgrade_cli.specs.Ready.{first_limit, said}
use Rattle.upgrade_cli.specs.Outcome.{name_of, counts, Comes, ComesBy, ComesWith, IsOutcome}
use Rattle.report_handing.specs.Sinks.{Sinks}
use Rattle.upgrade_cli.specs.Run.{of_done, status_of, Answers, IsExact, LinePut, Outside, Told}
use Rattle.upgrade_cli.specs.Whole.{IsUsage, IsNotUsage, IsDoing}

-- ---- statuses alone

-- a fault and want of memory answer whatever is wanted
of_fault : (result wanted : Status) → Answers result status.Fault → Answers result wanted
of_fault status.Done wanted h = cc
of_fault status.Reported wanted h = cc
of_fault status.Usage wanted h = cc
of_fault status.Source wanted h = cc
of_fault status.Settings wanted h = cc
of_fault status.Names wanted h = cc
of_fault status.Limit wanted h = cc
of_fault status.Fault wanted h = tt
of_fault status.Memory wanted h = tt

of_memory : (result wanted : Status) → Answers result status.Memory → Answers result wanted
of_memory status.Done wanted h = cc
of_memory status.Reported wanted h = cc
of_memory status.Usage wanted h = cc
of_memory status.Source wanted h = cc
of_memory status.Settings wanted h = cc
of_memory status.Names wanted h = cc
of_memory status.Limit wanted h = cc
of_memory status.Fault wanted h = tt
of_memory status.Memory wanted h = tt

-- where all was done the words were not refused
not_usage : (b : Bool) → status.Usage ≡ of_done b → ⊥
not_usage true e = cc
not_usage false e = cc

usage_is : (came : Result Summary Stop) → status.Usage ≡ status_of came → came ≡ Err stop.Usage
usage_is (Ok s) e = absurd (not_usage (s.stops == 0) e)
usage_is (Err stop.Usage) e = refl
usage_is (Err (stop.Limit l)) e = cc
usage_is (Err stop.NoSettings) e = cc
usage_is (Err (stop.Settings fault)) e = cc
usage_is (Err (stop.Source path)) e = cc
usage_is (Err (stop.Names fault)) e = cc
usage_is (Err stop.SourceFault) e = cc
usage_is (Err stop.SinkFault) e = cc
usage_is (Err stop.TargetFault) e = cc
usage_is (Err stop.Memory) e = cc

-- ---- refused words

-- they get the usage status
pub usage : (asked : Option Asked) (came : Result Summary Stop) (result : Status) → IsUsage asked came → Answers result (status_of came)
    → asked ≡ None → Answers result status.Usage
usage None came result (inl u) h e = subst (λ (x : Result Summary Stop). Answers result (status_of x)) u h
usage None came result (inr u) h e =
    of_memory result status.Usage (subst (λ (x : Result Summary Stop). Answers result (status_of x)) u h)
usage (Some a) came result u h e = absurd (let no : ⊥ = cc in no)

-- and no others do
pub usage_only : (asked : Option Asked) (came : Result Summary Stop) (result : Status) → IsUsage asked came → Answers result (status_of came)
    → result ≡ status.Usage → asked ≡ None
usage_only None came result u h e = refl
usage_only (Some a) came result u h e =
    absurd (u (usage_is came (subst (λ (x : Status). Answers x (status_of came)) e h)))

pub usage_came : (came : Result Summary Stop) (result : Status) → Answers result (status_of came) → result ≡ status.Usage
    → came ≡ Err stop.Usage
usage_came came result h e = usage_is came (subst (λ (x : Status). Answers x (status_of came)) e h)

-- ---- what the sources are

-- their trees are one list
read_once : (fs : List ports.File) (ts us : Trees) → AreRead fs ts → AreRead fs us → ts ≡ us
read_once [] [] [] r q = refl
read_once [] [] (u ∷ us) r q = absurd q
read_once [] (t ∷ ts) us r q = absurd r
read_once (f ∷ fs) [] us r q = absurd r
read_once (f ∷ fs) (t ∷ ts) [] r q = absurd q
read_once (f ∷ fs) (t ∷ ts) (u ∷ us) r q =
    ap₂ (λ (x : List ℕ × File) (xs : Trees). x ∷ xs)
    (ap₂ (λ (p : List ℕ) (x : File). (p, x)) (r.0.0 ∙ sym q.0.0) (one_tree V74 f.1 t.1 u.1 r.0.1 q.0.1))
    (read_once fs ts us r.1 q.1)

-- and all or not all have one
read_or_not : (fs : List ports.File) (ts : Trees) (path : List ℕ) → AreRead fs ts → IsFirstUnread fs path → ⊥
read_or_not [] ts path r u = u
read_or_not (f ∷ fs) [] path r u = r
read_or_not (f ∷ fs) (t ∷ ts) path r (inl u) = u.1 t.1 r.0.1
read_or_not (f ∷ fs) (t ∷ ts) path r (inr u) = read_or_not fs ts path r.1 u.1

-- names are refused or not
names_or_not : (settings : SettingsView) (trees : Trees) (n : NamesFault) → AreResolved settings trees → IsNamesFault settings trees n → ⊥
names_or_not settings trees (names.NoFile path) clear h = let found = clear.asked.found in let no : ⊥ = cc in no
names_or_not settings trees (names.Twice name first second) clear h = clear.once h.es h.p h.asked h.clash.i h.clash.j h.clash.clash.is
names_or_not settings trees (names.Cycle classes) clear h = clear.no_cycle classes.items h.cycle.is
names_or_not settings trees names.Memory clear h = h

-- so of the trees of one program
module _ (settings : SettingsView) (fs : List ports.File) (ts us : Trees) (n : NamesFault) (r : AreRead fs ts) (q : AreRead fs us) where
  clear_or_not : AreResolved settings ts → IsNamesFault settings us n → ⊥
  clear_or_not clear h =
      names_or_not settings us n (subst (λ (x : Trees). AreResolved settings x) (read_once fs ts us r q) clear) h

-- ---- each status

-- by settings
by_settings : (settings : SettingsView) (fs : List ports.File) (a b : Result Summary Stop)
    → ComesBy settings fs a → ComesBy settings fs b → status_of a ≡ status_of b
by_settings settings fs (Ok s) (Ok s') h k =
    ap (λ (x : Summary). status_of (Ok x))
    (h.2 ∙ ap (λ (ts : Trees). counts settings ts) (read_once fs h.0 k.0 h.1.read k.1.read) ∙ sym k.2)
by_settings settings fs (Ok s) (Err stop.Usage) h k = absurd k
by_settings settings fs (Ok s) (Err (stop.Limit l)) h k = absurd k
by_settings settings fs (Ok s) (Err stop.NoSettings) h k = absurd k
by_settings settings fs (Ok s) (Err (stop.Settings fault)) h k = absurd k
by_settings settings fs (Ok s) (Err (stop.Source path)) h k = absurd (read_or_not fs h.0 path h.1.read k)
by_settings settings fs (Ok s) (Err (stop.Names fault)) h k = absurd (clear_or_not settings fs h.0 k.0 k.2.0 h.1.read k.1 h.1.names k.2.1)
by_settings settings fs (Ok s) (Err stop.SourceFault) h k = absurd k
by_settings settings fs (Ok s) (Err stop.SinkFault) h k = absurd k
by_settings settings fs (Ok s) (Err stop.TargetFault) h k = absurd k
by_settings settings fs (Ok s) (Err stop.Memory) h k = absurd k
by_settings settings fs (Err (stop.Source p)) (Ok s) h k = absurd (read_or_not fs k.0 p k.1.read h)
by_settings settings fs (Err (stop.Source p)) (Err stop.Usage) h k = absurd k
by_settings settings fs (Err (stop.Source p)) (Err (stop.Limit l)) h k = absurd k
by_settings settings fs (Err (stop.Source p)) (Err stop.NoSettings) h k = absurd k
by_settings settings fs (Err (stop.Source p)) (Err (stop.Settings fault)) h k = absurd k
by_settings settings fs (Err (stop.Source p)) (Err (stop.Source q)) h k = refl
by_settings settings fs (Err (stop.Source p)) (Err (stop.Names fault)) h k = absurd (read_or_not fs k.0 p k.1 h)
by_settings settings fs (Err (stop.Source p)) (Err stop.SourceFault) h k = absurd k
by_settings settings fs (Err (stop.Source p)) (Err stop.SinkFault) h k = absurd k
by_settings settings fs (Err (stop.Source p)) (Err stop.TargetFault) h k = absurd k
by_settings settings fs (Err (stop.Source p)) (Err stop.Memory) h k = absurd k
by_settings settings fs (Err (stop.Names n)) (Ok s) h k = absurd (clear_or_not settings fs k.0 h.0 h.2.0 k.1.read h.1 k.1.names h.2.1)
by_settings settings fs (Err (stop.Names n)) (Err stop.Usage) h k = absurd k
by_settings settings fs (Err (stop.Names n)) (Err (stop.Limit l)) h k = absurd k
by_settings settings fs (Err (stop.Names n)) (Err stop.NoSettings) h k = absurd k
by_settings settings fs (Err (stop.Names n)) (Err (stop.Settings fault)) h k = absurd k
by_settings settings fs (Err (stop.Names n)) (Err (stop.Source q)) h k = absurd (read_or_not fs h.0 q h.1 k)
by_settings settings fs (Err (stop.Names n)) (Err (stop.Names fault)) h k = refl
by_settings settings fs (Err (stop.Names n)) (Err stop.SourceFault) h k = absurd k
by_settings settings fs (Err (stop.Names n)) (Err stop.SinkFault) h k = absurd k
by_settings settings fs (Err (stop.Names n)) (Err stop.TargetFault) h k = absurd k
by_settings settings fs (Err (stop.Names n)) (Err stop.Memory) h k = absurd k
by_settings settings fs (Err stop.Usage) b h k = absurd h
by_settings settings fs (Err (stop.Limit l)) b h k = absurd h
by_settings settings fs (Err stop.NoSettings) b h k = absurd h
by_settings settings fs (Err (stop.Settings fault)) b h k = absurd h
by_settings settings fs (Err stop.SourceFault) b h k = absurd h
by_settings settings fs (Err stop.SinkFault) b h k = absurd h
by_settings settings fs (Err stop.TargetFault) b h k = absurd h
by_settings settings fs (Err stop.Memory) b h k = absurd h

comes_once : (o : Option LimitFault) (says : Result SettingsView Stop) (fs : List ports.File) (a b : Result Summary Stop)
    → ComesWith o says fs a → ComesWith o says fs b → status_of a ≡ status_of b
comes_once (Some l) says fs a b h k = ap status_of (h ∙ sym k)
comes_once None (Err e) fs a b h k = ap status_of (h ∙ sym k)
comes_once None (Ok settings) fs a b h k = by_settings settings fs a b h k

module _ (content : Option (List ℕ)) (fs : List ports.File) (result : Status) (b : Result Summary Stop) (k : Comes content fs b) where
  settled : (a : Result Summary Stop) → Comes content fs a → Answers result (status_of a) → Answers result (status_of b)
  settled a o h =
      subst (λ (x : Status). Answers result x) (comes_once (first_limit content fs) (said content) fs a b o k) h

  on_outcome : (a : Result Summary Stop) → IsOutcome content fs a → Answers result (status_of a) → Answers result (status_of b)
  on_outcome (Ok s) o h = settled (Ok s) o h
  on_outcome (Err stop.Usage) o h = settled (Err stop.Usage) o h
  on_outcome (Err (stop.Limit l)) o h = settled (Err (stop.Limit l)) o h
  on_outcome (Err stop.NoSettings) o h = settled (Err stop.NoSettings) o h
  on_outcome (Err (stop.Settings fault)) o h = settled (Err (stop.Settings fault)) o h
  on_outcome (Err (stop.Source path)) o h = settled (Err (stop.Source path)) o h
  on_outcome (Err (stop.Names fault)) o h = settled (Err (stop.Names fault)) o h
  on_outcome (Err stop.SourceFault) o h = of_fault result (status_of b) h
  on_outcome (Err stop.SinkFault) o h = of_fault result (status_of b) h
  on_outcome (Err stop.TargetFault) o h = of_fault result (status_of b) h
  on_outcome (Err stop.Memory) o h = of_memory result (status_of b) h

pub exact : (asked : Asked) (stored fs : List ports.File) (came : Result Summary Stop) (result : Status)
    → IsOutcome (content (name_of asked) stored) fs came → Answers result (status_of came) → IsExact asked stored fs result
exact asked stored fs came result o h =
    λ b k. on_outcome (content (name_of asked) stored) fs result b k came o h

-- ---- the run

pub run_exact : (a : Option Asked) (ss fs before after : Option (List ports.File)) (old new : Sinks) (came : Result Summary Stop)
    (result : Status) → IfSome a (λ x. IfSome ss (λ st. IfSome fs (λ f. IsDoing x st f came old new before after)))
    → Answers result (status_of came) → IfSome a (λ x. IfSome ss (λ st. IfSome fs (λ f. IsExact x st f result)))
run_exact None ss fs before after old new came result h w = tt
run_exact (Some x) None fs before after old new came result h w = tt
run_exact (Some x) (Some st) None before after old new came result h w = tt
run_exact (Some x) (Some st) (Some f) before after old new came result h w = exact x st f came result h.outcome w

pub run_told : (a : Option Asked) (ss fs : Option (List ports.File)) (old new : Outside) (came : Result Summary Stop) (result : Status)
    → IfSome a (λ x. IfSome ss (λ st. IfSome fs (λ f. IsDoing x st f came old.sinks new.sinks old.target new.target)))
    → Answers result (status_of came) → IfSome old.held (λ held. LinePut result came held new.held old.faults new.faults)
    → IfSome a (λ x. IfSome ss (λ st. IfSome fs (λ f. Told x st f old new result)))
run_told None ss fs old new came result h w l = tt
run_told (Some x) None fs old new came result h w l = tt
run_told (Some x) (Some st) None old new came result h w l = tt
run_told (Some x) (Some st) (Some f) old new came result h w l = record {
  came = came;
  outcome = h.outcome;
  answer = w;
  sinks = h.sinks;
  target = h.target;
  line_put = l;
}

-- words that ask for something aren't refused
pub not_usage_is : (o : Option Asked) (a : Asked) (came : Result Summary Stop) → o ≡ Some a → IsNotUsage came → IsUsage o came
not_usage_is o a came e n =
    subst (λ (x : Option Asked). IsUsage x came) (sym e) (λ h. subst (λ (x : Result Summary Stop). IsNotUsage x) h n)
