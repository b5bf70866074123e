-- From the parts of a run to what it comes to.
use Rattle.std.proofs.Common.{◌≡◌, ℕ, Bool, true, false, List, [], ◌∷◌, length, map, refl, ap, ap₂, sym, ◌∙◌, subst, inl, inr}
use Rattle.std.specs.Prelude.{◌⊎◌, Option, Some, None, IfSome, Result, Ok, Err, Vec}
use Rattle.std.proofs.lemmas.List.{length-map}
use Rattle.command_words.specs.Words.{Asked}
use Rattle.io_ports.specs.Files as ports
use Rattle.io_ports.specs.Files.{content}
use Rattle.io_ports.specs.declared.report.Report.{Report}
use Rattle.rule_tables.specs.SettingsView.{SettingsView}
use Rattle.report_handing.specs.Sinks.{Sinks}
use Rattle.resolved_names.specs.declared.names_fault.NamesFault.{NamesFault}
use Rattle.upgrade_core.specs.declared.fault.LimitFault.{LimitFault}
use Rattle.upgrade_core.specs.declared.fault.UpgradeFault.{UpgradeFault}
use Rattle.upgrade_core.specs.declared.fault.UpgradeFault.TheVariants as fault
use Rattle.upgrade_core.specs.declared.upgraded.Upgraded.{Upgraded}
use Rattle.upgrade_core.specs.Files.{file_of, Trees}
use Rattle.upgrade_core.specs.Limits.{limit_of}
use Rattle.upgrade_core.specs.Made.{IsOf}
use Rattle.upgrade_core.specs.Outcome as core
use Rattle.php_tree.specs.Tree.{File, file_printed}
use Rattle.upgrade_core.proofs.MadeLemmas.{reported_count}
use Rattle.upgrade_core.specs.Upgrade.{edits_in_all, reports_in_all, rewritten}
use Rattle.upgrade_cli.specs.declared.ready.Ready.{Ready}
use Rattle.upgrade_cli.specs.declared.stop.Stop.{Stop}
use Rattle.upgrade_cli.specs.declared.stop.Stop.TheVariants as stop
use Rattle.upgrade_cli.specs.declared.stop.Summary.{Summary}
use Rattle.upgrade_cli.specs.Ready.{first_limit, is_long, said, IsReady}
use Rattle.upgrade_cli.specs.Outcome.{
  name_of,
  writes,
  counts,
  Comes,
  ComesBy,
  ComesWith,
  Through,
  Planned,
  AreHanded,
  IsOutcome,
  SinksLeft,
  TargetLeft,
  planned_files,
  with_written,
}
use Rattle.upgrade_cli.specs.Run.{SinkCause}
use Rattle.upgrade_cli.specs.Stops.{IsNamesStop, IsUpgradeStop}
use Rattle.upgrade_cli.specs.Whole.{summary_of, IsUpgrading, IsWriting, IsOfWriting, IsDoing}
use Rattle.upgrade_cli.specs.Writing.{put_all, ArePut}

-- ---- where nothing is limited

no_limit : (content : Option (List ℕ)) (files : List ports.File) → first_limit content files ≡ None → limit_of files ≡ None
no_limit content files e = by (is_long content) refl
  where
    by : (b : Bool) → is_long content ≡ b → limit_of files ≡ None
    by true is = absurd (let no : ⊥ = cc in no)
    by false is = (rw is refl) ∙ e

-- what settings that are said come to
comes : (content : Option (List ℕ)) (files : List ports.File) (settings : SettingsView) (came : Result Summary Stop)
    → first_limit content files ≡ None → said content ≡ Ok settings → ComesBy settings files came → Comes content files came
comes content files settings came limits are h =
    subst (λ (o : Option LimitFault). ComesWith o (said content) files came) (sym limits)
    (subst (λ (r : Result SettingsView Stop). ComesWith None r files came) (sym are) h)

-- ---- the reading stops

pub reading_stops : (content : Option (List ℕ)) (files : List ports.File) (e : Stop) → IsReady content files (Err e)
    → IsOutcome content files (Err e)
reading_stops content files stop.Usage h = absurd h
reading_stops content files (stop.Limit l) h =
    subst (λ (o : Option LimitFault). ComesWith o (said content) files (Err (stop.Limit l))) (sym h) refl
reading_stops content files stop.NoSettings h =
    subst (λ (o : Option LimitFault). ComesWith o (said content) files (Err stop.NoSettings)) (sym h.0)
    (subst (λ (x : Result SettingsView Stop). ComesWith None x files (Err stop.NoSettings)) (sym h.1) refl)
reading_stops content files (stop.Settings fault) h =
    subst (λ (o : Option LimitFault). ComesWith o (said content) files (Err (stop.Settings fault))) (sym h.0)
    (subst (λ (x : Result SettingsView Stop). ComesWith None x files (Err (stop.Settings fault))) (sym h.1) refl)
reading_stops content files (stop.Source path) h = absurd h
reading_stops content files (stop.Names fault) h = absurd h
reading_stops content files stop.SourceFault h = tt
reading_stops content files stop.SinkFault h = absurd h
reading_stops content files stop.TargetFault h = absurd h
reading_stops content files stop.Memory h = tt

reading_sinks : (content : Option (List ℕ)) (files : List ports.File) (e : Stop) (sinks : Sinks) → IsReady content files (Err e)
    → SinksLeft content files (Err e) sinks sinks
reading_sinks content files stop.Usage sinks h = refl
reading_sinks content files (stop.Limit l) sinks h = refl
reading_sinks content files stop.NoSettings sinks h = refl
reading_sinks content files (stop.Settings fault) sinks h = refl
reading_sinks content files (stop.Source path) sinks h = refl
reading_sinks content files (stop.Names fault) sinks h = refl
reading_sinks content files stop.SourceFault sinks h = refl
reading_sinks content files stop.SinkFault sinks h = absurd h
reading_sinks content files stop.TargetFault sinks h = absurd h
reading_sinks content files stop.Memory sinks h = inl refl

reading_target : (w : Bool) (content : Option (List ℕ)) (files : List ports.File) (e : Stop) (target : List ports.File)
    → IsReady content files (Err e) → TargetLeft w content files (Err e) target (Some target)
reading_target w content files stop.Usage target h = refl
reading_target w content files (stop.Limit l) target h = refl
reading_target w content files stop.NoSettings target h = refl
reading_target w content files (stop.Settings fault) target h = refl
reading_target w content files (stop.Source path) target h = refl
reading_target w content files (stop.Names fault) target h = refl
reading_target w content files stop.SourceFault target h = refl
reading_target w content files stop.SinkFault target h = refl
reading_target w content files stop.TargetFault target h = absurd h
reading_target w content files stop.Memory target h = inl refl

pub reading_does : (asked : Asked) (ss fs : Option (List ports.File)) (e : Stop) (sinks : Sinks) (before : Option (List ports.File))
    → IfSome ss (λ st. IfSome fs (λ f. IsReady (content (name_of asked) st) f (Err e)))
    → IfSome ss (λ st. IfSome fs (λ f. IsDoing asked st f (Err e) sinks sinks before before))
reading_does asked None fs e sinks before h = tt
reading_does asked (Some st) None e sinks before h = tt
reading_does asked (Some st) (Some f) e sinks before h = record {
  outcome = reading_stops (content (name_of asked) st) f e h;
  sinks = reading_sinks (content (name_of asked) st) f e sinks h;
  target = by before;
}
  where
    by : (b : Option (List ports.File)) → IfSome b (λ x. TargetLeft (writes asked) (content (name_of asked) st) f (Err e) x b)
    by None = tt
    by (Some x) = reading_target (writes asked) (content (name_of asked) st) f e x h

-- ---- the upgrade

abbrev through : (content : Option (List ℕ)) (files : List ports.File) (r : Ready) (trees : Trees) → IsReady content files (Ok r)
    → core.IsClear r.settings (map file_of r.files.items) trees → Through content files
through content files r trees h clear = record {
  settings = r.settings;
  trees = trees;
  limits = h.1;
  are_said = h.2;
  clear = subst (λ (xs : List ports.File). core.IsClear r.settings xs trees) h.0 clear;
}

-- a stop of the upgrade
module _ (content : Option (List ℕ)) (files : List ports.File) (r : Ready) (h : IsReady content files (Ok r)) where
  -- where the names are refused
  names_refused : (n : NamesFault) (e : Stop) → IsNamesStop (map file_of r.files.items) n e
      → core.IsOutcome r.settings (map file_of r.files.items) (Err (fault.Names n)) → IsOutcome content files (Err e)
  names_refused n (stop.Names told) u o =
      comes content files r.settings (Err (stop.Names told)) h.1 h.2
      (subst (λ (xs : List ports.File). ComesBy r.settings xs (Err (stop.Names told))) h.0 (o.1, o.2, (n, o.3, u o.1 o.2)))
  names_refused n stop.Memory u o = tt
  names_refused n stop.Usage u o = absurd u
  names_refused n (stop.Limit l) u o = absurd u
  names_refused n stop.NoSettings u o = absurd u
  names_refused n (stop.Settings s) u o = absurd u
  names_refused n (stop.Source path) u o = absurd u
  names_refused n stop.SourceFault u o = absurd u
  names_refused n stop.SinkFault u o = absurd u
  names_refused n stop.TargetFault u o = absurd u

  names_left : (n : NamesFault) (e : Stop) (old new : Sinks) → IsNamesStop (map file_of r.files.items) n e → new ≡ old
      → SinksLeft content files (Err e) old new
  names_left n (stop.Names told) old new u s = s
  names_left n stop.Memory old new u s = inl s
  names_left n stop.Usage old new u s = absurd u
  names_left n (stop.Limit l) old new u s = absurd u
  names_left n stop.NoSettings old new u s = absurd u
  names_left n (stop.Settings x) old new u s = absurd u
  names_left n (stop.Source path) old new u s = absurd u
  names_left n stop.SourceFault old new u s = absurd u
  names_left n stop.SinkFault old new u s = absurd u
  names_left n stop.TargetFault old new u s = absurd u

  names_target : (w : Bool) (n : NamesFault) (e : Stop) (target : List ports.File) → IsNamesStop (map file_of r.files.items) n e
      → TargetLeft w content files (Err e) target (Some target)
  names_target w n (stop.Names told) target u = refl
  names_target w n stop.Memory target u = inl refl
  names_target w n stop.Usage target u = absurd u
  names_target w n (stop.Limit l) target u = absurd u
  names_target w n stop.NoSettings target u = absurd u
  names_target w n (stop.Settings x) target u = absurd u
  names_target w n (stop.Source path) target u = absurd u
  names_target w n stop.SourceFault target u = absurd u
  names_target w n stop.SinkFault target u = absurd u
  names_target w n stop.TargetFault target u = absurd u

  -- what a run comes to where the upgrade is refused
  is_refused : (e s : Stop) → e ≡ s → IsOutcome content files (Err s) → IsOutcome content files (Err e)
  is_refused e s u o = subst (λ (x : Stop). IsOutcome content files (Err x)) (sym u) o

  refused : (x : UpgradeFault) (e : Stop) → IsUpgradeStop (map file_of r.files.items) x e
      → core.IsOutcome r.settings (map file_of r.files.items) (Err x) → IsOutcome content files (Err e)
  refused (fault.Source path) e u o =
      is_refused e (stop.Source path) u
      (comes content files r.settings (Err (stop.Source path)) h.1 h.2
      (subst (λ (xs : List ports.File). ComesBy r.settings xs (Err (stop.Source path))) h.0 o.1))
  refused (fault.Names n) e u o = names_refused n e u o
  refused (fault.Limit l) e u o =
      let none = no_limit content files h.1 in
      let some : limit_of files ≡ Some l = subst (λ (xs : List ports.File). limit_of xs ≡ Some l) h.0 o in
      absurd (let no : ⊥ = cc in no)
  refused (fault.Sink at) e u o = is_refused e stop.SinkFault u (through content files r o.0 h o.1)
  refused fault.Memory e u o = is_refused e stop.Memory u tt

  abbrev planned : (rs : List Report) → core.ArePlanned r.settings (map file_of r.files.items) rs → Planned content files
  planned rs p = record { through = through content files r p.0 h p.1; reports = rs; are = p.2 }

  is_left : (e s : Stop) (old new : Sinks) → e ≡ s → SinksLeft content files (Err s) old new → SinksLeft content files (Err e) old new
  is_left e s old new u l = subst (λ (x : Stop). SinksLeft content files (Err x) old new) (sym u) l

  left : (x : UpgradeFault) (e : Stop) (old new : Sinks) → IsUpgradeStop (map file_of r.files.items) x e
      → core.AreLeft r.settings (map file_of r.files.items) (Err x) old new → SinksLeft content files (Err e) old new
  left (fault.Source path) e old new u s = is_left e (stop.Source path) old new u s
  left (fault.Names n) e old new u s = names_left n e old new u s
  left (fault.Limit l) e old new u s = is_left e (stop.Limit l) old new u s
  left (fault.Sink at) e old new u s = is_left e stop.SinkFault old new u (record {
    stopped = record { planned = planned s.0 s.1; at = at; handed = s.2 };
    rose = s.3;
  })
  left fault.Memory e old new u (inl s) = is_left e stop.Memory old new u (inl s)
  left fault.Memory e old new u (inr s) = is_left e stop.Memory old new u (inr (inl (record {
    stopped = record { planned = planned s.0 s.2; at = s.1; handed = s.3 };
    same = s.4;
  })))

  is_kept : (w : Bool) (e s : Stop) (target : List ports.File) → e ≡ s → TargetLeft w content files (Err s) target (Some target)
      → TargetLeft w content files (Err e) target (Some target)
  is_kept w e s target u l = subst (λ (x : Stop). TargetLeft w content files (Err x) target (Some target)) (sym u) l

  target_left : (w : Bool) (x : UpgradeFault) (e : Stop) (target : List ports.File) → IsUpgradeStop (map file_of r.files.items) x e
      → TargetLeft w content files (Err e) target (Some target)
  target_left w (fault.Source path) e target u = is_kept w e (stop.Source path) target u refl
  target_left w (fault.Names n) e target u = names_target w n e target u
  target_left w (fault.Limit l) e target u = is_kept w e (stop.Limit l) target u refl
  target_left w (fault.Sink at) e target u = is_kept w e stop.SinkFault target u refl
  target_left w fault.Memory e target u = is_kept w e stop.Memory target u (inl refl)

pub upgrade_does : (asked : Asked) (ss fs : Option (List ports.File)) (r : Ready) (e : Stop) (old new : Sinks) (before : Option (List ports.File))
    → IfSome ss (λ st. IfSome fs (λ f. IsReady (content (name_of asked) st) f (Ok r)))
    → IsUpgrading r.settings (map file_of r.files.items) (Err e) old new
    → IfSome ss (λ st. IfSome fs (λ f. IsDoing asked st f (Err e) old new before before))
upgrade_does asked None fs r e old new before h u = tt
upgrade_does asked (Some st) None r e old new before h u = tt
upgrade_does asked (Some st) (Some f) r e old new before h u = record {
  outcome = refused (content (name_of asked) st) f r h u.0 e u.1 u.2;
  sinks = left (content (name_of asked) st) f r h u.0 e old new u.1 u.3;
  target = by before;
}
  where
    by : (b : Option (List ports.File)) → IfSome b (λ x. TargetLeft (writes asked) (content (name_of asked) st) f (Err e) x b)
    by None = tt
    by (Some x) = target_left (content (name_of asked) st) f r h (writes asked) u.0 e x u.1

-- ---- the writing

abbrev of_numbers : ℕ → ℕ → ℕ → ℕ → Summary
of_numbers f e r s = record { files = f; edits = e; reports = r; stops = s }

module _ (asked : Asked) (st f : List ports.File) (r : Ready) (u : Upgraded) (old new : Sinks)
    (h : IsReady (content (name_of asked) st) f (Ok r))
    (o : core.IsOutcome r.settings (map file_of r.files.items) (Ok u))
    (s : core.AreLeft r.settings (map file_of r.files.items) (Ok u) old new) where
  abbrev whole : Through (content (name_of asked) st) f
  whole = through (content (name_of asked) st) f r o.0 h o.1

  handed : AreHanded (content (name_of asked) st) f old new
  handed = record { planned = record { through = whole; reports = u.reports.items; are = o.2.reports }; handed = s }

  -- what is counted
  summed : summary_of u ≡ counts r.settings o.0
  summed =
      ap (λ n. of_numbers n u.edits (length u.reports.items) u.stops)
      (sym (length-map u.files.items file_of) ∙ ap (λ (xs : List ports.File). length xs) o.2.files
      ∙ length-map o.0 (λ (t : List ℕ × File). (t.0, file_printed (rewritten r.settings t.1))))
      ∙ ap (λ n. of_numbers (length o.0) n (length u.reports.items) u.stops) o.2.edits
      ∙ ap (λ n. of_numbers (length o.0) (edits_in_all r.settings o.0) n u.stops)
      (reported_count r.settings o.0 u.reports.items o.2.reports)
      ∙ ap (λ n. of_numbers (length o.0) (edits_in_all r.settings o.0) (reports_in_all r.settings o.0) n) o.2.stops

  wrote : (w : Bool) (e : Result (Unit {0}) Stop) (b : List ports.File) (after : Option (List ports.File))
      → IsWriting w (map file_of u.files.items) e b after → IsWriting w (planned_files whole) e b after
  wrote w e b after is = subst (λ (xs : List ports.File). IsWriting w xs e b after) o.2.files is

  all_done : (before after : Option (List ports.File))
      → IfSome before (λ b. IsWriting (writes asked) (map file_of u.files.items) (Ok tt) b after)
      → IsDoing asked st f (Ok (summary_of u)) old new before after
  all_done before after is = record {
    outcome = comes (content (name_of asked) st) f r.settings (Ok (summary_of u)) h.1 h.2 (o.0, whole.clear, summed);
    sinks = handed;
    target = by before is;
  }
    where
      stands : (w : Bool) (b : List ports.File) → IsWriting w (planned_files whole) (Ok tt) b after
          → after ≡ Some (with_written w (planned_files whole) b)
      stands true b is = is
      stands false b is = is.1

      by : (b : Option (List ports.File)) → IfSome b (λ x. IsWriting (writes asked) (map file_of u.files.items) (Ok tt) x after)
          → IfSome b (λ x. TargetLeft (writes asked) (content (name_of asked) st) f (Ok (summary_of u)) x after)
      by None is = tt
      by (Some x) is = (whole, summed, stands (writes asked) x (wrote (writes asked) (Ok tt) x after is))

  cut_off : (e : Stop) (before after : Option (List ports.File)) → IsOfWriting (writes asked) (Err e)
      → IfSome before (λ b. IsWriting (writes asked) (map file_of u.files.items) (Err e) b after)
      → IsDoing asked st f (Err e) old new before after
  cut_off stop.Usage before after only is = absurd only
  cut_off (stop.Limit l) before after only is = absurd only
  cut_off stop.NoSettings before after only is = absurd only
  cut_off (stop.Settings fault) before after only is = absurd only
  cut_off (stop.Source path) before after only is = absurd only
  cut_off (stop.Names fault) before after only is = absurd only
  cut_off stop.SourceFault before after only is = absurd only
  cut_off stop.SinkFault before after only is = absurd only
  cut_off stop.TargetFault before after only is = record { outcome = whole; sinks = handed; target = by before is }
    where
      by : (b : Option (List ports.File)) → IfSome b (λ x. IsWriting (writes asked) (map file_of u.files.items) (Err stop.TargetFault) x after)
          → IfSome b (λ x. TargetLeft (writes asked) (content (name_of asked) st) f (Err stop.TargetFault) x after)
      by None is = tt
      by (Some x) is = (
        only,
        whole,
        subst (λ (w : Bool). IsWriting w (planned_files whole) (Err stop.TargetFault) x after) only
            (wrote (writes asked) (Err stop.TargetFault) x after is),
      )
  cut_off stop.Memory before after only is = record { outcome = tt; sinks = inr (inr handed); target = by before is }
    where
      by : (b : Option (List ports.File)) → IfSome b (λ x. IsWriting (writes asked) (map file_of u.files.items) (Err stop.Memory) x after)
          → IfSome b (λ x. TargetLeft (writes asked) (content (name_of asked) st) f (Err stop.Memory) x after)
      by None is = tt
      by (Some x) is = inr (
        only,
        whole,
        subst (λ (w : Bool). IsWriting w (planned_files whole) (Err stop.Memory) x after) only
            (wrote (writes asked) (Err stop.Memory) x after is),
      )

-- the same over sources that may be told
pub writing_does : (asked : Asked) (ss fs : Option (List ports.File)) (r : Ready) (u : Upgraded) (old new : Sinks)
    (before after : Option (List ports.File))
    → IfSome ss (λ st. IfSome fs (λ f. IsReady (content (name_of asked) st) f (Ok r)))
    → IsUpgrading r.settings (map file_of r.files.items) (Ok u) old new
    → IfSome before (λ b. IsWriting (writes asked) (map file_of u.files.items) (Ok tt) b after)
    → IfSome ss (λ st. IfSome fs (λ f. IsDoing asked st f (Ok (summary_of u)) old new before after))
writing_does asked None fs r u old new before after h is w = tt
writing_does asked (Some st) None r u old new before after h is w = tt
writing_does asked (Some st) (Some f) r u old new before after h is w = all_done asked st f r u old new h is.0 is.1 before after w

pub writing_stops : (asked : Asked) (ss fs : Option (List ports.File)) (r : Ready) (u : Upgraded) (e : Stop) (old new : Sinks)
    (before after : Option (List ports.File))
    → IfSome ss (λ st. IfSome fs (λ f. IsReady (content (name_of asked) st) f (Ok r)))
    → IsUpgrading r.settings (map file_of r.files.items) (Ok u) old new → IsOfWriting (writes asked) (Err e)
    → IfSome before (λ b. IsWriting (writes asked) (map file_of u.files.items) (Err e) b after)
    → IfSome ss (λ st. IfSome fs (λ f. IsDoing asked st f (Err e) old new before after))
writing_stops asked None fs r u e old new before after h is only w = tt
writing_stops asked (Some st) None r u e old new before after h is only w = tt
writing_stops asked (Some st) (Some f) r u e old new before after h is only w =
    cut_off asked st f r u old new h is.0 is.1 e before after only w

-- the counts of the sinks after a stop of the upgrade
names_cause : (fs : List ports.File) (n : NamesFault) (e : Stop) (old new : Sinks) → IsNamesStop fs n e → new ≡ old
    → SinkCause {X = Upgraded} (Err e) old.faults new.faults
names_cause fs n (stop.Names told) old new u s = ap (λ (k : Sinks). k.faults) s
names_cause fs n stop.Memory old new u s = ap (λ (k : Sinks). k.faults) s
names_cause fs n stop.Usage old new u s = absurd u
names_cause fs n (stop.Limit l) old new u s = absurd u
names_cause fs n stop.NoSettings old new u s = absurd u
names_cause fs n (stop.Settings x) old new u s = absurd u
names_cause fs n (stop.Source path) old new u s = absurd u
names_cause fs n stop.SourceFault old new u s = absurd u
names_cause fs n stop.SinkFault old new u s = absurd u
names_cause fs n stop.TargetFault old new u s = absurd u

pub upgrade_cause : (r : Ready) (e : Stop) (old new : Sinks)
    → IsUpgrading r.settings (map file_of r.files.items) (Err e) old new → SinkCause {X = Upgraded} (Err e) old.faults new.faults
upgrade_cause r e old new u = by u.0 u.1 u.3
  where
    is_cause : (s : Stop) → e ≡ s → SinkCause {X = Upgraded} (Err s) old.faults new.faults → SinkCause {X = Upgraded} (Err e) old.faults new.faults
    is_cause s is c = subst (λ (x : Stop). SinkCause {X = Upgraded} (Err x) old.faults new.faults) (sym is) c

    by : (x : UpgradeFault) → IsUpgradeStop (map file_of r.files.items) x e
        → core.AreLeft r.settings (map file_of r.files.items) (Err x) old new → SinkCause {X = Upgraded} (Err e) old.faults new.faults
    by (fault.Source path) is s = is_cause (stop.Source path) is (ap (λ (k : Sinks). k.faults) s)
    by (fault.Names n) is s = names_cause (map file_of r.files.items) n e old new is s
    by (fault.Limit l) is s = is_cause (stop.Limit l) is (ap (λ (k : Sinks). k.faults) s)
    by (fault.Sink at) is s = is_cause stop.SinkFault is (at, s.3)
    by fault.Memory is (inl s) = is_cause stop.Memory is (ap (λ (k : Sinks). k.faults) s)
    by fault.Memory is (inr s) = is_cause stop.Memory is s.4
