-- What sinks of reports hold while reports are handed to them, one to each in turn.
use Rattle.std.specs.Prelude.{◌≡◌, ◌⊎◌, ℕ, zero, suc, Bool, true, false, List, [], ◌∷◌, ◌++◌, length, map, take, slice_get, Option, Some}
use Rattle.io_ports.specs.Causes.{Rose}
use Rattle.io_ports.specs.declared.report.Report.{Report}

-- of each sink the reports that it took, whether it is finished, and its count of faults
pub record Sinks : Type 0 where
  pub lists : List (List Report)
  pub finished : List Bool
  pub faults : List ℕ

-- those of a list, by what is read of one
abbrev pub sinks_by : {S : Type 0} → (S → List Report) → (S → Bool) → (S → ℕ) → List S → Sinks
sinks_by list finished faults sinks = record {
  lists = map list sinks;
  finished = map finished sinks;
  faults = map faults sinks;
}

-- none is finished
abbrev pub AllOpen : List Bool → Type 0
AllOpen bs = bs ≡ map (λ b. false) bs

-- each list with more reports behind
abbrev pub gave : List Report → List (List Report) → List (List Report)
gave rs lists = map (λ l. l ++ rs) lists

-- the first so many with one report more
abbrev pub took : ℕ → Report → List (List Report) → List (List Report)
took zero r ls = ls
took (suc n) r [] = []
took (suc n) r (l ∷ ls) = (l ++ r ∷ []) ∷ took n r ls

-- the first so many finished
abbrev pub closed : ℕ → List Bool → List Bool
closed zero bs = bs
closed (suc n) [] = []
closed (suc n) (b ∷ bs) = true ∷ closed n bs

-- each took all reports, and is finished
pub record HandedAll (rs : List Report) (old new : Sinks) : Type 0 where
  pub lists : new.lists ≡ gave rs old.lists
  pub finished : new.finished ≡ map (λ b. true) old.finished
  pub faults : new.faults ≡ old.faults

-- Each took the first so many reports, and those before a place one more; none was finished.
pub record Taking (rs : List Report) (at : ℕ) (old new : Sinks) : Type 0 where
  pub rounds : ℕ
  pub next : Report
  pub is_next : slice_get rs rounds ≡ Some next
  pub lists : new.lists ≡ took at next (gave (take rounds rs) old.lists)
  pub finished : new.finished ≡ old.finished

-- each took all reports, and those before a place are finished
pub record Finishing (rs : List Report) (at : ℕ) (old new : Sinks) : Type 0 where
  pub lists : new.lists ≡ gave rs old.lists
  pub finished : new.finished ≡ closed at old.finished

abbrev pub HandedSome : List Report → ℕ → Sinks → Sinks → Type 0
HandedSome rs at old new = Taking rs at old new ⊎ Finishing rs at old new

-- the counts are the same, but one, which rose
abbrev pub IsSameButAt : ℕ → List ℕ → List ℕ → Type 0
IsSameButAt zero (n ∷ ns) (m ∷ ms) = Rose n m × (ms ≡ ns)
IsSameButAt (suc at) (n ∷ ns) (m ∷ ms) = (m ≡ n) × IsSameButAt at ns ms
IsSameButAt at ns ms = ⊥
