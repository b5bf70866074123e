-- Lists of sinks, one of which changes.
use Rattle.std.proofs.Common.{
  ◌≡◌,
  ◌<◌,
  ◌≤◌,
  ℕ,
  zero,
  suc,
  ◌+◌,
  Bool,
  true,
  false,
  List,
  [],
  ◌∷◌,
  ◌++◌,
  length,
  map,
  set,
  get_or,
  drop,
  take,
  inl,
  inr,
  refl,
  ap,
  ap₂,
  sym,
  ◌∙◌,
  subst,
  arith,
  append_assoc,
}
use Rattle.std.proofs.lemmas.List.{append-nil, map-set, get_or-map, length-map, take_all}
use Rattle.std.proofs.Math.Seq.{map-set_same, take-suc}
use Rattle.std.specs.Prelude.{Result, Ok, Err, Some}
use Rattle.std.proofs.lemmas.Option.{slice_get-get_or}
use Rattle.report_handing.specs.declared.sinks.SinkStop.{SinkStop}
use Rattle.io_ports.specs.Causes.{Rose, HasCause}
use Rattle.io_ports.specs.declared.fault.PortFault.{PortFault}
use Rattle.io_ports.specs.declared.fault.PortFault.TheVariants.{Failed, Memory}
use Rattle.report_handing.specs.Handing.{HaveCause, IsHanding, IsFinishing, IsHandingOut}
use Rattle.io_ports.specs.declared.report.Report.{Report}
use Rattle.report_handing.specs.Sinks.{Sinks, AllOpen, gave, took, closed, IsSameButAt}

-- the next sink takes the report
pub took_next : (at : ℕ) (r : Report) (ls : List (List Report)) (d new : List Report) → at < length ls
    → new ≡ get_or (took at r ls) at d ++ r ∷ [] → set (took at r ls) at new ≡ took (suc at) r ls
took_next at r [] d new below e = absurd (omega (arith, below))
took_next zero r (l ∷ ls) d new below e = ap (λ (x : List Report). x ∷ ls) e
took_next (suc at) r (l ∷ ls) d new below e =
    ap (λ (xs : List (List Report)). (l ++ r ∷ []) ∷ xs) (took_next at r ls d new (omega (arith, below)) e)

-- where all sinks took it
pub took_all : (r : Report) (ls : List (List Report)) → took (length ls) r ls ≡ map (λ l. l ++ r ∷ []) ls
took_all r [] = refl
took_all r (l ∷ ls) = ap (λ (xs : List (List Report)). (l ++ r ∷ []) ∷ xs) (took_all r ls)

pub took_length : (at : ℕ) (r : Report) (ls : List (List Report)) → length (took at r ls) ≡ length ls
took_length zero r ls = refl
took_length (suc at) r [] = refl
took_length (suc at) r (l ∷ ls) = ap (λ n. suc n) (took_length at r ls)

-- the next sink is finished
pub closed_next : (at : ℕ) (bs : List Bool) → at < length bs → set (closed at bs) at true ≡ closed (suc at) bs
closed_next at [] below = absurd (omega (arith, below))
closed_next zero (b ∷ bs) below = refl
closed_next (suc at) (b ∷ bs) below = ap (λ (xs : List Bool). true ∷ xs) (closed_next at bs (omega (arith, below)))

-- where all are
pub closed_all : (bs : List Bool) → closed (length bs) bs ≡ map (λ b. true) bs
closed_all [] = refl
closed_all (b ∷ bs) = ap (λ (xs : List Bool). true ∷ xs) (closed_all bs)

-- a sink from the first that isn't finished on
pub still_open : (at : ℕ) (bs : List Bool) (d : Bool) → AllOpen bs → at < length bs → get_or (closed at bs) at d ≡ false
still_open at [] d all below = absurd (omega (arith, below))
still_open zero (b ∷ bs) d all below = ap (λ (xs : List Bool). get_or xs 0 d) all
still_open (suc at) (b ∷ bs) d all below =
    still_open at bs d (ap (λ (xs : List Bool). drop 1 xs) all) (omega (arith, below))

-- one of some open sinks is open
pub open_at : (at : ℕ) (bs : List Bool) (d : Bool) → AllOpen bs → at < length bs → get_or bs at d ≡ false
open_at at [] d all below = absurd (omega (arith, below))
open_at zero (b ∷ bs) d all below = ap (λ (xs : List Bool). get_or xs 0 d) all
open_at (suc at) (b ∷ bs) d all below = open_at at bs d (ap (λ (xs : List Bool). drop 1 xs) all) (omega (arith, below))

-- the count of one rises
pub rises : (at : ℕ) (ns : List ℕ) (m d : ℕ) → at < length ns → Rose (get_or ns at d) m → IsSameButAt at ns (set ns at m)
rises at [] m d below r = absurd (omega (arith, below))
rises zero (n ∷ ns) m d below r = (r, refl)
rises (suc at) (n ∷ ns) m d below r = (refl, rises at ns m d (omega (arith, below)) r)

-- one report after another is all of them
pub gave_next : (rs : List Report) (r : Report) (ls : List (List Report))
    → map (λ l. l ++ r ∷ []) (gave rs ls) ≡ gave (rs ++ r ∷ []) ls
gave_next rs r [] = refl
gave_next rs r (l ∷ ls) =
    ap₂ (λ (x : List Report) (xs : List (List Report)). x ∷ xs) (append_assoc l rs (r ∷ [])) (gave_next rs r ls)

pub gave_nothing : (ls : List (List Report)) → gave [] ls ≡ ls
gave_nothing [] = refl
gave_nothing (l ∷ ls) =
    ap (λ (x : List Report). x ∷ gave [] ls) (append-nil l) ∙ ap (λ (xs : List (List Report)). l ∷ xs) (gave_nothing ls)

-- ---- one sink changes

module _ {S X : Type 0} (read : S → X) where
  -- what is read of each other one stays
  pub read_set : (sinks : List S) (at : ℕ) (new : S) (xs : List X) (x : X) → map read sinks ≡ xs → read new ≡ x
      → map read (set sinks at new) ≡ set xs at x
  read_set sinks at new xs x e is = map-set read sinks at new ∙ ap₂ (λ (ys : List X) (y : X). set ys at y) e is

  -- what is read of it may stay
  pub read_same : (sinks : List S) (at : ℕ) (new d : S) → read new ≡ read (get_or sinks at d)
      → map read (set sinks at new) ≡ map read sinks
  read_same sinks at new d is = map-set_same read sinks at new d is

  pub read_at : (sinks : List S) (at : ℕ) (d : S) (e : X) (xs : List X) → map read sinks ≡ xs → at < length sinks
      → read (get_or sinks at d) ≡ get_or xs at e
  read_at sinks at d e xs is below = sym (get_or-map read sinks at d e below) ∙ ap (λ (ys : List X). get_or ys at e) is

  pub as_many : (sinks : List S) (xs : List X) → map read sinks ≡ xs → length sinks ≡ length xs
  as_many sinks xs is = sym (length-map sinks read) ∙ ap (λ (ys : List X). length ys) is

next_is : (n : ℕ) → suc n ≡ n + 1
next_is n = omega arith

-- the lists, where one more sink took the report
pub took_more : {S : Type 0} (read : S → List Report) (sinks : List S) (at : ℕ) (r : Report) (new d : S) (old : List (List Report))
    → map read sinks ≡ took at r old → at < length sinks → read new ≡ read (get_or sinks at d) ++ r ∷ []
    → map read (set sinks at new) ≡ took (at + 1) r old
took_more read sinks at r new d old is below e =
    let count : length sinks ≡ length old = as_many read sinks (took at r old) is ∙ took_length at r old in
    read_set read sinks at new (took at r old) (read new) is refl
    ∙ took_next at r old [] (read new) (subst (λ n. at < n) count below)
    (e ∙ ap (λ (x : List Report). x ++ r ∷ []) (read_at read sinks at d [] (took at r old) is below))
    ∙ ap (λ n. took n r old) (next_is at)

-- one more sink is finished
pub closed_more : {S : Type 0} (read : S → Bool) (sinks : List S) (at : ℕ) (new : S) (old : List Bool)
    → map read sinks ≡ closed at old → at < length old → read new ≡ true
    → map read (set sinks at new) ≡ closed (at + 1) old
closed_more read sinks at new old is below e =
    read_set read sinks at new (closed at old) true is e ∙ closed_next at old below ∙ ap (λ n. closed n old) (next_is at)

pub closed_length : (at : ℕ) (bs : List Bool) → length (closed at bs) ≡ length bs
closed_length zero bs = refl
closed_length (suc at) [] = refl
closed_length (suc at) (b ∷ bs) = ap (λ n. suc n) (closed_length at bs)

-- the count of the one that failed rose
pub rose_there : {S : Type 0} (read : S → ℕ) (sinks : List S) (at : ℕ) (new d : S) (old : List ℕ)
    → map read sinks ≡ old → at < length sinks → Rose (read (get_or sinks at d)) (read new)
    → IsSameButAt at old (map read (set sinks at new))
rose_there read sinks at new d old is below r =
    subst (λ (ns : List ℕ). IsSameButAt at old ns) (sym (read_set read sinks at new old (read new) is refl))
    (rises at old (read new) 0 (subst (λ n. at < n) (as_many read sinks old is) below)
    (subst (λ n. Rose n (read new)) (read_at read sinks at d 0 old is below) r))

abbrev pub failed_by : PortFault → Result (Unit {0}) PortFault
failed_by fault = Err fault

-- where a sink refuses, by the cause
pub cause_there : {S : Type 0} (read : S → ℕ) (sinks : List S) (at : ℕ) (new d : S) (old : List ℕ) (fault : PortFault)
    → map read sinks ≡ old → at < length sinks
    → HasCause (read (get_or sinks at d)) (read new) (failed_by fault)
    → HaveCause fault at old (map read (set sinks at new))
cause_there read sinks at new d old Failed is below h = rose_there read sinks at new d old is below (h.failed refl)
cause_there read sinks at new d old Memory is below h = read_same read sinks at new d (h.memory refl) ∙ is

-- ---- all reports

-- a sink refused one of them
pub stopped : (rs : List Report) (r d : Report) (n : ℕ) (stop : SinkStop) (old mid new : Sinks) → n < length rs → r ≡ get_or rs n d
    → mid.lists ≡ gave (take n rs) old.lists → mid.finished ≡ old.finished → mid.faults ≡ old.faults
    → IsHanding r (Err stop) mid new → IsHandingOut rs (Err stop) old new
stopped rs r d n stop old mid new below is lists finished faults h =
    let as_long : length mid.lists ≡ length old.lists =
    ap (λ (ls : List (List Report)). length ls) lists ∙ length-map old.lists (λ l. l ++ take n rs) in (
      subst (λ m. stop.at < m) as_long h.0,
      inl (record {
        rounds = n;
        next = r;
        is_next = slice_get-get_or rs n d below ∙ ap (λ (x : Report). Some x) (sym is);
        lists = h.1 ∙ ap (λ (ls : List (List Report)). took stop.at r ls) lists;
        finished = h.2 ∙ finished;
      }),
      subst (λ (ns : List ℕ). HaveCause stop.fault stop.at ns new.faults) faults h.3,
    )

-- all sinks took one more
pub handed_next : (rs : List Report) (r d : Report) (n : ℕ) (old mid new : Sinks) → n < length rs → r ≡ get_or rs n d
    → mid.lists ≡ gave (take n rs) old.lists → IsHanding r (Ok tt) mid new → new.lists ≡ gave (take (n + 1) rs) old.lists
handed_next rs r d n old mid new below is lists h =
    h.0 ∙ ap (λ (ls : List (List Report)). map (λ l. l ++ r ∷ []) ls) lists ∙ gave_next (take n rs) r old.lists
    ∙ ap (λ (xs : List Report). gave xs old.lists)
    (ap (λ (x : Report). take n rs ++ x ∷ []) is ∙ sym (take-suc rs n d below) ∙ ap (λ m. take m rs) (next_is n))

-- all sinks took all of them, and are finished one by one
pub finished_all : (rs : List Report) (n : ℕ) (result : Result (Unit {0}) SinkStop) (old mid new : Sinks) → length rs ≤ n
    → mid.lists ≡ gave (take n rs) old.lists → mid.finished ≡ old.finished → mid.faults ≡ old.faults
    → IsFinishing result mid new → IsHandingOut rs result old new
finished_all rs n (Ok x) old mid new all lists finished faults h = record {
  lists = h.0 ∙ lists ∙ ap (λ (xs : List Report). gave xs old.lists) (take_all n rs all);
  finished = h.1 ∙ ap (λ (bs : List Bool). map (λ b. true) bs) finished;
  faults = h.2 ∙ faults;
}
finished_all rs n (Err stop) old mid new all lists finished faults h =
    let whole : mid.lists ≡ gave rs old.lists = lists ∙ ap (λ (xs : List Report). gave xs old.lists) (take_all n rs all) in
    let as_long : length mid.lists ≡ length old.lists =
    ap (λ (ls : List (List Report)). length ls) whole ∙ length-map old.lists (λ l. l ++ rs) in (
      subst (λ m. stop.at < m) as_long h.0,
      inr (record {
        lists = h.1 ∙ whole;
        finished = h.2 ∙ ap (λ (bs : List Bool). closed stop.at bs) finished;
      }),
      subst (λ (ns : List ℕ). HaveCause stop.fault stop.at ns new.faults) faults h.3,
    )
