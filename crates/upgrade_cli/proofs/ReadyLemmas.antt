-- The reading of sources, file by file.
use Rattle.std.proofs.Common.{
  ◌≡◌,
  ◌<◌,
  ◌≤◌,
  ℕ,
  suc,
  ◌+◌,
  Bool,
  true,
  false,
  List,
  [],
  ◌∷◌,
  ◌++◌,
  length,
  map,
  get_or,
  take,
  drop,
  refl,
  ap,
  ap₂,
  sym,
  ◌∙◌,
  subst,
  arith,
  if◌then◌else◌,
  nat_lt,
}
use Rattle.std.specs.Prelude.{Option, Some, None, IfSome, IsSome, Result, Ok, Err, Vec}
use Rattle.std.specs.declared.alloc.Global.{Global}
use Rattle.std.proofs.lemmas.Bool.{le-ltb, lt-ltb}
use Rattle.std.proofs.lemmas.Option.{same_Some}
use Rattle.std.proofs.lemmas.List.{take-append-drop, get_or-map, length-map, take_all, drop_all}
use Rattle.std.proofs.Math.Seq.{take-suc, drop-cons}
use Rattle.io_ports.specs.Files as ports
use Rattle.io_ports.specs.Files.{content, IsTree, IsSources}
use Rattle.io_ports.proofs.FileLaws.{content_listed}
use Rattle.upgrade_core.specs.declared.fault.LimitFault.{LimitFault}
use Rattle.upgrade_core.specs.declared.fault.LimitKind.TheVariants as kind
use Rattle.upgrade_core.specs.declared.file.SourceFile.{SourceFile}
use Rattle.upgrade_core.specs.Files.{file_of}
use Rattle.upgrade_core.specs.Limits.{bytes_limit, limit_of}
use Rattle.rule_tables.specs.declared.settings_fault.SettingsFault.{SettingsFault}
use Rattle.rule_tables.specs.declared.settings_fault.SettingsFault.TheVariants as settings_fault
use Rattle.rule_tables.specs.KeyTable.{outcome}
use Rattle.rule_tables.specs.SettingsView.{SettingsView}
use Rattle.upgrade_cli.specs.declared.ready.Ready.{Ready}
use Rattle.upgrade_cli.specs.declared.stop.Stop.{Stop}
use Rattle.upgrade_cli.specs.declared.stop.Stop.TheVariants as stop
use Rattle.upgrade_cli.specs.Ready.{
  IsWithin,
  IsListing,
  IsTooMany,
  IsTooLong,
  IsReading,
  IsAdding,
  AreReading,
  IsFiles,
  Progress,
  IsNext,
  IsSettingsReading,
  IsSaid,
  IsReady,
  is_long,
  said,
  said_by,
  first_limit,
  bytes_of,
}
use Rattle.upgrade_cli.specs.Stops.{settings_stop}

-- ---- the listing

pub listed : (o : Option (List ports.File)) (paths : Vec (List ℕ) Global) (r : Result (Vec (List ℕ) Global) Stop) → IsWithin paths r
    → IfSome o (λ fs. paths.items ≡ map (λ f. f.0) fs) → IfSome o (λ fs. IsSources fs) → IfSome o (λ fs. IsListing fs r)
listed None paths r h told order = tt
listed (Some fs) paths r h told order = by r h
  where
    count : length paths.items ≡ length fs
    count = ap (λ (ps : List (List ℕ)). length ps) told ∙ length-map fs (λ f. f.0)

    by : (r : Result (Vec (List ℕ) Global) Stop) → IsWithin paths r → IsListing fs r
    by (Ok kept) h =
        (order.0, ap (λ (v : Vec (List ℕ) Global). v.items) h.0 ∙ told, subst (λ n. n ≤ 2000) count h.1)
    by (Err stop.Usage) h = absurd h
    by (Err (stop.Limit l)) h = subst (λ n. IsTooMany n l) count h
    by (Err stop.NoSettings) h = absurd h
    by (Err (stop.Settings fault)) h = absurd h
    by (Err (stop.Source path)) h = absurd h
    by (Err (stop.Names fault)) h = absurd h
    by (Err stop.SourceFault) h = absurd h
    by (Err stop.SinkFault) h = absurd h
    by (Err stop.TargetFault) h = absurd h
    by (Err stop.Memory) h = absurd h

-- ---- the files

-- the path at a place is that of the file there
path_at : (fs : List ports.File) (paths : List (List ℕ)) (i : ℕ) (path : List ℕ) (d : ports.File) → paths ≡ map (λ f. f.0) fs
    → i < length paths → path ≡ get_or paths i path → path ≡ (get_or fs i d).0
path_at fs paths i path d are below is =
    is ∙ ap (λ (ps : List (List ℕ)). get_or ps i path) are
    ∙ get_or-map (λ (f : ports.File). f.0) fs i d path (subst (λ n. i < n) (ap (λ (ps : List (List ℕ)). length ps) are ∙ length-map fs (λ f. f.0)) below)

-- a tree of files has each file's bytes under its path
content_at : (fs : List ports.File) (i : ℕ) (d : ports.File) → IsTree fs → i < length fs
    → content (get_or fs i d).0 fs ≡ Some (get_or fs i d).1
content_at fs i d t below =
    let split : take i fs ++ (get_or fs i d ∷ drop (suc i) fs) ≡ fs =
    ap (λ (rest : List ports.File). take i fs ++ rest) (sym (drop-cons fs i d below)) ∙ take-append-drop i fs in
    subst (λ (xs : List ports.File). content (get_or fs i d).0 xs ≡ Some (get_or fs i d).1) split
    (content_listed (get_or fs i d) (take i fs) (drop (suc i) fs) (subst (λ (xs : List ports.File). IsTree xs) (sym split) t))

-- a path that was listed is there
pub is_there : (o : Option (List ports.File)) (paths : List (List ℕ)) (i : ℕ) (path : List ℕ)
    → IfSome o (λ fs. IsTree fs × (paths ≡ map (λ f. f.0) fs)) → i < length paths → path ≡ get_or paths i path
    → IfSome o (λ fs. IsSome (content path fs))
is_there None paths i path h below is = tt
is_there (Some fs) paths i path h below is =
    let d : ports.File = ([], []) in
    let within : i < length fs = subst (λ n. i < n) (ap (λ (ps : List (List ℕ)). length ps) h.1 ∙ length-map fs (λ f. f.0)) below in
    let at = path_at fs paths i path d h.1 below is in
    subst (λ (q : List ℕ). IsSome (content q fs)) (sym at)
    (subst (λ (c : Option (List ℕ)). IsSome c) (sym (content_at fs i d h.0 within)) refl)

-- ---- limits on bytes

-- a file within the limits is passed by
passed : (sum : ℕ) (path bytes : List ℕ) (rest : List ports.File) → length bytes ≤ 1048576 → sum + length bytes ≤ 4194304
    → bytes_limit sum ((path, bytes) ∷ rest) ≡ bytes_limit (sum + length bytes) rest
passed sum path bytes rest own all =
    let short : nat_lt 1048576 (length bytes) ≡ false = le-ltb 1048576 (length bytes) own in
    let few : nat_lt 4194304 (sum + length bytes) ≡ false = le-ltb 4194304 (sum + length bytes) all in
    rw (short, few) refl

-- a limit at a file stands, whatever files are behind it
abbrev by_bools : Bool → Bool → Option LimitFault → Option LimitFault
by_bools own all rest =
    if own then Some (record { kind = kind.FileBytes; number = 1048577 })
    else (if all then Some (record { kind = kind.AllBytes; number = 4194305 }) else rest)

stands : (own all : Bool) (l : LimitFault) (rest : Option LimitFault) → by_bools own all None ≡ Some l → by_bools own all rest ≡ Some l
stands true all l rest e = e
stands false true l rest e = e
stands false false l rest e = absurd (let no : ⊥ = cc in no)

limit_stands : (sum : ℕ) (f : ports.File) (rest : List ports.File) (l : LimitFault) → bytes_limit sum (f ∷ []) ≡ Some l
    → bytes_limit sum (f ∷ rest) ≡ Some l
limit_stands sum f rest l e =
    stands (nat_lt 1048576 (length f.1)) (nat_lt 4194304 (sum + length f.1)) l (bytes_limit (sum + length f.1) rest) e

-- ---- one file after another

next_is : (n : ℕ) → suc n ≡ n + 1
next_is n = omega arith

-- the bytes under the path at a place
same_bytes : (fs : List ports.File) (i : ℕ) (d : ports.File) (path bytes : List ℕ) → IsTree fs → i < length fs → path ≡ (get_or fs i d).0
    → content path fs ≡ Some bytes → get_or fs i d ≡ (path, bytes)
same_bytes fs i d path bytes t below at is =
    let here : Some (get_or fs i d).1 ≡ Some bytes =
    sym (content_at fs i d t below) ∙ ap (λ (q : List ℕ). content q fs) (sym at) ∙ is in
    ap₂ (λ (p bs : List ℕ). (p, bs)) (sym at) (same_Some (get_or fs i d).1 bytes here)

-- the progress of a reading, over sources that may be told
abbrev pub Goes : Option (List ports.File) → List (List ℕ) → List ports.File → ℕ → ℕ → Type 0
Goes o paths done sum i = IfSome o (λ fs. Progress fs done sum i)

pub begins : (o : Option (List ports.File)) (paths : List (List ℕ)) → Goes o paths [] 0 0
begins None paths = tt
begins (Some fs) paths = record { are = refl; left = refl }

pub goes_on : (o : Option (List ports.File)) (paths : List (List ℕ)) (i : ℕ) (path : List ℕ) (sum n : ℕ) (done new : List ports.File)
    → IfSome o (λ fs. IsTree fs × (paths ≡ map (λ f. f.0) fs)) → i < length paths → path ≡ get_or paths i path
    → Goes o paths done sum i → IfSome o (λ fs. IsNext path (content path fs) sum done (Ok n) new)
    → Goes o paths new n (i + 1)
goes_on None paths i path sum n done new listing below is goes next = tt
goes_on (Some fs) paths i path sum n done new listing below is goes next =
    let d : ports.File = ([], []) in
    let within : i < length fs =
    subst (λ m. i < m) (ap (λ (ps : List (List ℕ)). length ps) listing.1 ∙ length-map fs (λ f. f.0)) below in
    let (bytes, there, own, added, few, behind) = next in
    let here = same_bytes fs i d path bytes listing.0 within (path_at fs paths i path d listing.1 below is) there in
    record {
      are = behind ∙ ap₂ (λ (xs : List ports.File) (f : ports.File). xs ++ f ∷ []) goes.are (sym here)
          ∙ sym (take-suc fs i d within) ∙ ap (λ m. take m fs) (next_is i);
      left =
          ap₂ (λ m (xs : List ports.File). bytes_limit m xs) added (ap (λ m. drop m fs) (sym (next_is i)))
          ∙ sym (passed sum path bytes (drop (suc i) fs) own (subst (λ m. m ≤ 4194304) added few))
          ∙ ap (λ (f : ports.File). bytes_limit sum (f ∷ drop (suc i) fs)) (sym here)
          ∙ ap (λ (xs : List ports.File). bytes_limit sum xs) (sym (drop-cons fs i d within))
          ∙ goes.left;
    }

-- a stop at a file is one of all files
pub stops_at : (o : Option (List ports.File)) (paths : List (List ℕ)) (i : ℕ) (path : List ℕ) (sum : ℕ) (done new : List ports.File) (e : Stop)
    → IfSome o (λ fs. IsTree fs × (paths ≡ map (λ f. f.0) fs)) → i < length paths → path ≡ get_or paths i path
    → Goes o paths done sum i → IfSome o (λ fs. IsNext path (content path fs) sum done (Err e) new)
    → IfSome o (λ fs. AreReading fs (Err e))
stops_at None paths i path sum done new e listing below is goes next = tt
stops_at (Some fs) paths i path sum done new e listing below is goes next = by e next
  where
    by : (e : Stop) → IsNext path (content path fs) sum done (Err e) new → AreReading fs (Err e)
    by stop.Usage h = absurd h
    by (stop.Limit l) h =
        let d : ports.File = ([], []) in
        let within : i < length fs =
        subst (λ m. i < m) (ap (λ (ps : List (List ℕ)). length ps) listing.1 ∙ length-map fs (λ f. f.0)) below in
        let (bytes, there, limit) = h in
        let here = same_bytes fs i d path bytes listing.0 within (path_at fs paths i path d listing.1 below is) there in
        sym goes.left
        ∙ ap (λ (xs : List ports.File). bytes_limit sum xs) (drop-cons fs i d within)
        ∙ ap (λ (f : ports.File). bytes_limit sum (f ∷ drop (suc i) fs)) here
        ∙ limit_stands sum (path, bytes) (drop (suc i) fs) l limit
    by stop.NoSettings h = absurd h
    by (stop.Settings fault) h = absurd h
    by (stop.Source p) h = absurd h
    by (stop.Names fault) h = absurd h
    by stop.SourceFault h = tt
    by stop.SinkFault h = absurd h
    by stop.TargetFault h = absurd h
    by stop.Memory h = tt

-- all files are read
pub ends : (o : Option (List ports.File)) (paths : List (List ℕ)) (i : ℕ) (sum : ℕ) (files : Vec SourceFile Global)
    → IfSome o (λ fs. IsTree fs × (paths ≡ map (λ f. f.0) fs)) → length paths ≤ i
    → Goes o paths (map file_of files.items) sum i → IfSome o (λ fs. AreReading fs (Ok files))
ends None paths i sum files listing all goes = tt
ends (Some fs) paths i sum files listing all goes =
    let whole : length fs ≤ i =
    subst (λ m. m ≤ i) (ap (λ (ps : List (List ℕ)). length ps) listing.1 ∙ length-map fs (λ f. f.0)) all in (
      goes.are ∙ take_all i fs whole,
      sym goes.left ∙ ap (λ (xs : List ports.File). bytes_limit sum xs) (drop_all i fs whole),
    )

-- ---- the listing and the reading

pub whole_files : (o : Option (List ports.File)) (paths : Vec (List ℕ) Global) (r : Result (Vec SourceFile Global) Stop)
    → IfSome o (λ fs. IsListing fs (Ok paths)) → IfSome o (λ fs. AreReading fs r) → IfSome o (λ fs. IsFiles fs r)
whole_files None paths r listing reading = tt
whole_files (Some fs) paths r listing reading = by r reading
  where
    few : limit_of fs ≡ bytes_limit 0 fs
    few = let not_many : nat_lt 2000 (length fs) ≡ false = le-ltb 2000 (length fs) listing.2 in rw not_many refl

    by : (r : Result (Vec SourceFile Global) Stop) → AreReading fs r → IsFiles fs r
    by (Ok v) h = (h.0, few ∙ h.1)
    by (Err stop.Usage) h = absurd h
    by (Err (stop.Limit l)) h = few ∙ h
    by (Err stop.NoSettings) h = absurd h
    by (Err (stop.Settings fault)) h = absurd h
    by (Err (stop.Source p)) h = absurd h
    by (Err (stop.Names fault)) h = absurd h
    by (Err stop.SourceFault) h = tt
    by (Err stop.SinkFault) h = absurd h
    by (Err stop.TargetFault) h = absurd h
    by (Err stop.Memory) h = tt

-- a stop of the listing
pub listing_stops : (o : Option (List ports.File)) (e : Stop) → IfSome o (λ fs. IsListing fs (Err e)) → IfSome o (λ fs. IsFiles fs (Err e))
listing_stops None e h = tt
listing_stops (Some fs) stop.Usage h = absurd h
listing_stops (Some fs) (stop.Limit l) h =
    let many : nat_lt 2000 (length fs) ≡ true = lt-ltb 2000 (length fs) h.0 in
    rw many (ap (λ (x : LimitFault). Some x) (sym h.1))
listing_stops (Some fs) stop.NoSettings h = absurd h
listing_stops (Some fs) (stop.Settings fault) h = absurd h
listing_stops (Some fs) (stop.Source p) h = absurd h
listing_stops (Some fs) (stop.Names fault) h = absurd h
listing_stops (Some fs) stop.SourceFault h = tt
listing_stops (Some fs) stop.SinkFault h = absurd h
listing_stops (Some fs) stop.TargetFault h = absurd h
listing_stops (Some fs) stop.Memory h = tt

-- ---- the settings

pub said_ok : (bytes : List ℕ) (settings : SettingsView)
    → ((Ok settings ≡ Err settings_fault.Memory → ⊥) → Ok settings ≡ outcome bytes) → IsSaid (Some bytes) (Ok settings)
said_ok bytes settings h = ap said_by (sym (h (λ e. let no : ⊥ = cc in no)))

abbrev failed : SettingsFault → Result SettingsView SettingsFault
failed fault = Err fault

pub said_err : (bytes : List ℕ) (fault : SettingsFault)
    → ((failed fault ≡ Err settings_fault.Memory → ⊥) → failed fault ≡ outcome bytes) → IsSaid (Some bytes) (Err (settings_stop fault))
said_err bytes settings_fault.NotToml h = ap said_by (sym (h (λ e. let no : ⊥ = cc in no)))
said_err bytes (settings_fault.UnknownKey key) h = ap said_by (sym (h (λ e. let no : ⊥ = cc in no)))
said_err bytes (settings_fault.UnknownRule key) h = ap said_by (sym (h (λ e. let no : ⊥ = cc in no)))
said_err bytes (settings_fault.BadValue key) h = ap said_by (sym (h (λ e. let no : ⊥ = cc in no)))
said_err bytes settings_fault.Memory h = tt

-- ---- all of it

-- the settings file is within its limit
within_settings : (content : Option (List ℕ)) (fs : List ports.File) → is_long content ≡ false → first_limit content fs ≡ limit_of fs
within_settings content fs e = rw e refl

pub ready_ok : (ss fs : Option (List ports.File)) (name : List ℕ) (o : Option (Vec ℕ Global)) (v : Vec SourceFile Global) (s : SettingsView) (r : Ready)
    → r.files ≡ v → r.settings ≡ s
    → IfSome ss (λ st. IsSettingsReading (content name st) (Ok o)) → IfSome fs (λ f. IsFiles f (Ok v)) → IsSaid (bytes_of o) (Ok s)
    → IfSome ss (λ st. IfSome fs (λ f. IsReady (content name st) f (Ok r)))
ready_ok None fs name o v s r is_v is_s a b h = tt
ready_ok (Some st) None name o v s r is_v is_s a b h = tt
ready_ok (Some st) (Some f) name o v s r is_v is_s a b h = (
  ap (λ (x : Vec SourceFile Global). map file_of x.items) is_v ∙ b.0,
  within_settings (content name st) f a.1 ∙ b.1,
  ap said (sym a.0) ∙ h ∙ ap (λ (x : SettingsView). Ok x) (sym is_s),
)

pub settings_stops : (ss fs : Option (List ports.File)) (name : List ℕ) (e : Stop) → IfSome ss (λ st. IsSettingsReading (content name st) (Err e))
    → IfSome ss (λ st. IfSome fs (λ f. IsReady (content name st) f (Err e)))
settings_stops None fs name e a = tt
settings_stops (Some st) None name e a = tt
settings_stops (Some st) (Some f) name stop.Usage a = absurd a
settings_stops (Some st) (Some f) name (stop.Limit l) a =
    let long : is_long (content name st) ≡ true = a.0 in rw long (ap (λ (x : LimitFault). Some x) (sym a.1))
settings_stops (Some st) (Some f) name stop.NoSettings a = absurd a
settings_stops (Some st) (Some f) name (stop.Settings fault) a = absurd a
settings_stops (Some st) (Some f) name (stop.Source p) a = absurd a
settings_stops (Some st) (Some f) name (stop.Names fault) a = absurd a
settings_stops (Some st) (Some f) name stop.SourceFault a = tt
settings_stops (Some st) (Some f) name stop.SinkFault a = absurd a
settings_stops (Some st) (Some f) name stop.TargetFault a = absurd a
settings_stops (Some st) (Some f) name stop.Memory a = tt

pub files_stop : (ss fs : Option (List ports.File)) (name : List ℕ) (o : Option (Vec ℕ Global)) (e : Stop)
    → IfSome ss (λ st. IsSettingsReading (content name st) (Ok o)) → IfSome fs (λ f. IsFiles f (Err e))
    → IfSome ss (λ st. IfSome fs (λ f. IsReady (content name st) f (Err e)))
files_stop None fs name o e a b = tt
files_stop (Some st) None name o e a b = tt
files_stop (Some st) (Some f) name o stop.Usage a b = absurd b
files_stop (Some st) (Some f) name o (stop.Limit l) a b = within_settings (content name st) f a.1 ∙ b
files_stop (Some st) (Some f) name o stop.NoSettings a b = absurd b
files_stop (Some st) (Some f) name o (stop.Settings fault) a b = absurd b
files_stop (Some st) (Some f) name o (stop.Source p) a b = absurd b
files_stop (Some st) (Some f) name o (stop.Names fault) a b = absurd b
files_stop (Some st) (Some f) name o stop.SourceFault a b = tt
files_stop (Some st) (Some f) name o stop.SinkFault a b = absurd b
files_stop (Some st) (Some f) name o stop.TargetFault a b = absurd b
files_stop (Some st) (Some f) name o stop.Memory a b = tt

pub said_stops : (ss fs : Option (List ports.File)) (name : List ℕ) (o : Option (Vec ℕ Global)) (v : Vec SourceFile Global) (e : Stop)
    → IfSome ss (λ st. IsSettingsReading (content name st) (Ok o)) → IfSome fs (λ f. IsFiles f (Ok v)) → IsSaid (bytes_of o) (Err e)
    → IfSome ss (λ st. IfSome fs (λ f. IsReady (content name st) f (Err e)))
said_stops None fs name o v e a b h = tt
said_stops (Some st) None name o v e a b h = tt
said_stops (Some st) (Some f) name o v stop.Usage a b h = absurd h
said_stops (Some st) (Some f) name o v (stop.Limit l) a b h = absurd h
said_stops (Some st) (Some f) name o v stop.NoSettings a b h =
    (within_settings (content name st) f a.1 ∙ b.1, ap said (sym a.0) ∙ h)
said_stops (Some st) (Some f) name o v (stop.Settings fault) a b h =
    (within_settings (content name st) f a.1 ∙ b.1, ap said (sym a.0) ∙ h)
said_stops (Some st) (Some f) name o v (stop.Source p) a b h = absurd h
said_stops (Some st) (Some f) name o v (stop.Names fault) a b h = absurd h
said_stops (Some st) (Some f) name o v stop.SourceFault a b h = absurd h
said_stops (Some st) (Some f) name o v stop.SinkFault a b h = absurd h
said_stops (Some st) (Some f) name o v stop.TargetFault a b h = absurd h
said_stops (Some st) (Some f) name o v stop.Memory a b h = tt
