-- Files written one after another.
use Rattle.std.proofs.Common.{◌≡◌, ◌<◌, ◌≤◌, ℕ, suc, ◌+◌, List, [], ◌∷◌, ◌++◌, length, map, get_or, take, refl, ap, sym, ◌∙◌, subst, arith}
use Rattle.std.specs.Prelude.{Option, Some, None, IfSome, Result, Ok, Err}
use Rattle.std.proofs.lemmas.List.{take_all, get_or-map, length-map}
use Rattle.std.proofs.lemmas.Option.{slice_get-get_or}
use Rattle.std.proofs.Math.Seq.{take-suc}
use Rattle.io_ports.specs.Files as ports
use Rattle.io_ports.specs.Files.{put_file, KeepsOthers}
use Rattle.upgrade_core.specs.declared.file.SourceFile.{SourceFile}
use Rattle.upgrade_core.specs.Files.{file_of}
use Rattle.upgrade_cli.specs.declared.stop.Stop.{Stop}
use Rattle.upgrade_cli.specs.declared.stop.Stop.TheVariants as stop
use Rattle.upgrade_cli.specs.Writing.{put_all, IsPut, ArePut}

-- one file more
put_next : (xs : List ports.File) (f : ports.File) (old : List ports.File)
    → put_all (xs ++ f ∷ []) old ≡ put_file f.0 f.1 (put_all xs old)
put_next [] f old = refl
put_next (x ∷ xs) f old = put_next xs f (put_file x.0 x.1 old)

next_is : (n : ℕ) → suc n ≡ n + 1
next_is n = omega arith

-- the first so many are written, over a target that may be told
abbrev pub Wrote : Option (List ports.File) → List ports.File → ℕ → Option (List ports.File) → Type 0
Wrote o files i now = IfSome o (λ old. now ≡ Some (put_all (take i files) old))

pub begins : (o : Option (List ports.File)) (files : List ports.File) → Wrote o files 0 o
begins None files = tt
begins (Some old) files = refl

pub goes_on : (o now next : Option (List ports.File)) (files : List ports.File) (i : ℕ) (f : ports.File) → Wrote o files i now
    → IfSome now (λ mid. IsPut f (Ok tt) mid next) → i < length files → f ≡ get_or files i f → Wrote o files (i + 1) next
goes_on None now next files i f wrote put below is = tt
goes_on (Some old) now next files i f wrote put below is =
    subst (λ (x : Option (List ports.File)). IfSome x (λ mid. IsPut f (Ok tt) mid next)) wrote put
    ∙ ap (λ (xs : List ports.File). Some xs)
    (sym (put_next (take i files) f old)
    ∙ ap (λ (xs : List ports.File). put_all xs old)
    (ap (λ (x : ports.File). take i files ++ x ∷ []) is ∙ sym (take-suc files i f below) ∙ ap (λ m. take m files) (next_is i)))

pub stops : (o now next : Option (List ports.File)) (files : List ports.File) (i : ℕ) (f : ports.File) (e : Stop) → Wrote o files i now
    → IfSome now (λ mid. IsPut f (Err e) mid next) → i < length files → f ≡ get_or files i f
    → IfSome o (λ old. ArePut files (Err e) old next)
stops None now next files i f e wrote put below is = tt
stops (Some old) now next files i f e wrote put below is =
    by e (subst (λ (x : Option (List ports.File)). IfSome x (λ mid. IsPut f (Err e) mid next)) wrote put)
  where
    by : (e : Stop) → IsPut f (Err e) (put_all (take i files) old) next → ArePut files (Err e) old next
    by stop.Usage h = absurd h
    by (stop.Limit l) h = absurd h
    by stop.NoSettings h = absurd h
    by (stop.Settings fault) h = absurd h
    by (stop.Source path) h = absurd h
    by (stop.Names fault) h = absurd h
    by stop.SourceFault h = absurd h
    by stop.SinkFault h = absurd h
    by stop.TargetFault h = record {
      count = i;
      failed = f;
      is_next = slice_get-get_or files i f below ∙ ap (λ (x : ports.File). Some x) (sym is);
      stands = h.0;
      are = h.1;
      others = h.2;
    }
    by stop.Memory h = record { count = i; are = h }

pub ends : (o now : Option (List ports.File)) (files : List ports.File) (i : ℕ) → Wrote o files i now → length files ≤ i
    → IfSome o (λ old. ArePut files (Ok tt) old now)
ends None now files i wrote all = tt
ends (Some old) now files i wrote all = wrote ∙ ap (λ (xs : List ports.File). Some (put_all xs old)) (take_all i files all)

-- the file at a place
pub within : (files : List SourceFile) (i : ℕ) → i < length files → i < length (map file_of files)
within files i below = subst (λ n. i < n) (sym (length-map files file_of)) below

pub file_at : (files : List SourceFile) (i : ℕ) (x : SourceFile) → i < length files → x ≡ get_or files i x
    → file_of x ≡ get_or (map file_of files) i (file_of x)
file_at files i x below is = ap file_of is ∙ sym (get_or-map file_of files i x (file_of x) below)
