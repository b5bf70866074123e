-- Rows of files, read one after another.
use Rattle.std.proofs.Common.{
  ◌≡◌,
  ◌<◌,
  ◌≤◌,
  ℕ,
  zero,
  suc,
  ◌+◌,
  List,
  [],
  ◌∷◌,
  ◌++◌,
  length,
  map,
  get_or,
  take,
  drop,
  refl,
  inl,
  inr,
  ap,
  sym,
  ◌∙◌,
  subst,
  arith,
  Bool,
  true,
  false,
  if◌then◌else◌,
  nat_lt,
}
use Rattle.std.specs.Prelude.{Err, None}
use Rattle.std.proofs.lemmas.Bool.{ltb-false}
use Rattle.upgrade_core.specs.declared.fault.LimitKind.TheVariants as kind
use Rattle.upgrade_core.specs.Limits.{limit, bytes_limit}
use Rattle.std.proofs.lemmas.List.{map-append, take-append-drop, take_all}
use Rattle.std.proofs.Math.Seq.{take-suc, drop-cons}
use Rattle.upgrade_core.specs.declared.fault.UpgradeFault.{UpgradeFault}
use Rattle.upgrade_core.specs.declared.fault.UpgradeFault.TheVariants as fault
use Rattle.upgrade_core.specs.declared.file.SourceFile.{SourceFile}
use Rattle.upgrade_core.specs.Files.{file_of}
use Rattle.php_tree.specs.declared.version.Version.TheVariants.{V74}
use Rattle.php_rows.specs.File.{file_in}
use Rattle.php_reading.specs.Reading.{Reads}
use Rattle.php_tree.specs.Tree.{File}
use Rattle.php_rows.specs.declared.file.RowTree.{RowTree}
use Rattle.io_ports.specs.Files as ports
use Rattle.upgrade_core.specs.Trees.{HasNoTree, AreRead, IsFirstUnread}
use Rattle.upgrade_core.specs.Rows.{Rows, IsRow, AreRows, AreAllRead, trees_of, IsFileReading, IsReadFault}

-- one row more
pub rows_next : (fs : List ports.File) (rows : Rows) (f : ports.File) (row : List ℕ × RowTree) → AreRows fs rows → IsRow f row
    → AreRows (fs ++ f ∷ []) (rows ++ row ∷ [])
rows_next [] [] f row h one = (one, tt)
rows_next [] (r ∷ rows) f row h one = absurd h
rows_next (g ∷ fs) [] f row h one = absurd h
rows_next (g ∷ fs) (r ∷ rows) f row h one = (h.0, rows_next fs rows f row h.1 one)

-- a file without a tree behind files with theirs is the first such
pub first_unread : (before : List ports.File) (f : ports.File) (behind : List ports.File) (rows : Rows) (path : List ℕ)
    → AreRows before rows → path ≡ f.0 → HasNoTree f.1 → IsFirstUnread (before ++ f ∷ behind) path
first_unread [] f behind rows path h e none = inl (e, none)
first_unread (g ∷ before) f behind [] path h e none = absurd h
first_unread (g ∷ before) f behind (r ∷ rows) path h e none =
    inr ((_, h.0.1), first_unread before f behind rows path h.1 e none)

-- each row is read
pub all_read : (fs : List ports.File) (rows : Rows) → AreRows fs rows → AreAllRead rows
all_read [] [] h = tt
all_read [] (r ∷ rows) h = absurd h
all_read (f ∷ fs) [] h = absurd h
all_read (f ∷ fs) (r ∷ rows) h = ((f.1, h.0.1), all_read fs rows h.1)

-- the trees of the rows are those of the files
pub trees_read : (fs : List ports.File) (rows : Rows) → AreRows fs rows → AreRead fs (trees_of rows)
trees_read [] [] h = tt
trees_read [] (r ∷ rows) h = absurd h
trees_read (f ∷ fs) [] h = absurd h
trees_read (f ∷ fs) (r ∷ rows) h = (h.0, trees_read fs rows h.1)

-- so is the one at a place
pub read_at : (rows : Rows) (i : ℕ) (d : List ℕ × RowTree) → AreAllRead rows → i < length rows
    → (bytes : List ℕ) × Reads V74 bytes (file_in (get_or rows i d).1)
read_at [] i d h below = absurd (omega (arith, below))
read_at (r ∷ rows) zero d h below = h.0
read_at (r ∷ rows) (suc i) d h below = read_at rows i d h.1 (omega (arith, below))

-- ---- files, one after another

next_is : (n : ℕ) → suc n ≡ n + 1
next_is n = omega arith

-- the files up to one, that one, and those behind it
parted : (files : List SourceFile) (i : ℕ) (file d : SourceFile) → i < length files → file ≡ get_or files i d
    → map file_of files ≡ map file_of (take i files) ++ file_of file ∷ map file_of (drop (suc i) files)
parted files i file d below is =
    ap (λ fs. map file_of fs)
    (sym (take-append-drop i files)
    ∙ ap (λ (rest : List SourceFile). take i files ++ rest)
    (drop-cons files i d below ∙ ap (λ f. f ∷ drop (suc i) files) (sym is)))
    ∙ map-append file_of (take i files) (file ∷ drop (suc i) files)

-- one more is read
pub rows_more : (files : List SourceFile) (i : ℕ) (file d : SourceFile) (old new : Rows) (row : List ℕ × RowTree) → i < length files
    → file ≡ get_or files i d → AreRows (map file_of (take i files)) old → new ≡ old ++ row ∷ [] → IsRow (file_of file) row
    → AreRows (map file_of (take (i + 1) files)) new
rows_more files i file d old new row below is h e one =
    let before : map file_of (take i files) ++ file_of file ∷ [] ≡ map file_of (take (i + 1) files) =
    sym (map-append file_of (take i files) (file ∷ []))
    ∙ ap (λ fs. map file_of fs)
    (ap (λ f. take i files ++ f ∷ []) is ∙ sym (take-suc files i d below) ∙ ap (λ n. take n files) (next_is i)) in
    subst (λ (fs : List ports.File). AreRows fs new) before
    (subst (λ (rows : Rows). AreRows (map file_of (take i files) ++ file_of file ∷ []) rows) (sym e)
    (rows_next (map file_of (take i files)) old (file_of file) row h one))

-- one has no tree
pub unread_at : (files : List SourceFile) (i : ℕ) (file d : SourceFile) (rows : Rows) (e : UpgradeFault) → i < length files
    → file ≡ get_or files i d → AreRows (map file_of (take i files)) rows → IsFileReading (file_of file) (Err e)
    → IsReadFault (map file_of files) e
unread_at files i file d rows (fault.Source path) below is h one =
    subst (λ (fs : List ports.File). IsFirstUnread fs path) (sym (parted files i file d below is))
    (first_unread (map file_of (take i files)) (file_of file) (map file_of (drop (suc i) files)) rows path h one.0 one.1)
unread_at files i file d rows (fault.Names n) below is h one = absurd one
unread_at files i file d rows (fault.Limit l) below is h one = absurd one
unread_at files i file d rows (fault.Sink at) below is h one = absurd one
unread_at files i file d rows fault.Memory below is h one = tt

-- all are read
pub rows_all : (files : List SourceFile) (i : ℕ) (rows : Rows) → length files ≤ i → AreRows (map file_of (take i files)) rows
    → AreRows (map file_of files) rows
rows_all files i rows all h = subst (λ (fs : List SourceFile). AreRows (map file_of fs) rows) (take_all i files all) h

-- ---- within the limits

-- a file of files within them is, and so are those behind it
pub first_within : (sum : ℕ) (f : ports.File) (fs : List ports.File) → bytes_limit sum (f ∷ fs) ≡ None
    → (length f.1 ≤ 1048576) × (bytes_limit (sum + length f.1) fs ≡ None)
first_within sum f fs e = by (nat_lt 1048576 (length f.1)) (nat_lt 4194304 (sum + length f.1)) refl e
  where
    by : (own all : Bool) → nat_lt 1048576 (length f.1) ≡ own
        → (if own then limit kind.FileBytes 1048577
        else (if all then limit kind.AllBytes 4194305 else bytes_limit (sum + length f.1) fs)) ≡ None
        → (length f.1 ≤ 1048576) × (bytes_limit (sum + length f.1) fs ≡ None)
    by true all is h = absurd (let no : ⊥ = cc in no)
    by false true is h = absurd (let no : ⊥ = cc in no)
    by false false is h = (ltb-false 1048576 (length f.1) is, h)

pub small_at : (files : List SourceFile) (sum i : ℕ) (d : SourceFile) → bytes_limit sum (map file_of files) ≡ None
    → i < length files → length (get_or files i d).bytes ≤ 1048576
small_at [] sum i d e below = absurd (omega (arith, below))
small_at (f ∷ files) sum zero d e below = (first_within sum (file_of f) (map file_of files) e).0
small_at (f ∷ files) sum (suc i) d e below =
    small_at files (sum + length f.bytes) i d (first_within sum (file_of f) (map file_of files) e).1 (omega (arith, below))
