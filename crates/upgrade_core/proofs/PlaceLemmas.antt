-- Places of nodes.
use Rattle.std.proofs.Common.{◌≡◌, ◌≤◌, ℕ, zero, suc, ◌+◌, List, [], ◌∷◌, length, map, slice_get, refl, ap, ap₂, sym, ◌∙◌, subst}
use Rattle.std.specs.Prelude.{Some, None}
use Rattle.std.proofs.lemmas.Option.{same_Some, none-some}
use Rattle.php_tree.specs.declared.version.Version.TheVariants.{V74}
use Rattle.php_tree.specs.Tree.{File}
use Rattle.php_reading.specs.Reading.{Reads}
use Rattle.php_reading.proofs.Trees.{one_tree}
use Rattle.file_declarations.specs.declared.node_ref.NodeRef.{NodeRef}
use Rattle.io_ports.specs.Files as ports
use Rattle.upgrade_core.specs.declared.file.SourceFile.{SourceFile}
use Rattle.upgrade_core.specs.Files.{file_of, Trees}
use Rattle.upgrade_core.specs.Limits.{bytes_limit}
use Rattle.upgrade_core.specs.Names.{start_in, place, place_at}
use Rattle.upgrade_core.specs.Trees.{AreRead}
use Rattle.upgrade_core.proofs.RowLemmas.{first_within}

-- in the tree that was read, and so in each that may be
pub begins : (bytes : List ℕ) (tree : File) (node start : ℕ) → Reads V74 bytes tree → start ≡ start_in tree node
    → (other : File) → Reads V74 bytes other → start ≡ start_in other node
begins bytes tree node start r e other q =
    e ∙ ap (λ (t : File). start_in t node) (one_tree V74 bytes tree other r q)

-- ---- the file of a number

-- there is none
pub no_place : (files : List SourceFile) (trees : Trees) (at : NodeRef) → slice_get files at.file ≡ None → AreRead (map file_of files) trees
    → place [] 0 ≡ place_at trees at
no_place files trees at e read = by files trees at.file e read
  where
    by : (fs : List SourceFile) (ts : Trees) (i : ℕ) → slice_get fs i ≡ None → AreRead (map file_of fs) ts
        → place [] 0 ≡ (elim (slice_get ts i) [ None ↦ place [] 0 | Some t ↦ place t.0 (start_in t.1 at.node) ])
    by [] [] i e h = refl
    by [] (t ∷ ts) i e h = absurd h
    by (f ∷ fs) [] i e h = absurd h
    by (f ∷ fs) (t ∷ ts) zero e h = absurd (none-some f (sym e))
    by (f ∷ fs) (t ∷ ts) (suc i) e h = by fs ts i e h.1

pub placed : (files : List SourceFile) (f : SourceFile) (at : NodeRef) (start : ℕ) → slice_get files at.file ≡ Some f
    → ((tree : File) → Reads V74 f.bytes tree → start ≡ start_in tree at.node)
    → (trees : Trees) → AreRead (map file_of files) trees → place f.path start ≡ place_at trees at
placed files f at start e h trees read = by files trees at.file e read
  where
    by : (fs : List SourceFile) (ts : Trees) (i : ℕ) → slice_get fs i ≡ Some f → AreRead (map file_of fs) ts
        → place f.path start ≡ (elim (slice_get ts i) [ None ↦ place [] 0 | Some t ↦ place t.0 (start_in t.1 at.node) ])
    by [] ts i e r = absurd (none-some f e)
    by (g ∷ fs) [] i e r = absurd r
    by (g ∷ fs) (t ∷ ts) zero e r =
        let same : g ≡ f = same_Some g f e in
        let path : f.path ≡ t.0 = ap (λ (x : SourceFile). x.path) (sym same) ∙ sym r.0.0 in
        let reads : Reads V74 f.bytes t.1 = subst (λ (x : SourceFile). Reads V74 x.bytes t.1) same r.0.1 in
        ap₂ (λ (p : List ℕ) (n : ℕ). place p n) path (h t.1 reads)
    by (g ∷ fs) (t ∷ ts) (suc i) e r = by fs ts i e r.1

pub small_of : (files : List SourceFile) (f : SourceFile) (i sum : ℕ) → slice_get files i ≡ Some f → bytes_limit sum (map file_of files) ≡ None
    → length f.bytes ≤ 1048576
small_of [] f i sum e h = absurd (none-some f e)
small_of (g ∷ files) f zero sum e h =
    subst (λ (x : SourceFile). length x.bytes ≤ 1048576) (same_Some g f e) (first_within sum (file_of g) (map file_of files) h).0
small_of (g ∷ files) f (suc i) sum e h =
    small_of files f i (sum + length g.bytes) e (first_within sum (file_of g) (map file_of files) h).1
